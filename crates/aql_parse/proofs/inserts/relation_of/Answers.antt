use Rattle.std.proofs.Common.{[], ◌∷◌, ◌-◌, length, take, drop, arith}
use Rattle.std.proofs.lemmas.Bool.Decides.{nat_tests}
use Rattle.std.proofs.lemmas.List.{take_rest}
use Rattle.db_model.specs.declared.tokens.Keyword.TheVariants.{KINTO}
use Rattle.db_model.specs.declared.tokens.Token.TheVariants.{Word, Name}
use Rattle.aql_parse.proofs.Fronts.{token_in_front, both_in_front, all_in_front, nothing_left}
use Rattle.aql_parse.proofs.GivesUp.{no_token, after, more_behind}
use Rattle.aql_parse.proofs.inserts.relation_of.Goals as goal

pub returns-then-is_empty-clause-relation : goal.returns-then-is_empty-clause-relation
returns-then-is_empty-clause-relation c =
    let word = c.past_white-word.result.now in
    let name = c.past_white-name.result.now in
    let len = c.in-Some.len in
    let found = c.in-Some-name_at.found in
    let mid = take (length word - len) (drop len word) in
    let end = take (length name - found.1) (drop found.1 name) in
    let first = token_in_front c.args.bytes.now word mid (Word KINTO) len c.past_white-word.ensures c.in-Some.ensures.token c.in-Some.ensures.within.0 c.in-Some.ensures.within.1 (take_rest word len) in
    let second = token_in_front mid name end (Name found.0) found.1 c.past_white-name.ensures c.in-Some-name_at.ensures.token c.in-Some-name_at.ensures.within.0 c.in-Some-name_at.ensures.within.1 (take_rest name found.1) in
    let none = nothing_left end c.past_white.result.now c.past_white.ensures (grind (arith, nat_tests)) in
    let both = both_in_front (Word KINTO ∷ []) (Name found.0 ∷ []) c.args.bytes.now mid end first second in
    all_in_front (Word KINTO ∷ Name found.0 ∷ []) [] c.args.bytes.now end both none

pub returns-in_default-clause-none : goal.returns-in_default-clause-none
returns-in_default-clause-none c = λ relation.
    no_token c.args.bytes.now c.past_white-word.result.now (Word KINTO) (Name relation ∷ []) c.past_white-word.ensures c.in_default.ensures.none []

pub returns-in_default-name_at-clause-none : goal.returns-in_default-name_at-clause-none
returns-in_default-name_at-clause-none c = λ relation a.
    let bytes = c.args.bytes.now in
    let word = c.past_white-word.result.now in
    let len = c.in-Some.len in
    let mid = take (length word - len) (drop len word) in
    let first = token_in_front bytes word mid (Word KINTO) len c.past_white-word.ensures c.in-Some.ensures.token c.in-Some.ensures.within.0 c.in-Some.ensures.within.1 (take_rest word len) in
    no_token mid c.past_white-name.result.now (Name relation) [] c.past_white-name.ensures (c.in_default-name_at.ensures.none relation) [] (after (Word KINTO ∷ []) (Name relation ∷ []) bytes mid first a)

pub returns-else-is_empty-clause-none : goal.returns-else-is_empty-clause-none
returns-else-is_empty-clause-none c =
    let word = c.past_white-word.result.now in
    let name = c.past_white-name.result.now in
    let len = c.in-Some.len in
    let found = c.in-Some-name_at.found in
    let mid = take (length word - len) (drop len word) in
    let end = take (length name - found.1) (drop found.1 name) in
    let first = token_in_front c.args.bytes.now word mid (Word KINTO) len c.past_white-word.ensures c.in-Some.ensures.token c.in-Some.ensures.within.0 c.in-Some.ensures.within.1 (take_rest word len) in
    let second = token_in_front mid name end (Name found.0) found.1 c.past_white-name.ensures c.in-Some-name_at.ensures.token c.in-Some-name_at.ensures.within.0 c.in-Some-name_at.ensures.within.1 (take_rest name found.1) in
    more_behind c.args.bytes.now mid end c.past_white.result.now found.0 first second c.past_white.ensures (λ e. grind (arith, nat_tests))
