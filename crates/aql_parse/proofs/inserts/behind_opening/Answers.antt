use Rattle.std.proofs.Common.{[], ◌∷◌, ◌-◌, length, take, drop, refl}
use Rattle.std.proofs.lemmas.List.{take_rest}
use Rattle.db_model.specs.declared.tokens.Keyword.TheVariants.{KINSERT}
use Rattle.db_model.specs.declared.tokens.Sign.TheVariants.{LeftBracket}
use Rattle.db_model.specs.declared.tokens.Token.TheVariants.{Word, Sign}
use Rattle.aql_parse.proofs.Fronts.{token_in_front, sign_in_front, both_in_front}
use Rattle.aql_parse.proofs.GivesUp.{no_token, no_sign, after}
use Rattle.aql_parse.proofs.inserts.behind_opening.Goals as goal

pub returns-clause-behind : goal.returns-clause-behind
returns-clause-behind c =
    let word = c.past_white-word.result.now in
    let sign = c.past_white-sign.result.now in
    let len = c.in-Some.len in
    let behind = c.in-Some-behind_byte.behind.now in
    let mid = take (length word - len) (drop len word) in
    let first = token_in_front c.args.bytes.now word mid (Word KINSERT) len c.past_white-word.ensures c.in-Some.ensures.token c.in-Some.ensures.within.0 c.in-Some.ensures.within.1 (take_rest word len) in
    let second = sign_in_front mid sign behind 40 LeftBracket c.past_white-sign.ensures c.in-Some-behind_byte.ensures.behind refl in
    both_in_front (Word KINSERT ∷ []) (Sign LeftBracket ∷ []) c.args.bytes.now mid behind first second

pub returns-in_default-clause-none : goal.returns-in_default-clause-none
returns-in_default-clause-none c =
    no_token c.args.bytes.now c.past_white-word.result.now (Word KINSERT) (Sign LeftBracket ∷ []) c.past_white-word.ensures c.in_default.ensures.none

pub returns-in_default-behind_byte-clause-none : goal.returns-in_default-behind_byte-clause-none
returns-in_default-behind_byte-clause-none c = λ rest a.
    let bytes = c.args.bytes.now in
    let word = c.past_white-word.result.now in
    let len = c.in-Some.len in
    let mid = take (length word - len) (drop len word) in
    let first = token_in_front bytes word mid (Word KINSERT) len c.past_white-word.ensures c.in-Some.ensures.token c.in-Some.ensures.within.0 c.in-Some.ensures.within.1 (take_rest word len) in
    no_sign mid c.past_white-sign.result.now LeftBracket [] c.past_white-sign.ensures c.in_default-behind_byte.ensures.none rest (after (Word KINSERT ∷ []) (Sign LeftBracket ∷ rest) bytes mid first a)
