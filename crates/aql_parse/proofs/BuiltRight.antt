-- Where tokens spell a command, it is the one that is built of them.
use Rattle.std.proofs.Common.{◌≡◌, ℕ, suc, ◌+◌, ◌-◌, ◌*◌, ◌≤◌, Bool, true, false, List, [], ◌∷◌, ◌++◌, length, take, Option, Some, None, refl, ◌∙◌, ap, arith, length-append, nat_le, nat_lt, if◌then◌else◌}
use Rattle.std.proofs.lemmas.Bool.Decides.{nat_tests}
use Rattle.std.proofs.Math.Seq.{take-append-add}
use Rattle.std.proofs.lemmas.List.{take_all}
use Rattle.std.specs.Option.{option_map, option_and_then}
use Rattle.db_model.specs.Grammar.{Listed, one, more, ListOf, NameItem, a_name, ValueItem, number_value, minus_value, text_value, AggItem, an_aggregate, agg_word, int, long, time, string, IsQuery, select, join, Spells, create_relation, create_attribute, create_index, insert, ask, aggregate, remove_from, remove_relation, remove_index, pack, open_cursor, fetch_cursor, close_cursor}
use Rattle.db_model.specs.Spelling.{query_nodes, nodes_of}
use Rattle.db_model.specs.declared.commands.Agg.{Agg}
use Rattle.db_model.specs.declared.commands.Agg.TheVariants as agg
use Rattle.db_model.specs.declared.commands.Command.{Command}
use Rattle.db_model.specs.declared.commands.Command.TheVariants as command
use Rattle.db_model.specs.declared.commands.Node.{Node}
use Rattle.db_model.specs.declared.commands.Query.{Query}
use Rattle.db_model.specs.declared.commands.Query.TheVariants as query
use Rattle.db_model.specs.declared.schemas.IndexKind.TheVariants as kind
use Rattle.db_model.specs.declared.tokens.Keyword.TheVariants.{KFROM, KINTO, KON, KPROJECT, KSELECT, KOPEN}
use Rattle.db_model.specs.declared.tokens.Sign.TheVariants.{LeftBracket, RightBracket, Comma}
use Rattle.db_model.specs.declared.tokens.Token.{Token}
use Rattle.db_model.specs.declared.tokens.Token.TheVariants.{Word, Name, Number, Sign}
use Rattle.db_model.specs.declared.values.Value.{Value}
use Rattle.aql_parse.specs.Built.{at_most_8, name_tokens, values_in, aggregates_in, relation_in, select_of, insert_of, join_read, query_of, selection_of, aggregate_read, first_tokens, command_of}
use Rattle.aql_parse.proofs.Collecting.{within}

few : {A : Type 0} (xs : List A) → length xs ≤ 8 → at_most_8 xs ≡ Some xs
few xs h = ap (λ b. if b then Some xs else None) (within xs (nat_le (length xs) 8) refl h)

-- ---- lists

-- names before FROM, or to the end
names_before : (list : List (List ℕ)) (ts : List Token) → Listed NameItem list ts → (rest : List Token) → name_tokens rest ≡ [] → name_tokens (ts ++ rest) ≡ list
names_before _ _ (one _ _ (a_name n)) rest e = ap (λ ns. n ∷ ns) e
names_before _ _ (more _ as_ _ ys (a_name n) l) rest e = ap (λ ns. n ∷ ns) (names_before as_ ys l rest e)

names_all : (list : List (List ℕ)) (ts : List Token) → Listed NameItem list ts → name_tokens ts ≡ list
names_all _ _ (one _ _ (a_name n)) = refl
names_all _ _ (more _ as_ _ ys (a_name n) l) = ap (λ ns. n ∷ ns) (names_all as_ ys l)

values_before : (list : List Value) (ts : List Token) → Listed ValueItem list ts → (r : List ℕ) → values_in false (ts ++ Sign RightBracket ∷ Word KINTO ∷ Name r ∷ []) ≡ list
values_before _ _ (one _ _ (number_value z)) r = refl
values_before _ _ (one _ _ (minus_value z)) r = refl
values_before _ _ (one _ _ (text_value bytes)) r = refl
values_before _ _ (more v as_ _ ys (number_value z) l) r = ap (λ vs. v ∷ vs) (values_before as_ ys l r)
values_before _ _ (more v as_ _ ys (minus_value z) l) r = ap (λ vs. v ∷ vs) (values_before as_ ys l r)
values_before _ _ (more v as_ _ ys (text_value bytes) l) r = ap (λ vs. v ∷ vs) (values_before as_ ys l r)

-- the relation behind a list
behind_names : (list : List (List ℕ)) (ts : List Token) → Listed NameItem list ts → (rest : List Token) → relation_in (ts ++ rest) ≡ relation_in rest
behind_names _ _ (one _ _ (a_name n)) rest = refl
behind_names _ _ (more _ as_ _ ys (a_name n) l) rest = behind_names as_ ys l rest

behind_values : (list : List Value) (ts : List Token) → Listed ValueItem list ts → (rest : List Token) → relation_in (ts ++ rest) ≡ relation_in rest
behind_values _ _ (one _ _ (number_value z)) rest = refl
behind_values _ _ (one _ _ (minus_value z)) rest = refl
behind_values _ _ (one _ _ (text_value bytes)) rest = refl
behind_values _ _ (more _ as_ _ ys (number_value z) l) rest = behind_values as_ ys l rest
behind_values _ _ (more _ as_ _ ys (minus_value z) l) rest = behind_values as_ ys l rest
behind_values _ _ (more _ as_ _ ys (text_value bytes) l) rest = behind_values as_ ys l rest

-- an aggregate's tokens, and others
behind_aggregate : (a : Agg) (n : List ℕ) (rest : List Token) → relation_in (Word (agg_word a) ∷ Sign LeftBracket ∷ Name n ∷ Sign RightBracket ∷ rest) ≡ relation_in rest
behind_aggregate agg.Count n rest = refl
behind_aggregate agg.Sum n rest = refl
behind_aggregate agg.Min n rest = refl
behind_aggregate agg.Max n rest = refl
behind_aggregate agg.Mean n rest = refl
behind_aggregate agg.Median n rest = refl

behind_aggregates : (list : List (Agg × List ℕ)) (ts : List Token) → Listed AggItem list ts → (rest : List Token) → relation_in (ts ++ rest) ≡ relation_in rest
behind_aggregates _ _ (one _ _ (an_aggregate a n)) rest = behind_aggregate a n rest
behind_aggregates _ _ (more _ as_ _ ys (an_aggregate a n) l) rest = behind_aggregate a n (Sign Comma ∷ (ys ++ rest)) ∙ behind_aggregates as_ ys l rest

first_aggregate : (a : Agg) (n : List ℕ) (rest : List Token) → aggregates_in (Word (agg_word a) ∷ Sign LeftBracket ∷ Name n ∷ Sign RightBracket ∷ rest) ≡ (a, n) ∷ aggregates_in rest
first_aggregate agg.Count n rest = refl
first_aggregate agg.Sum n rest = refl
first_aggregate agg.Min n rest = refl
first_aggregate agg.Max n rest = refl
first_aggregate agg.Mean n rest = refl
first_aggregate agg.Median n rest = refl

aggregates_before : (list : List (Agg × List ℕ)) (ts : List Token) → Listed AggItem list ts → (rest : List Token) → aggregates_in rest ≡ [] → aggregates_in (ts ++ rest) ≡ list
aggregates_before _ _ (one _ _ (an_aggregate a n)) rest e = first_aggregate a n rest ∙ ap (λ x. (a, n) ∷ x) e
aggregates_before _ _ (more _ as_ _ ys (an_aggregate a n) l) rest e = first_aggregate a n (Sign Comma ∷ (ys ++ rest)) ∙ ap (λ x. (a, n) ∷ x) (aggregates_before as_ ys l rest e)

-- ---- queries

long_enough : (ts : List Token) (b : Bool) → nat_lt (length ts) 6 ≡ b → 6 ≤ length ts → b ≡ false
long_enough ts false e h = refl
long_enough ts true e h = absurd (grind (arith, nat_tests))

select_built : (list : List (List ℕ)) (r : List ℕ) (nodes : List Node) (ts us : List Token) → ListOf NameItem list ts → select_of (ts ++ Word KFROM ∷ Name r ∷ us) nodes ≡ Some (query.Select list r nodes)
select_built list r nodes ts us l =
    let all : List Token = ts ++ Word KFROM ∷ Name r ∷ us in
    let made : Option (List ℕ) → Option (List (List ℕ)) → Option Query = λ r l. option_and_then (λ relation. option_map (λ list. query.Select list relation nodes) l) r in
    ap (λ x. made x (at_most_8 (name_tokens all))) (behind_names list ts l.listed (Word KFROM ∷ Name r ∷ us))
    ∙ ap (λ x. made (Some r) (at_most_8 x)) (names_before list ts l.listed (Word KFROM ∷ Name r ∷ us) refl)
    ∙ ap (made (Some r)) (few list l.few)

join_built : (left right on : List ℕ) (list : List (List ℕ)) (ts : List Token) → ListOf NameItem list ts →
    join_read (Name left ∷ Sign Comma ∷ Name right ∷ Word KON ∷ Name on ∷ Word KPROJECT ∷ ts) ≡ Some (query.Join left right on list)
join_built left right on list ts l =
    let word : List Token = Name left ∷ Sign Comma ∷ Name right ∷ Word KON ∷ Name on ∷ Word KPROJECT ∷ ts in
    let f : Option (List (List ℕ)) → Option Query = option_map (λ list. query.Join left right on list) in
    ap f (ap (λ b. if b then None else at_most_8 (name_tokens ts)) (long_enough word (nat_lt (length word) 6) refl (omega arith)))
    ∙ ap (λ x. f (at_most_8 x)) (names_all list ts l.listed)
    ∙ ap f (few list l.few)

query_built : (q : Query) (ts : List Token) → IsQuery q ts → query_of ts (query_nodes q) ≡ Some q
query_built _ _ (select list r nodes ts us l w) = select_built list r nodes ts us l
query_built _ _ (join left right on list ts l) = join_built left right on list ts l

selection_names : (list : List (List ℕ)) (ts : List Token) → Listed NameItem list ts → (rest : List Token) (nodes : List Node) → selection_of (ts ++ rest) nodes ≡ option_map (λ q. command.Ask q) (select_of (ts ++ rest) nodes)
selection_names _ _ (one _ _ (a_name n)) rest nodes = refl
selection_names _ _ (more _ as_ _ ys (a_name n) l) rest nodes = refl

selection_word : (a : Agg) (rest : List Token) (nodes : List Node) → selection_of (Word (agg_word a) ∷ rest) nodes ≡ aggregate_read (Word (agg_word a) ∷ rest) nodes
selection_word agg.Count rest nodes = refl
selection_word agg.Sum rest nodes = refl
selection_word agg.Min rest nodes = refl
selection_word agg.Max rest nodes = refl
selection_word agg.Mean rest nodes = refl
selection_word agg.Median rest nodes = refl

selection_aggregates : (list : List (Agg × List ℕ)) (ts : List Token) → Listed AggItem list ts → (rest : List Token) (nodes : List Node) → selection_of (ts ++ rest) nodes ≡ aggregate_read (ts ++ rest) nodes
selection_aggregates _ _ (one _ _ (an_aggregate a n)) rest nodes = selection_word a (Sign LeftBracket ∷ Name n ∷ Sign RightBracket ∷ rest) nodes
selection_aggregates _ _ (more _ as_ _ ys (an_aggregate a n) l) rest nodes = selection_word a (Sign LeftBracket ∷ Name n ∷ Sign RightBracket ∷ Sign Comma ∷ (ys ++ rest)) nodes

aggregate_built : (list : List (Agg × List ℕ)) (r : List ℕ) (nodes : List Node) (ts us : List Token) → ListOf AggItem list ts → aggregate_read (ts ++ Word KFROM ∷ Name r ∷ us) nodes ≡ Some (command.Aggregate list r nodes)
aggregate_built list r nodes ts us l =
    let all : List Token = ts ++ Word KFROM ∷ Name r ∷ us in
    let made : Option (List ℕ) → Option (List (Agg × List ℕ)) → Option Command = λ r l. option_and_then (λ relation. option_map (λ list. command.Aggregate list relation nodes) l) r in
    ap (λ x. made x (at_most_8 (aggregates_in all))) (behind_aggregates list ts l.listed (Word KFROM ∷ Name r ∷ us))
    ∙ ap (λ x. made (Some r) (at_most_8 x)) (aggregates_before list ts l.listed (Word KFROM ∷ Name r ∷ us) refl)
    ∙ ap (made (Some r)) (few list l.few)

-- ---- what follows a relation's name tells nothing

ask_built : (list : List (List ℕ)) (r : List ℕ) (nodes : List Node) (ts us : List Token) → ListOf NameItem list ts → command_of (Word KSELECT ∷ (ts ++ Word KFROM ∷ Name r ∷ us)) nodes ≡ Some (command.Ask (query.Select list r nodes))
ask_built list r nodes ts us l = selection_names list ts l.listed (Word KFROM ∷ Name r ∷ us) nodes ∙ ap (option_map (λ q. command.Ask q)) (select_built list r nodes ts us l)

aggregates_built : (list : List (Agg × List ℕ)) (r : List ℕ) (nodes : List Node) (ts us : List Token) → ListOf AggItem list ts → command_of (Word KSELECT ∷ (ts ++ Word KFROM ∷ Name r ∷ us)) nodes ≡ Some (command.Aggregate list r nodes)
aggregates_built list r nodes ts us l = selection_aggregates list ts l.listed (Word KFROM ∷ Name r ∷ us) nodes ∙ aggregate_built list r nodes ts us l

-- ---- commands

insert_built : (list : List Value) (r : List ℕ) (ts : List Token) → ListOf ValueItem list ts → insert_of (Sign LeftBracket ∷ (ts ++ Sign RightBracket ∷ Word KINTO ∷ Name r ∷ [])) ≡ Some (command.Insert list r)
insert_built list r ts l =
    let all : List Token = ts ++ Sign RightBracket ∷ Word KINTO ∷ Name r ∷ [] in
    let made : Option (List ℕ) → Option (List Value) → Option Command = λ r l. option_and_then (λ relation. option_map (λ values. command.Insert values relation) l) r in
    ap (λ x. made x (at_most_8 (values_in false all))) (behind_values list ts l.listed (Sign RightBracket ∷ Word KINTO ∷ Name r ∷ []))
    ∙ ap (λ x. made (Some r) (at_most_8 x)) (values_before list ts l.listed r)
    ∙ ap (made (Some r)) (few list l.few)

pub spells_built : (c : Command) (ts : List Token) → Spells c ts → command_of ts (nodes_of c) ≡ Some c
spells_built _ _ (create_relation n) = refl
spells_built _ _ (create_attribute n _ r _ int) = refl
spells_built _ _ (create_attribute n _ r _ long) = refl
spells_built _ _ (create_attribute n _ r _ (time m e)) = refl
spells_built _ _ (create_attribute n _ r _ (string z)) = refl
spells_built _ _ (create_index r a kind.Inline) = refl
spells_built _ _ (create_index r a kind.MaxHeap) = refl
spells_built _ _ (create_index r a kind.MemHash) = refl
spells_built _ _ (insert list r ts l) = insert_built list r ts l
spells_built _ _ (ask _ _ (select list r nodes ts us l w)) = ask_built list r nodes ts us l
spells_built _ _ (ask _ _ (join left right on list ts l)) = ap (option_map (λ q. command.Ask q)) (join_built left right on list ts l)
spells_built _ _ (aggregate list r nodes ts us l w) = aggregates_built list r nodes ts us l
spells_built _ _ (remove_from r nodes us w) = refl
spells_built _ _ (remove_relation r) = refl
spells_built _ _ (remove_index r a) = refl
spells_built _ _ (pack r) = refl
spells_built _ _ (open_cursor z q ts p) = ap (option_map (λ q. command.OpenCursor z q)) (query_built q ts p)
spells_built _ _ (fetch_cursor z) = refl
spells_built _ _ (close_cursor z) = refl

-- ---- the first tokens tell as much as all

-- how many tokens a list has

names_length : (list : List (List ℕ)) (ts : List Token) → Listed NameItem list ts → length ts + 1 ≤ 2 * length list
names_length _ _ (one _ _ (a_name n)) = omega arith
names_length _ _ (more _ as_ _ ys (a_name n) l) = omega (arith, names_length as_ ys l)

values_length : (list : List Value) (ts : List Token) → Listed ValueItem list ts → length ts + 1 ≤ 3 * length list
values_length _ _ (one _ _ (number_value z)) = omega arith
values_length _ _ (one _ _ (minus_value z)) = omega arith
values_length _ _ (one _ _ (text_value bytes)) = omega arith
values_length _ _ (more _ as_ _ ys (number_value z) l) = omega (arith, values_length as_ ys l)
values_length _ _ (more _ as_ _ ys (minus_value z) l) = omega (arith, values_length as_ ys l)
values_length _ _ (more _ as_ _ ys (text_value bytes) l) = omega (arith, values_length as_ ys l)

aggregates_length : (list : List (Agg × List ℕ)) (ts : List Token) → Listed AggItem list ts → length ts + 1 ≤ 5 * length list
aggregates_length _ _ (one _ _ (an_aggregate a n)) = omega arith
aggregates_length _ _ (more _ as_ _ ys (an_aggregate a n) l) = omega (arith, aggregates_length as_ ys l)

-- what is kept behind a relation's name
kept_behind : (n : ℕ) (ts us : List Token) (r : List ℕ) → length ts + 2 ≤ n → take n (ts ++ Word KFROM ∷ Name r ∷ us) ≡ ts ++ Word KFROM ∷ Name r ∷ take (n - (length ts + 2)) us
kept_behind n ts us r h =
    let size : n ≡ length ts + suc (suc (n - (length ts + 2))) = omega (arith, h) in
    ap (λ k. take k (ts ++ Word KFROM ∷ Name r ∷ us)) size ∙ take-append-add ts (Word KFROM ∷ Name r ∷ us) (suc (suc (n - (length ts + 2))))

whole_built : (c : Command) (ts : List Token) → Spells c ts → length ts ≤ 42 → command_of (first_tokens ts) (nodes_of c) ≡ Some c
whole_built c ts s h = ap (λ x. command_of x (nodes_of c)) (take_all 42 ts h) ∙ spells_built c ts s

-- where tokens spell a command, it is built of the first of them
pub head_built : (c : Command) (ts : List Token) → Spells c ts → command_of (first_tokens ts) (nodes_of c) ≡ Some c
head_built _ _ (create_relation n) = refl
head_built _ _ (create_attribute n _ r _ int) = refl
head_built _ _ (create_attribute n _ r _ long) = refl
head_built _ _ (create_attribute n _ r _ (time m e)) = refl
head_built _ _ (create_attribute n _ r _ (string z)) = refl
head_built _ _ (create_index r a kind.Inline) = refl
head_built _ _ (create_index r a kind.MaxHeap) = refl
head_built _ _ (create_index r a kind.MemHash) = refl
head_built _ _ (insert list r ts l) = whole_built _ _ (insert list r ts l) (omega (arith, length-append ts (Sign RightBracket ∷ Word KINTO ∷ Name r ∷ []), values_length list ts l.listed, l.few))
head_built _ _ (ask _ _ (select list r nodes ts us l w)) =
    ap (λ x. command_of (Word KSELECT ∷ x) nodes) (kept_behind 41 ts us r (omega (arith, names_length list ts l.listed, l.few))) ∙ ask_built list r nodes ts (take (41 - (length ts + 2)) us) l
head_built _ _ (ask _ _ (join left right on list ts l)) = whole_built _ _ (ask _ _ (join left right on list ts l)) (omega (arith, names_length list ts l.listed, l.few))
head_built _ _ (aggregate list r nodes ts us l w) =
    ap (λ x. command_of (Word KSELECT ∷ x) nodes) (kept_behind 41 ts us r (omega (arith, aggregates_length list ts l.listed, l.few))) ∙ aggregates_built list r nodes ts (take (41 - (length ts + 2)) us) l
head_built _ _ (remove_from r nodes us w) = refl
head_built _ _ (remove_relation r) = refl
head_built _ _ (remove_index r a) = refl
head_built _ _ (pack r) = refl
head_built _ _ (open_cursor z _ _ (select list r nodes ts us l w)) =
    ap (λ x. command_of (Word KOPEN ∷ Number z ∷ Word KSELECT ∷ x) nodes) (kept_behind 39 ts us r (omega (arith, names_length list ts l.listed, l.few)))
    ∙ ap (option_map (λ q. command.OpenCursor z q)) (select_built list r nodes ts (take (39 - (length ts + 2)) us) l)
head_built _ _ (open_cursor z _ _ (join left right on list ts l)) = whole_built _ _ (open_cursor z _ _ (join left right on list ts l)) (omega (arith, names_length list ts l.listed, l.few))
head_built _ _ (fetch_cursor z) = refl
head_built _ _ (close_cursor z) = refl
