-- The commands of a relation make it.
use Rattle.std.proofs.Common.{◌≡◌, refl, sym, ap, subst, ◌∙◌, ℕ, ◌+◌, ◌-◌, ◌<◌, ◌≤◌, Bool, true, false, List, [], ◌∷◌, ◌++◌, length, map, flat_map, replicate, append_assoc, append-nil, length-append, arith, cond, Option, Some, None}
use Rattle.std.specs.Prelude.{Ok, Result, IsTrue, nat_le, nat_lt, slice_get}
use Rattle.std.specs.Str.{bytes_eq}
use Rattle.std.specs.List.{AllByRecursion}
use Rattle.std.proofs.lemmas.List.{length-map, map-append}
use Rattle.std.proofs.lemmas.List.Concat.{flat_map-cons}
use Rattle.std.proofs.lemmas.Bool.Decides.{nat_tests}
use Rattle.db_model.specs.declared.commands.Command.{Command}
use Rattle.db_model.specs.declared.commands.Command.TheVariants.{CreateRelation}
use Rattle.db_model.specs.declared.refusals.Refusal.{Refusal}
use Rattle.db_model.specs.declared.schemas.Attribute.{Attribute}
use Rattle.db_model.specs.declared.schemas.Domain.{Domain}
use Rattle.db_model.specs.declared.schemas.Domain.TheVariants as domain
use Rattle.db_model.specs.declared.values.Value.{Value}
use Rattle.db_model.specs.declared.values.Value.TheVariants as value
use Rattle.db_model.specs.Answers.{live_tuples}
use Rattle.db_model.specs.Catalog.{IsAttribute, IsDomain}
use Rattle.db_model.specs.Database.{Relation, Database, is_among, empty_database}
use Rattle.db_model.specs.Item.{place_from}
use Rattle.db_model.specs.Row.{Row, AllSuit, AllRowsSuit, fields_length, row_length}
use Rattle.db_model.specs.Step.{Reply, Fine, outcome, upgraded, changed_by, add_attribute, domain_asked, insert_into, unsuited, unsuited_from, fallen, fallen_from, is_ordered}
use Rattle.dump_model.specs.Made.{Makes}
use Rattle.dump_model.specs.Packed.{slots_for, kept_rows, packed_relation}
use Rattle.dump_model.specs.Script.{domain_named, relation_commands, attribute_command, row_command}
use Rattle.db_model.specs.Sound.{are_distinct, attribute_names}
use Rattle.dump_model.proofs.Facts.{RelationFacts, relation_names}
use Rattle.dump_model.proofs.Slots.{among_front, absent, found_last, slot_taken, slot_free, slot_changed}
use Rattle.padded.proofs.Facts.{neither_left, neither_right}

pub makes-append : (a b c : Database) (xs ys : List Command) → Makes a xs b → Makes b ys c → Makes a (xs ++ ys) c
makes-append a b c [] ys h i = subst (λ d. Makes d ys c) (sym h) i
makes-append a b c (x ∷ xs) ys h i = (h.0, h.1, makes-append h.0 b c xs ys h.2 i)

-- a database in the making: some relations, and no index yet
abbrev pub with_relations : List Relation → Database
with_relations rs = record { version = 2; relations = slots_for 8 rs; indexes = replicate 8 None; cursors = replicate 4 None }

-- ---- CREATE RELATION

abbrev bare_relation : List ℕ → List Attribute → List Row → Relation
bare_relation name attributes rows = record { schema = record { name = name; attributes = attributes }; rows = rows }

makes_relation : (rs : List Relation) (name : List ℕ) → length rs < 8 → is_among name (relation_names rs) ≡ false
    → outcome (with_relations rs) (CreateRelation name) ≡ Ok (with_relations (rs ++ bare_relation name [] [] ∷ []), Fine)
makes_relation rs name few fresh = rw (absent name 8 rs fresh, slot_free 8 rs few, slot_taken 8 rs (bare_relation name [] []) few) refl

-- ---- changes of the relation that is made

changed_last : (change : ℕ → Database → Relation → Result (Relation × Reply) Refusal) (rs : List Relation) (r new : Relation) → is_among r.schema.name (relation_names rs) ≡ false
    → change (length rs) (with_relations (rs ++ r ∷ [])) r ≡ Ok (new, Fine)
    → changed_by change (with_relations (rs ++ r ∷ [])) r.schema.name ≡ Ok (with_relations (rs ++ new ∷ []), Fine)
changed_last change rs r new fresh changed = rw (found_last 8 rs r fresh, changed, slot_changed 8 rs r new) refl

-- ---- CREATE ATTRIBUTE

domain_back : (d : Domain) → IsDomain d → domain_asked (domain_named d) ≡ Some d
domain_back domain.Int h = refl
domain_back domain.Long h = refl
domain_back domain.Time h = refl
domain_back (domain.Str n) h =
    let some : nat_le 1 n ≡ true = let e = h.0 in grind (arith, nat_tests) in
    let few : nat_le n 32 ≡ true = let e = h.1 in grind (arith, nat_tests) in
    rw (some, few) refl

absent_attribute : (name : List ℕ) (n : ℕ) (attributes : List Attribute) → is_among name (attribute_names attributes) ≡ false → place_from name n attributes ≡ None
absent_attribute name n [] fresh = refl
absent_attribute name n (a ∷ attributes) fresh =
    ap (λ t. cond t (Some n) (place_from name (n + 1) attributes)) (neither_left (bytes_eq a.name name) (is_among name (attribute_names attributes)) fresh)
    ∙ absent_attribute name (n + 1) attributes (neither_right (bytes_eq a.name name) (is_among name (attribute_names attributes)) fresh)

fields_length-append : (xs ys : List Attribute) → fields_length (xs ++ ys) ≡ fields_length xs + fields_length ys
fields_length-append [] ys = let e : fields_length ys ≡ 0 + fields_length ys = omega arith in e
fields_length-append (x ∷ xs) ys = let e = fields_length-append xs ys in omega (arith, e)

added : (name : List ℕ) (done : List Attribute) (a : Attribute) (slot : ℕ) (db : Database) → is_among a.name (attribute_names done) ≡ false → IsDomain a.domain → length done < 8 → row_length (done ++ a ∷ []) ≤ 128
    → add_attribute a.name (domain_named a.domain) slot db (bare_relation name done []) ≡ Ok (bare_relation name (done ++ a ∷ []) [], Fine)
added name done a slot db fresh is few short =
    let room : nat_le 8 (length done) ≡ false = grind (arith, nat_tests) in
    let fits : nat_lt 128 (row_length (done ++ a ∷ [])) ≡ false = grind (arith, nat_tests) in
    rw (absent_attribute a.name 0 done fresh, domain_back a.domain is, room, fits) refl

-- the attributes so far, and those still to come
makes_attributes : (rs : List Relation) (name : List ℕ) (done rest : List Attribute) → is_among name (relation_names rs) ≡ false
    → AllByRecursion IsAttribute rest → IsTrue (are_distinct (attribute_names (done ++ rest))) → length (done ++ rest) ≤ 8 → row_length (done ++ rest) ≤ 128
    → Makes (with_relations (rs ++ bare_relation name done [] ∷ [])) (map (attribute_command name) rest) (with_relations (rs ++ bare_relation name (done ++ rest) [] ∷ []))
makes_attributes rs name done [] fresh is distinct few short = ap (λ attributes. with_relations (rs ++ bare_relation name attributes [] ∷ [])) (sym (append-nil done))
makes_attributes rs name done (a ∷ rest) fresh is distinct few short =
    let same = append_assoc done (a ∷ []) rest in
    let apart = among_front a.name (attribute_names done) (attribute_names rest) (subst (λ ns. IsTrue (are_distinct ns)) (map-append (λ x. x.name) done (a ∷ rest)) distinct) in
    let many = length-append done (a ∷ rest) in
    let wide = fields_length-append done (a ∷ rest) in
    let front = fields_length-append done (a ∷ []) in
    let one = changed_last (add_attribute a.name (domain_named a.domain)) rs (bare_relation name done []) (bare_relation name (done ++ a ∷ []) []) fresh
    (added name done a (length rs) (with_relations (rs ++ bare_relation name done [] ∷ [])) apart is.0.1 (omega (arith, many, few)) (omega (arith, wide, front, short))) in (
      with_relations (rs ++ bare_relation name (done ++ a ∷ []) [] ∷ []),
      ap upgraded one,
      subst (λ attributes. Makes (with_relations (rs ++ bare_relation name (done ++ a ∷ []) [] ∷ [])) (map (attribute_command name) rest) (with_relations (rs ++ bare_relation name attributes [] ∷ []))) same
          (makes_attributes rs name (done ++ a ∷ []) rest fresh is.1 (subst (λ attributes. IsTrue (are_distinct (attribute_names attributes))) (sym same) distinct) (rw same few) (rw same short)),
    )

-- ---- INSERT

suited_from : (n : ℕ) (attributes : List Attribute) (values : List Value) → AllSuit attributes values → unsuited_from n attributes values ≡ None
suited_from n [] [] h = refl
suited_from n [] (v ∷ values) h = absurd h
suited_from n (a ∷ attributes) [] h = absurd h
suited_from n (a ∷ attributes) (v ∷ values) h =
    ap (λ t. cond t (unsuited_from (n + 1) attributes values) (Some (n + 1))) h.0 ∙ suited_from (n + 1) attributes values h.1

suited : (attributes : List Attribute) (values : List Value) → 0 < length attributes → AllSuit attributes values → unsuited attributes values ≡ None
suited [] values some h = absurd (omega (arith, some))
suited (a ∷ attributes) values some h = suited_from 0 (a ∷ attributes) values h

-- where no attribute is ordered, none falls
unordered : (n : ℕ) (last values : List Value) → fallen_from (is_ordered []) n last values ≡ None
unordered n [] values = refl
unordered n (value.Number a ∷ last) [] = refl
unordered n (value.Text a ∷ last) [] = refl
unordered n (value.Number a ∷ last) (value.Number b ∷ values) = unordered (n + 1) last values
unordered n (value.Number a ∷ last) (value.Text b ∷ values) = unordered (n + 1) last values
unordered n (value.Text a ∷ last) (value.Number b ∷ values) = unordered (n + 1) last values
unordered n (value.Text a ∷ last) (value.Text b ∷ values) = unordered (n + 1) last values

not_fallen : (last : Option Row) (values : List Value) → fallen [] last values ≡ None
not_fallen None values = refl
not_fallen (Some row) values = unordered 0 row.tuple values

inserted : (rs : List Relation) (name : List ℕ) (attributes : List Attribute) (done : List Row) (values : List Value) → 0 < length attributes → AllSuit attributes values → length done < 32768
    → insert_into values (length rs) (with_relations (rs ++ bare_relation name attributes done ∷ [])) (bare_relation name attributes done)
    ≡ Ok (bare_relation name attributes (done ++ record { tuple = values; live = true } ∷ []), Fine)
inserted rs name attributes done values some suit few =
    let room : nat_le 32768 (length done) ≡ false = grind (arith, nat_tests) in
    rw (suited attributes values some suit, room, not_fallen (slice_get done (length done - 1)) values) refl

-- the rows so far, and those still to come
makes_rows : (rs : List Relation) (name : List ℕ) (attributes : List Attribute) (done rest : List Row) → is_among name (relation_names rs) ≡ false
    → (0 < length rest → 0 < length attributes) → AllRowsSuit attributes rest → length done + length rest ≤ 32768
    → Makes (with_relations (rs ++ bare_relation name attributes done ∷ [])) (map (row_command name) (live_tuples rest)) (with_relations (rs ++ bare_relation name attributes (done ++ kept_rows rest) ∷ []))
makes_rows rs name attributes done [] fresh filled suit few = ap (λ rows. with_relations (rs ++ bare_relation name attributes rows ∷ [])) (sym (append-nil done))
makes_rows rs name attributes done (row ∷ rest) fresh filled suit few =
    by_live row.live refl
    (makes_rows rs name attributes (done ++ new ∷ []) rest fresh (λ some. filled (omega arith)) suit.1 (let e = length-append done (new ∷ []) in omega (arith, e, few)))
    (makes_rows rs name attributes done rest fresh (λ some. filled (omega arith)) suit.1 (omega (arith, few)))
  where
    new : Row
    new = record { tuple = row.tuple; live = true }

    state : List Row → Database
    state rows = with_relations (rs ++ bare_relation name attributes rows ∷ [])

    by_live : (t : Bool) → row.live ≡ t
        → Makes (state (done ++ new ∷ [])) (map (row_command name) (live_tuples rest)) (state ((done ++ new ∷ []) ++ kept_rows rest))
        → Makes (state done) (map (row_command name) (live_tuples rest)) (state (done ++ kept_rows rest))
        → Makes (state done) (map (row_command name) (cond t (row.tuple ∷ live_tuples rest) (live_tuples rest))) (state (done ++ cond t (row ∷ kept_rows rest) (kept_rows rest)))
    by_live false e with_row without = without
    by_live true e with_row without =
        let same : new ≡ row = ap (λ t. record { tuple = row.tuple; live = t }) (sym e) in
        let one = changed_last (insert_into row.tuple) rs (bare_relation name attributes done) (bare_relation name attributes (done ++ new ∷ [])) fresh
        (inserted rs name attributes done row.tuple (filled (omega arith)) suit.0 (omega (arith, few))) in
        (state (done ++ new ∷ []), one, subst (λ rows. Makes (state (done ++ new ∷ [])) (map (row_command name) (live_tuples rest)) (state rows)) (append_assoc done (new ∷ []) (kept_rows rest) ∙ ap (λ r. done ++ r ∷ kept_rows rest) same) with_row)

-- ---- relations

makes_one : (rs : List Relation) (r : Relation) → length rs < 8 → is_among r.schema.name (relation_names rs) ≡ false → RelationFacts r → Makes (with_relations rs) (relation_commands r) (with_relations (rs ++ packed_relation r ∷ []))
makes_one rs r few fresh is =
    let name = r.schema.name in
    let attributes = r.schema.attributes in (
      with_relations (rs ++ bare_relation name [] [] ∷ []),
      makes_relation rs name few fresh,
      makes-append
          (with_relations (rs ++ bare_relation name [] [] ∷ []))
          (with_relations (rs ++ bare_relation name attributes [] ∷ []))
          (with_relations (rs ++ packed_relation r ∷ []))
          (map (attribute_command name) attributes)
          (map (row_command name) (live_tuples r.rows))
          (makes_attributes rs name [] attributes fresh is.attributes is.distinct is.few is.short)
          (makes_rows rs name attributes [] r.rows fresh is.filled is.rows (let e = is.slots in omega (arith, e))),
    )

packed_names : (rs : List Relation) → relation_names (map packed_relation rs) ≡ relation_names rs
packed_names [] = refl
packed_names (r ∷ rs) = ap (λ ns. r.schema.name ∷ ns) (packed_names rs)

-- the relations so far, and those still to come
makes_relations : (done rest : List Relation) → length (done ++ rest) ≤ 8 → AllByRecursion RelationFacts rest → IsTrue (are_distinct (relation_names (done ++ rest)))
    → Makes (with_relations (map packed_relation done)) (flat_map relation_commands rest) (with_relations (map packed_relation (done ++ rest)))
makes_relations done [] few are distinct = ap (λ rs. with_relations (map packed_relation rs)) (sym (append-nil done))
makes_relations done (r ∷ rest) few are distinct =
    let same = append_assoc done (r ∷ []) rest in
    let front : map packed_relation (done ++ r ∷ []) ≡ map packed_relation done ++ packed_relation r ∷ [] = map-append packed_relation done (r ∷ []) in
    let apart = among_front r.schema.name (relation_names done) (relation_names rest) (subst (λ ns. IsTrue (are_distinct ns)) (map-append (λ x. x.schema.name) done (r ∷ rest)) distinct) in
    let fresh : is_among r.schema.name (relation_names (map packed_relation done)) ≡ false = ap (is_among r.schema.name) (packed_names done) ∙ apart in
    let many : length (map packed_relation done) < 8 = let e = length-map done packed_relation in let n = length-append done (r ∷ rest) in omega (arith, e, n, few) in
    let one = makes_one (map packed_relation done) r many fresh are.0 in
    let others = makes_relations (done ++ r ∷ []) rest (rw same few) are.1 (subst (λ rs. IsTrue (are_distinct (relation_names rs))) (sym same) distinct) in
    subst (λ commands. Makes (with_relations (map packed_relation done)) commands (with_relations (map packed_relation (done ++ r ∷ rest)))) (sym (flat_map-cons relation_commands r rest))
    (makes-append
    (with_relations (map packed_relation done))
    (with_relations (map packed_relation (done ++ r ∷ [])))
    (with_relations (map packed_relation (done ++ r ∷ rest)))
    (relation_commands r)
    (flat_map relation_commands rest)
    (subst (λ rs. Makes (with_relations (map packed_relation done)) (relation_commands r) (with_relations rs)) (sym front) one)
    (subst (λ rs. Makes (with_relations (map packed_relation (done ++ r ∷ []))) (flat_map relation_commands rest) (with_relations (map packed_relation rs))) same others))

pub relations_made : (rs : List Relation) → length rs ≤ 8 → AllByRecursion RelationFacts rs → IsTrue (are_distinct (relation_names rs)) → Makes empty_database (flat_map relation_commands rs) (with_relations (map packed_relation rs))
relations_made rs few are distinct = makes_relations [] rs few are distinct
