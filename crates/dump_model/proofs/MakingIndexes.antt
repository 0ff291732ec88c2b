-- The commands of the indexes make them, once all relations stand.
use Rattle.std.proofs.Common.{◌≡◌, refl, sym, ap, subst, ◌∙◌, ℕ, ◌+◌, ◌-◌, ◌<◌, ◌≤◌, Bool, true, false, List, [], ◌∷◌, ◌++◌, length, map, get_or, replicate, arith, cond, Option, Some, None, zero, suc}
use Rattle.std.specs.Prelude.{ℤ, ◌≤ℤ◌, Ok, Result, IsTrue, not, ◌&&◌, ◌||◌, ◌==◌, is_some, nat_le, nat_lt, int_lt, slice_get, filter, set, option_map, option_and_then, ⊤}
use Rattle.std.specs.Str.{bytes_eq}
use Rattle.std.specs.List.{AllByRecursion, list_any}
use Rattle.std.proofs.lemmas.Int.{ints}
use Rattle.std.proofs.lemmas.List.{length-map, map-append}
use Rattle.std.proofs.lemmas.Bool.Decides.{nat_tests, Decides-eqb}
use Rattle.db_model.specs.declared.commands.Command.TheVariants.{CreateIndex}
use Rattle.db_model.specs.declared.refusals.Pool.TheVariants as pool
use Rattle.db_model.specs.declared.refusals.Refusal.{Refusal}
use Rattle.db_model.specs.declared.refusals.Refusal.TheVariants as no
use Rattle.db_model.specs.declared.schemas.Attribute.{Attribute}
use Rattle.db_model.specs.declared.schemas.IndexKind.{IndexKind}
use Rattle.db_model.specs.declared.schemas.IndexKind.TheVariants.{Inline, MaxHeap, MemHash}
use Rattle.db_model.specs.Catalog.{Index}
use Rattle.db_model.specs.Database.{Relation, Database, used_things, free_from, is_among, is_on, is_hash_table, relation_from, index_from, index_slot, most_tables}
use Rattle.db_model.specs.Item.{place_from, place_of}
use Rattle.db_model.specs.Refusing.{◌>>=◌, ◌>>◌, refuse_if, refuse_found, found_or}
use Rattle.db_model.specs.Row.{Row}
use Rattle.db_model.specs.Step.{Fine, Outcome, outcome, upgraded, create_index, allows, keys, key_of, first_fall, refuse_kind}
use Rattle.db_model.specs.Typing.{domain_of}
use Rattle.dump_model.specs.Packed.{slots_for, new_slot, kept_rows, moved_index, packed_relation}
use Rattle.dump_model.specs.Script.{index_command, attribute_name}
use Rattle.db_model.specs.Sound.{are_distinct, attribute_names}
use Rattle.dump_model.proofs.Facts.{IndexFacts, SuitsKind, relation_names}
use Rattle.dump_model.proofs.Lexing.{false_true, and_left, and_right}
use Rattle.dump_model.proofs.Slots.{not_true, not_first, or_true, same_name, slot_free, slot_taken, used_front}
use Rattle.padded.proofs.Facts.{filter_few, some_alike, neither_left, neither_right}

-- ---- an attribute at its place

-- the name at a place is among the names
among_attributes : (attributes : List Attribute) (p : ℕ) (a : Attribute) → slice_get attributes p ≡ Some a → is_among a.name (attribute_names attributes) ≡ true
among_attributes [] p a h = cc
among_attributes (b ∷ attributes) zero a h =
    let same : b ≡ a = some_alike h in
    ap (λ c. bytes_eq c.name a.name || is_among a.name (attribute_names attributes)) same ∙ ap (λ t. t || is_among a.name (attribute_names attributes)) (same_name a.name)
among_attributes (b ∷ attributes) (suc p) a h = or_true (bytes_eq b.name a.name) (among_attributes attributes p a h)

placed_from : (attributes : List Attribute) (n p : ℕ) (a : Attribute) → IsTrue (are_distinct (attribute_names attributes)) → slice_get attributes p ≡ Some a → place_from a.name n attributes ≡ Some (n + p)
placed_from [] n p a distinct h = cc
placed_from (b ∷ attributes) n zero a distinct h =
    let same : b ≡ a = some_alike h in
    let e : n ≡ n + 0 = omega arith in
    ap (λ c. cond (bytes_eq c.name a.name) (Some n) (place_from a.name (n + 1) attributes)) same
    ∙ ap (λ t. cond t (Some n) (place_from a.name (n + 1) attributes)) (same_name a.name)
    ∙ ap (λ k. Some k) e
placed_from (b ∷ attributes) n (suc p) a distinct h =
    let apart = not_true (is_among b.name (attribute_names attributes)) (and_left (not (is_among b.name (attribute_names attributes))) (are_distinct (attribute_names attributes)) distinct) in
    let other = not_first b.name a.name (attribute_names attributes) apart (among_attributes attributes p a h) in
    let e : (n + 1) + p ≡ n + suc p = omega arith in
    ap (λ t. cond t (Some n) (place_from a.name (n + 1) attributes)) other
    ∙ placed_from attributes (n + 1) p a (and_right (not (is_among b.name (attribute_names attributes))) (are_distinct (attribute_names attributes)) distinct) h
    ∙ ap (λ k. Some k) e

-- ---- a relation at its new slot

among_relations : (slots : List (Option Relation)) (k : ℕ) (r : Relation) → get_or slots k None ≡ Some r → is_among r.schema.name (relation_names (used_things slots)) ≡ true
among_relations [] k r h = cc
among_relations (None ∷ slots) zero r h = cc
among_relations (None ∷ slots) (suc k) r h = among_relations slots k r h
among_relations (Some q ∷ slots) zero r h =
    let same : q ≡ r = some_alike h in
    ap (λ c. bytes_eq c.schema.name r.schema.name || is_among r.schema.name (relation_names (used_things slots))) same ∙ ap (λ t. t || is_among r.schema.name (relation_names (used_things slots))) (same_name r.schema.name)
among_relations (Some q ∷ slots) (suc k) r h = or_true (bytes_eq q.schema.name r.schema.name) (among_relations slots k r h)

moved_from : (slots : List (Option Relation)) (n k : ℕ) (r : Relation) (behind : List (Option Relation)) → IsTrue (are_distinct (relation_names (used_things slots))) → get_or slots k None ≡ Some r
    → relation_from r.schema.name n (map (λ x. Some x) (map packed_relation (used_things slots)) ++ behind) ≡ Some (n + new_slot slots k, packed_relation r)
moved_from [] n k r behind distinct h = cc
moved_from (None ∷ slots) n zero r behind distinct h = cc
moved_from (None ∷ slots) n (suc k) r behind distinct h = moved_from slots n k r behind distinct h
moved_from (Some q ∷ slots) n zero r behind distinct h =
    let same : q ≡ r = some_alike h in
    let e : n ≡ n + 0 = omega arith in
    let rest = relation_from r.schema.name (n + 1) (map (λ x. Some x) (map packed_relation (used_things slots)) ++ behind) in
    ap (λ c. cond (bytes_eq c.schema.name r.schema.name) (Some (n, packed_relation c)) rest) same
    ∙ ap (λ t. cond t (Some (n, packed_relation r)) rest) (same_name r.schema.name)
    ∙ ap (λ j. Some (j, packed_relation r)) e
moved_from (Some q ∷ slots) n (suc k) r behind distinct h =
    let apart = not_true (is_among q.schema.name (relation_names (used_things slots))) (and_left (not (is_among q.schema.name (relation_names (used_things slots)))) (are_distinct (relation_names (used_things slots))) distinct) in
    let other = not_first q.schema.name r.schema.name (relation_names (used_things slots)) apart (among_relations slots k r h) in
    let e : (n + 1) + new_slot slots k ≡ n + suc (new_slot slots k) = omega arith in
    ap (λ t. cond t (Some (n, packed_relation q)) (relation_from r.schema.name (n + 1) (map (λ x. Some x) (map packed_relation (used_things slots)) ++ behind))) other
    ∙ moved_from slots (n + 1) k r behind (and_right (not (is_among q.schema.name (relation_names (used_things slots)))) (are_distinct (relation_names (used_things slots))) distinct) h
    ∙ ap (λ j. Some (j, packed_relation r)) e

-- used slots keep apart
slots_apart : (slots : List (Option Relation)) (j k : ℕ) (q r : Relation) → get_or slots j None ≡ Some q → get_or slots k None ≡ Some r → new_slot slots j ≡ new_slot slots k → j ≡ k
slots_apart [] j k q r h i e = cc
slots_apart (None ∷ slots) zero k q r h i e = cc
slots_apart (None ∷ slots) (suc j) zero q r h i e = cc
slots_apart (None ∷ slots) (suc j) (suc k) q r h i e = ap (λ n. suc n) (slots_apart slots j k q r h i e)
slots_apart (Some p ∷ slots) zero zero q r h i e = refl
slots_apart (Some p ∷ slots) zero (suc k) q r h i e = absurd (omega (arith, e))
slots_apart (Some p ∷ slots) (suc j) zero q r h i e = absurd (omega (arith, e))
slots_apart (Some p ∷ slots) (suc j) (suc k) q r h i e = ap (λ n. suc n) (slots_apart slots j k q r h i (omega (arith, e)))

-- ---- rows that are removed do not matter to what an index asks

at_most : (a b : ℤ) → int_lt b a ≡ false → a ≤ℤ b
at_most a b h = grind (arith, ints)

not_less : (a b : ℤ) → a ≤ℤ b → int_lt b a ≡ false
not_less a b h = grind (arith, ints)

at_most_third : (a b c : ℤ) → a ≤ℤ b → b ≤ℤ c → a ≤ℤ c
at_most_third a b c h i = omega (arith, ints)

-- what first falls behind a key
abbrev falls_behind : ℤ → List ℤ → Option ℤ
falls_behind a zs = first_fall (a ∷ zs)

-- behind a lesser key none falls either
falls_lower : (a b : ℤ) (zs : List ℤ) → a ≤ℤ b → falls_behind b zs ≡ None → falls_behind a zs ≡ None
falls_lower a b [] le h = refl
falls_lower a b (z ∷ zs) le h =
    by_test (int_lt z b) refl h
  where
    by_test : (t : Bool) → int_lt z b ≡ t → cond t (Some b) (first_fall (z ∷ zs)) ≡ None → falls_behind a (z ∷ zs) ≡ None
    by_test true e i = cc
    by_test false e i = ap (λ t. cond t (Some a) (first_fall (z ∷ zs))) (not_less a z (at_most_third a b z le (at_most b z e))) ∙ i

live_behind : (place : ℕ) (a : ℤ) (rows : List Row) → falls_behind a (keys place rows) ≡ None → falls_behind a (keys place (kept_rows rows)) ≡ None
live_behind place a [] h = refl
live_behind place a (row ∷ rows) h = by_test (int_lt key a) refl h (λ i. live_behind place key rows i) (λ i. live_behind place a rows i)
  where
    key : ℤ
    key = key_of (slice_get row.tuple place)

    by_live : (t : Bool) → int_lt key a ≡ false → falls_behind key (keys place (kept_rows rows)) ≡ None → falls_behind a (keys place (kept_rows rows)) ≡ None
        → falls_behind a (keys place (cond t (row ∷ kept_rows rows) (kept_rows rows))) ≡ None
    by_live true e i j = ap (λ t. cond t (Some a) (falls_behind key (keys place (kept_rows rows)))) e ∙ i
    by_live false e i j = j

    by_test : (t : Bool) → int_lt key a ≡ t → cond t (Some a) (falls_behind key (keys place rows)) ≡ None
        → (falls_behind key (keys place rows) ≡ None → falls_behind key (keys place (kept_rows rows)) ≡ None)
        → (falls_behind a (keys place rows) ≡ None → falls_behind a (keys place (kept_rows rows)) ≡ None)
        → falls_behind a (keys place (kept_rows (row ∷ rows))) ≡ None
    by_test true e i from_key from_a = cc
    by_test false e i from_key from_a = by_live row.live e (from_key i) (from_a (falls_lower a key (keys place rows) (at_most a key e) i))

live_rises : (place : ℕ) (rows : List Row) → first_fall (keys place rows) ≡ None → first_fall (keys place (kept_rows rows)) ≡ None
live_rises place [] h = refl
live_rises place (row ∷ rows) h = by_live row.live (live_behind place key rows h) (live_rises place rows (not_behind (keys place rows) h))
  where
    key : ℤ
    key = key_of (slice_get row.tuple place)

    not_behind_by : (t : Bool) (z : ℤ) (zs : List ℤ) → cond t (Some key) (first_fall (z ∷ zs)) ≡ None → first_fall (z ∷ zs) ≡ None
    not_behind_by true z zs i = cc
    not_behind_by false z zs i = i

    not_behind : (zs : List ℤ) → first_fall (key ∷ zs) ≡ None → first_fall zs ≡ None
    not_behind [] i = refl
    not_behind (z ∷ zs) i = not_behind_by (int_lt z key) z zs i

    by_live : (t : Bool) → first_fall (key ∷ keys place (kept_rows rows)) ≡ None → first_fall (keys place (kept_rows rows)) ≡ None → first_fall (keys place (cond t (row ∷ kept_rows rows) (kept_rows rows))) ≡ None
    by_live true i j = i
    by_live false i j = j

-- ---- the indexes so far

abbrev pub with_indexes : List Relation → List Index → Database
with_indexes rs indexes = record { version = 2; relations = slots_for 8 rs; indexes = slots_for 8 indexes; cursors = replicate 4 None }

-- the relation of each of them is in a used slot
abbrev pub AreUsed : List (Option Relation) → List Index → Type 0
AreUsed slots indexes = AllByRecursion (λ index. (r : Relation) × (get_or slots index.relation None ≡ Some r)) indexes

tables_moved : (slots : List (Option Relation)) (indexes : List Index) → filter is_hash_table (map (moved_index slots) indexes) ≡ map (moved_index slots) (filter is_hash_table indexes)
tables_moved slots [] = refl
tables_moved slots (index ∷ indexes) = by_test (is_hash_table index) (tables_moved slots indexes)
  where
    by_test : (t : Bool) → filter is_hash_table (map (moved_index slots) indexes) ≡ map (moved_index slots) (filter is_hash_table indexes)
        → cond t (moved_index slots index ∷ filter is_hash_table (map (moved_index slots) indexes)) (filter is_hash_table (map (moved_index slots) indexes))
        ≡ map (moved_index slots) (cond t (index ∷ filter is_hash_table indexes) (filter is_hash_table indexes))
    by_test true h = ap (λ xs. moved_index slots index ∷ xs) h
    by_test false h = h

-- no index stands on the attribute yet
absent_index : (slots : List (Option Relation)) (k place n m : ℕ) (r : Relation) (indexes : List Index) → get_or slots k None ≡ Some r → AreUsed slots indexes → list_any (is_on k place) indexes ≡ false
    → index_from (new_slot slots k) place n (map (λ x. Some x) (map (moved_index slots) indexes) ++ replicate m None) ≡ None
absent_index slots k place n zero r [] is used_things alone = refl
absent_index slots k place n (suc m) r [] is used_things alone = absent_index slots k place (n + 1) m r [] is used_things alone
absent_index slots k place n m r (index ∷ indexes) is used_things alone =
    let rest = absent_index slots k place (n + 1) m r indexes is used_things.1 (neither_right (is_on k place index) (list_any (is_on k place) indexes) alone) in
    ap (λ t. cond t (Some n) (index_from (new_slot slots k) place (n + 1) (map (λ x. Some x) (map (moved_index slots) indexes) ++ replicate m None)))
    (by_test (new_slot slots index.relation == new_slot slots k) (index.attribute == place) refl refl (neither_left (is_on k place index) (list_any (is_on k place) indexes) alone))
    ∙ rest
  where
    by_test : (s t : Bool) → (new_slot slots index.relation == new_slot slots k) ≡ s → (index.attribute == place) ≡ t → is_on k place index ≡ false → (s && t) ≡ false
    by_test false t e f h = refl
    by_test true false e f h = refl
    by_test true true e f h =
        let same : index.relation ≡ k = slots_apart slots index.relation k used_things.0.0 r used_things.0.1 is ((Decides-eqb (new_slot slots index.relation) (new_slot slots k)).0 e) in
        absurd (false_true (sym h ∙ ap (λ t. (index.relation == k) && t) f ∙ ap (λ t. t && true) ((Decides-eqb index.relation k).1 same)))

not_refused : (kind : IndexKind) (slots : List (Option Relation)) (before : List Index) (place : ℕ) (rows : List Row) (rs : List Relation) → SuitsKind kind before place rows
    → refuse_kind kind (with_indexes rs (map (moved_index slots) before)) (keys place (kept_rows rows)) ≡ Ok tt
not_refused Inline slots before place rows rs h = ap (λ fall. refuse_found fall no.NotOrdered) (live_rises place rows h)
not_refused MaxHeap slots before place rows rs h = refl
not_refused MemHash slots before place rows rs h =
    let moved : List Index = map (moved_index slots) before in
    let same : length (filter is_hash_table (used_things (slots_for 8 moved))) ≡ length (filter is_hash_table before) =
    ap (λ xs. length (filter is_hash_table xs)) (used_front moved (8 - length moved)) ∙ ap length (tables_moved slots before) ∙ length-map (filter is_hash_table before) (moved_index slots) in
    let few : nat_le most_tables (length (filter is_hash_table (used_things (slots_for 8 moved)))) ≡ false = let e = h.0 in grind (arith, nat_tests) in
    let many = length-map (kept_rows rows) (λ row. key_of (slice_get row.tuple place)) in
    let less = filter_few (λ row. row.live) rows in
    let room : nat_lt 2048 (length (keys place (kept_rows rows))) ≡ false = let e = h.1 in grind (arith, nat_tests) in
    rw (few, room) refl

-- ---- CREATE INDEX

pub makes_index : (slots : List (Option Relation)) (before : List Index) (index : Index) → IsTrue (are_distinct (relation_names (used_things slots))) → length before < 8 → AreUsed slots before
    → (is : IndexFacts slots before index) → IsTrue (are_distinct (attribute_names is.relation.schema.attributes))
    → outcome (with_indexes (map packed_relation (used_things slots)) (map (moved_index slots) before)) (index_command slots index)
    ≡ Ok (with_indexes (map packed_relation (used_things slots)) (map (moved_index slots) (before ++ index ∷ [])), Fine)
makes_index slots before index distinct few used_before is apart =
    let rs : List Relation = map packed_relation (used_things slots) in
    let r : Relation = is.relation in
    let place : ℕ = index.attribute in
    let attributes : List Attribute = r.schema.attributes in
    let moved : List Index = map (moved_index slots) before in
    let db : Database = with_indexes rs moved in
    let k : ℕ = new_slot slots index.relation in
    let many : length moved < 8 = let e = length-map before (moved_index slots) in omega (arith, e, few) in
    let put : ℕ → List (Option Index) = λ slot. set (slots_for 8 moved) slot (Some (moved_index slots index)) in
    let made : List (Option Index) → Outcome = λ indexes. Ok (record { version = 2; relations = slots_for 8 rs; indexes = indexes; cursors = replicate 4 None }, Fine) in
    let asked : Result ⊤ Refusal = refuse_kind index.kind db (keys place (kept_rows r.rows)) in
    let slotted : Option ℕ → Outcome = λ free. ◌>>=◌ (found_or free (no.Full pool.Indexes 8)) (λ slot. ◌>>◌ asked (made (put slot))) in
    let tested : Bool → Bool → Outcome = λ allowed there. ◌>>◌ (refuse_if (not allowed) no.Domain) (◌>>◌ (refuse_if there no.Exists) (slotted (free_from 0 (slots_for 8 moved)))) in
    let wanted : CreateIndex r.schema.name is.attribute.name index.kind ≡ index_command slots index =
    ap (λ found. CreateIndex r.schema.name (elim found [ None ↦ [] | Some a ↦ a.name ]) index.kind) (sym is.placed)
    ∙ ap (λ found. elim found [ None ↦ CreateIndex [] [] index.kind | Some r ↦ CreateIndex r.schema.name (attribute_name r.schema.attributes index.attribute) index.kind ]) (sym is.used) in
    let found : relation_from r.schema.name 0 (slots_for 8 rs) ≡ Some (k, packed_relation r) =
    moved_from slots 0 index.relation r (replicate (8 - length rs) None) distinct is.used ∙ (let e : 0 + k ≡ k = omega arith in ap (λ j. Some (j, packed_relation r)) e) in
    let at : place_of is.attribute.name attributes ≡ Some place = placed_from attributes 0 place is.attribute apart is.placed ∙ (let e : 0 + place ≡ place = omega arith in ap (λ j. Some j) e) in
    let of : domain_of attributes is.attribute.name ≡ Some is.attribute.domain = ap (λ p. option_map (λ a. a.domain) (option_and_then (slice_get attributes) p)) at ∙ ap (option_map (λ a. a.domain)) is.placed in
    let none : index_slot db k place ≡ None = absent_index slots index.relation place 0 (8 - length moved) r before is.used used_before is.alone in
    let step : create_index db r.schema.name is.attribute.name index.kind ≡ Ok (with_indexes rs (map (moved_index slots) (before ++ index ∷ [])), Fine) =
    ap (λ f. ◌>>=◌ (found_or f no.NoRelation) (λ s.
    ◌>>=◌ (found_or (place_of is.attribute.name s.1.schema.attributes) (no.NoAttribute 1)) (λ p.
    ◌>>=◌ (found_or (domain_of s.1.schema.attributes is.attribute.name) (no.NoAttribute 1)) (λ d.
    ◌>>◌ (refuse_if (not (allows index.kind d)) no.Domain)
    (◌>>◌ (refuse_if (is_some (index_slot db s.0 p)) no.Exists)
    (◌>>=◌ (found_or (free_from 0 (slots_for 8 moved)) (no.Full pool.Indexes 8)) (λ slot.
    ◌>>◌ (refuse_kind index.kind db (keys p s.1.rows)) (made (set (slots_for 8 moved) slot (Some (record { kind = index.kind; relation = s.0; attribute = p })))))))))))
    found
    ∙ ap (λ p. ◌>>=◌ (found_or p (no.NoAttribute 1)) (λ p.
    ◌>>=◌ (found_or (domain_of attributes is.attribute.name) (no.NoAttribute 1)) (λ d.
    ◌>>◌ (refuse_if (not (allows index.kind d)) no.Domain)
    (◌>>◌ (refuse_if (is_some (index_slot db k p)) no.Exists)
    (◌>>=◌ (found_or (free_from 0 (slots_for 8 moved)) (no.Full pool.Indexes 8)) (λ slot.
    ◌>>◌ (refuse_kind index.kind db (keys p (kept_rows r.rows))) (made (set (slots_for 8 moved) slot (Some (record { kind = index.kind; relation = k; attribute = p }))))))))))
    at
    ∙ ap (λ d. ◌>>=◌ (found_or d (no.NoAttribute 1)) (λ d. tested (allows index.kind d) (is_some (index_slot db k place)))) of
    ∙ ap (λ t. tested t (is_some (index_slot db k place))) is.allowed
    ∙ ap (λ there. tested true (is_some there)) none
    ∙ ap slotted (slot_free 8 moved many)
    ∙ ap (λ a. ◌>>◌ a (made (put (length moved)))) (not_refused index.kind slots before place r.rows rs is.kind)
    ∙ ap made (slot_taken 8 moved (moved_index slots index) many)
    ∙ ap (λ xs. made (slots_for 8 xs)) (sym (map-append (moved_index slots) before (index ∷ []))) in
    subst (λ c. outcome db c ≡ Ok (with_indexes rs (map (moved_index slots) (before ++ index ∷ [])), Fine)) wanted (ap upgraded step)
