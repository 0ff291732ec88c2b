-- A slot in which zeros stand in front, and behind them the rest of a relation's.
use Rattle.std.proofs.Common.{◌≡◌, ℕ, zero, suc, ◌+◌, ◌-◌, ◌*◌, ◌%◌, ◌≤◌, ◌<◌, Bool, true, false, List, [], ◌∷◌, ◌++◌, length, take, drop, get_or, replicate, Some, refl, sym, ap, subst, ◌∙◌, arith, append_assoc, length-append}
use Rattle.std.specs.Prelude.{flat_map, slice_index, slice_range}
use Rattle.std.specs.Bool.{Decides}
use Rattle.std.specs.List.{AllByRecursion}
use Rattle.std.proofs.Math.Logic.{⊎_elim}
use Rattle.std.proofs.Math.ListN.{drop_of_length-le}
use Rattle.std.proofs.lemmas.Bool.{cases_eq}
use Rattle.std.proofs.lemmas.Grind.{flat_map-append}
use Rattle.std.proofs.lemmas.List.Concat.{flat_map-cons}
use Rattle.std.proofs.lemmas.List.{append-nil, drop-drop, drop_at, get_or-append-add, get_or-drop, length-replicate, length-take-le, take-append-drop, take_at}
use Rattle.db_model.specs.declared.schemas.Attribute.{Attribute}
use Rattle.db_model.specs.declared.schemas.Schema.{Schema}
use Rattle.db_model.specs.Catalog.{IsAttribute, IsRelation, attribute_bytes, relation_slot_bytes}
use Rattle.padded.specs.Padded.{padded}
use Rattle.padded.specs.Zeros.{is_zeros}
use Rattle.padded.proofs.Facts.{yes_no}
use Rattle.stored.specs.CutTables.{IsEdge, IsEmptiedInPart}
use Rattle.stored_survey.proofs.RowsHeld.{nothing_taken as take_nothing}
use Rattle.stored_survey.specs.Parts.{IsSlotEnd}
use Rattle.stored_mend.proofs.PutOver.{are_zeros, drop_joined, zeros_are}
use Rattle.stored_mend.proofs.SlotShape.{length-attribute, length-flat, length-front, length-name, slot_front, slot_rest, slot_shape}

-- ---- an item of a list

pub record IsItem (xs : List Attribute) (i : ℕ) : Type 0 where
  pub item : Attribute
  pub front : take (i + 1) xs ≡ take i xs ++ item ∷ []
  pub split : xs ≡ take i xs ++ item ∷ drop (i + 1) xs
  pub valid : AllByRecursion IsAttribute xs → IsAttribute item

pub item_at : (xs : List Attribute) (i : ℕ) → i < length xs → IsItem xs i
item_at [] i inside = absurd (omega (arith, inside))
item_at (x ∷ xs) zero inside = record { item = x; front = refl; split = refl; valid = λ all. all.0 }
item_at (x ∷ xs) (suc i) inside =
    let more = item_at xs i (omega (arith, inside)) in
    let next : suc i + 1 ≡ suc (i + 1) = omega arith in
    record {
      item = more.item;
      front = ap (λ (n : ℕ). take n (x ∷ xs)) next ∙ ap (λ (ys : List Attribute). x ∷ ys) more.front;
      split = ap (λ (ys : List Attribute). x ∷ ys) more.split ∙ ap (λ (n : ℕ). x ∷ (take i xs ++ more.item ∷ drop n (x ∷ xs))) (sym next);
      valid = λ all. more.valid all.1;
    }

one_more : (xs : List Attribute) (a : Attribute) → flat_map attribute_bytes (xs ++ a ∷ []) ≡ flat_map attribute_bytes xs ++ attribute_bytes a
one_more xs a =
    flat_map-append attribute_bytes xs (a ∷ []) ∙ ap (λ (ys : List ℕ). flat_map attribute_bytes xs ++ ys) (flat_map-cons attribute_bytes a [] ∙ append-nil (attribute_bytes a))

pub all_behind : (xs : List Attribute) (a : Attribute) → AllByRecursion IsAttribute xs → IsAttribute a → AllByRecursion IsAttribute (xs ++ a ∷ [])
all_behind [] a all one = (one, tt)
all_behind (x ∷ xs) a all one = (all.0, all_behind xs a all.1 one)

all_in_front : (i : ℕ) (xs : List Attribute) → AllByRecursion IsAttribute xs → AllByRecursion IsAttribute (take i xs)
all_in_front zero xs all = tt
all_in_front (suc i) [] all = tt
all_in_front (suc i) (x ∷ xs) all = (all.0, all_in_front i xs all.1)

length_front : (i : ℕ) (xs : List Attribute) → i ≤ length xs → length (take i xs) ≡ i
length_front zero xs few = refl
length_front (suc i) [] few = absurd (omega (arith, few))
length_front (suc i) (x ∷ xs) few = let e = length_front i xs (omega (arith, few)) in omega (arith, e)

-- ---- the slot of a relation

-- an attribute stands at its place
pub attribute_there : (schema : Schema) → IsRelation (Some schema) → (i : ℕ) (it : IsItem schema.attributes i) → i < length schema.attributes
    → slice_range (relation_slot_bytes (Some schema)) (16 + 18 * i) (16 + 18 * i + 18) ≡ attribute_bytes it.item
attribute_there schema e i it inside =
    let name : List ℕ = padded 16 schema.name in
    let before : List Attribute = take i schema.attributes in
    let behind : List Attribute = drop (i + 1) schema.attributes in
    let rest : List ℕ = slot_rest (length schema.attributes) in
    let flat : flat_map attribute_bytes schema.attributes ≡ flat_map attribute_bytes before ++ (attribute_bytes it.item ++ flat_map attribute_bytes behind) =
    ap (flat_map attribute_bytes) it.split ∙ flat_map-append attribute_bytes before (it.item ∷ behind) ∙ ap (λ (ys : List ℕ). flat_map attribute_bytes before ++ ys) (flat_map-cons attribute_bytes it.item behind) in
    let shape : relation_slot_bytes (Some schema) ≡ (name ++ flat_map attribute_bytes before) ++ (attribute_bytes it.item ++ (flat_map attribute_bytes behind ++ rest)) =
    slot_shape schema e
    ∙ ap (λ (ys : List ℕ). (name ++ ys) ++ rest) flat
    ∙ ap (λ (ys : List ℕ). ys ++ rest) (sym (append_assoc name (flat_map attribute_bytes before) (attribute_bytes it.item ++ flat_map attribute_bytes behind)))
    ∙ append_assoc (name ++ flat_map attribute_bytes before) (attribute_bytes it.item ++ flat_map attribute_bytes behind) rest
    ∙ ap (λ (ys : List ℕ). (name ++ flat_map attribute_bytes before) ++ ys) (append_assoc (attribute_bytes it.item) (flat_map attribute_bytes behind) rest) in
    let front : length (name ++ flat_map attribute_bytes before) ≡ 16 + 18 * i =
    length-append name (flat_map attribute_bytes before)
    ∙ omega (arith, length-name schema.name e.0, length-flat before (all_in_front i schema.attributes e.2), length_front i schema.attributes (omega (arith, inside))) in
    let width : length (attribute_bytes it.item) ≡ 16 + 18 * i + 18 - (16 + 18 * i) = length-attribute it.item (it.valid e.2) ∙ omega arith in
    ap (λ (ys : List ℕ). slice_range ys (16 + 18 * i) (16 + 18 * i + 18)) shape
    ∙ ap (take (16 + 18 * i + 18 - (16 + 18 * i))) (drop_at (name ++ flat_map attribute_bytes before) (attribute_bytes it.item ++ (flat_map attribute_bytes behind ++ rest)) (16 + 18 * i) front)
    ∙ take_at (attribute_bytes it.item) (flat_map attribute_bytes behind ++ rest) (16 + 18 * i + 18 - (16 + 18 * i)) width

-- what stands in it from a place on
slot_from : (schema : Schema) → IsRelation (Some schema) → (at : ℕ) → 16 ≤ at
    → drop at (relation_slot_bytes (Some schema)) ≡ drop (at - 16) (flat_map attribute_bytes schema.attributes) ++ drop (at - (16 + 18 * length schema.attributes)) (slot_rest (length schema.attributes))
slot_from schema e at low =
    let name : List ℕ = padded 16 schema.name in
    let flat : List ℕ = flat_map attribute_bytes schema.attributes in
    let rest : List ℕ = slot_rest (length schema.attributes) in
    let wide : length name ≡ 16 = length-name schema.name e.0 in
    ap (drop at) (slot_shape schema e)
    ∙ drop_joined at (name ++ flat) rest
    ∙ ap (λ (n : ℕ). drop at (name ++ flat) ++ drop (at - n) rest) (length-front schema e)
    ∙ ap (λ (ys : List ℕ). ys ++ drop (at - (16 + 18 * length schema.attributes)) rest)
    (drop_joined at name flat ∙ ap (λ (ys : List ℕ). ys ++ drop (at - length name) flat) (drop_of_length-le name (omega (arith, wide, low))) ∙ ap (λ (n : ℕ). drop (at - n) flat) wide)

-- with the same attributes from there on it is the same
pub slots_alike : (one other : Schema) → IsRelation (Some one) → IsRelation (Some other) → (at : ℕ) → 16 ≤ at → length one.attributes ≡ length other.attributes
    → drop (at - 16) (flat_map attribute_bytes one.attributes) ≡ drop (at - 16) (flat_map attribute_bytes other.attributes)
    → drop at (relation_slot_bytes (Some one)) ≡ drop at (relation_slot_bytes (Some other))
slots_alike one other e f at low many same =
    slot_from one e at low
    ∙ ap (λ (ys : List ℕ). ys ++ drop (at - (16 + 18 * length one.attributes)) (slot_rest (length one.attributes))) same
    ∙ ap (λ (n : ℕ). drop (at - 16) (flat_map attribute_bytes other.attributes) ++ drop (at - (16 + 18 * n)) (slot_rest n)) many
    ∙ sym (slot_from other f at low)

-- their number
pub count_there : (schema : Schema) → IsRelation (Some schema) → slice_index (relation_slot_bytes (Some schema)) 160 ≡ length schema.attributes
count_there schema e =
    let n : ℕ = length schema.attributes in
    let zeros : List ℕ = replicate (144 - 18 * n) 0 in
    let tail : List ℕ = padded 15 (n ∷ []) ++ 1 ∷ [] in
    let front : length (slot_front schema ++ zeros) ≡ 160 = length-append (slot_front schema) zeros ∙ omega (arith, length-front schema e, length-replicate {A = ℕ} (144 - 18 * n) 0, e.1) in
    ap (λ (ys : List ℕ). slice_index ys 160) (slot_shape schema e ∙ sym (append_assoc (slot_front schema) zeros tail))
    ∙ subst (λ (m : ℕ). slice_index ((slot_front schema ++ zeros) ++ tail) m ≡ n) (omega (arith, front)) (get_or-append-add (slot_front schema ++ zeros) tail 0 0)

drop_taken : (h n : ℕ) (xs : List ℕ) → drop h (take n xs) ≡ take (n - h) (drop h xs)
drop_taken zero n xs = let e : n - 0 ≡ n = omega arith in ap (λ (m : ℕ). take m xs) (sym e)
drop_taken (suc h) zero xs = let e : 0 - suc h ≡ 0 = omega arith in ap (λ (m : ℕ). take m (drop (suc h) xs)) (sym e)
drop_taken (suc h) (suc n) [] = sym (take_nothing (suc n - suc h))
drop_taken (suc h) (suc n) (x ∷ xs) = let e : suc n - suc h ≡ n - h = omega arith in drop_taken h n xs ∙ ap (λ (m : ℕ). take m (drop h xs)) (sym e)

range_from : (xs : List ℕ) (begin h : ℕ) → drop h (slice_range xs begin (begin + 18)) ≡ take (begin + 18 - begin - h) (drop (begin + h) xs)
range_from xs begin h = drop_taken h (begin + 18 - begin) (drop begin xs) ∙ ap (take (begin + 18 - begin - h)) (drop-drop h begin xs)

-- ---- zeros in front

module _ (at : ℕ) (slot : List ℕ) (was : Schema) (w : IsSlotEnd at slot was) where
  zeros_long : length (replicate {A = ℕ} at 0) ≡ at
  zeros_long = length-replicate {A = ℕ} at 0

  pub rest_is : drop at slot ≡ drop at (relation_slot_bytes (Some was))
  rest_is = ap (drop at) w.bytes ∙ drop_at (replicate at 0) (drop at (relation_slot_bytes (Some was))) at zeros_long

  pub later_is : (n : ℕ) → at ≤ n → drop n slot ≡ drop n (relation_slot_bytes (Some was))
  later_is n past =
      let whole : at + (n - at) ≡ n = omega (arith, past) in
      ap (λ (m : ℕ). drop m slot) (sym whole) ∙ sym (drop-drop (n - at) at slot) ∙ ap (drop (n - at)) rest_is ∙ drop-drop (n - at) at (relation_slot_bytes (Some was)) ∙ ap (λ (m : ℕ). drop m (relation_slot_bytes (Some was))) whole

  pub zeros_there : is_zeros (take at slot) ≡ true
  zeros_there = are_zeros (take at slot) at (ap (take at) w.bytes ∙ take_at (replicate at 0) (drop at (relation_slot_bytes (Some was))) at zeros_long)

  pub count_is : at ≤ 160 → slice_index slot 160 ≡ length was.attributes
  count_is few =
      sym (get_or-drop 160 slot 0 0) ∙ ap (λ (ys : List ℕ). get_or ys 0 0) (later_is 160 few) ∙ get_or-drop 160 (relation_slot_bytes (Some was)) 0 0 ∙ count_there was w.valid

  -- an attribute at its place, from there on
  pub piece_is : (i : ℕ) (it : IsItem was.attributes i) → i < length was.attributes
      → drop (at - (16 + 18 * i)) (slice_range slot (16 + 18 * i) (16 + 18 * i + 18)) ≡ drop (at - (16 + 18 * i)) (attribute_bytes it.item)
  piece_is i it inside =
      pieces (16 + 18 * i) (at - (16 + 18 * i)) (omega arith) ∙ ap (drop (at - (16 + 18 * i))) (attribute_there was w.valid i it inside)
    where
      pieces : (begin h : ℕ) → at ≤ begin + h → drop h (slice_range slot begin (begin + 18)) ≡ drop h (slice_range (relation_slot_bytes (Some was)) begin (begin + 18))
      pieces begin h past = range_from slot begin h ∙ ap (take (begin + 18 - begin - h)) (later_is (begin + h) past) ∙ sym (range_from (relation_slot_bytes (Some was)) begin h)

-- ---- attributes that were read one by one

-- they are those of a relation from there on, as far as they go
abbrev pub AreAlike : (at place : ℕ) → List Attribute → Schema → Type 0
AreAlike at place attributes was = drop (at - 16) (flat_map attribute_bytes attributes) ≡ drop (at - 16) (flat_map attribute_bytes (take place was.attributes))

pub alike_more : (at place : ℕ) (attributes : List Attribute) (was : Schema) (made : Attribute) (it : IsItem was.attributes place)
    → AllByRecursion IsAttribute attributes → AllByRecursion IsAttribute was.attributes → length attributes ≡ place → place < length was.attributes
    → AreAlike at place attributes was → drop (at - (16 + 18 * place)) (attribute_bytes made) ≡ drop (at - (16 + 18 * place)) (attribute_bytes it.item)
    → AreAlike at (place + 1) (attributes ++ made ∷ []) was
alike_more at place attributes was made it good all many inside same one =
    let mine : List ℕ = flat_map attribute_bytes attributes in
    let theirs : List ℕ = flat_map attribute_bytes (take place was.attributes) in
    let long : length mine ≡ 18 * place = length-flat attributes good ∙ ap (λ n. 18 * n) many in
    let other : length theirs ≡ 18 * place = length-flat (take place was.attributes) (all_in_front place was.attributes all) ∙ ap (λ n. 18 * n) (length_front place was.attributes (omega (arith, inside))) in
    let left : at - 16 - length mine ≡ at - (16 + 18 * place) = omega (arith, long) in
    let right : at - 16 - length theirs ≡ at - (16 + 18 * place) = omega (arith, other) in
    ap (drop (at - 16)) (one_more attributes made)
    ∙ drop_joined (at - 16) mine (attribute_bytes made)
    ∙ ap (λ (n : ℕ). drop (at - 16) mine ++ drop n (attribute_bytes made)) left
    ∙ ap (λ (ys : List ℕ). ys ++ drop (at - (16 + 18 * place)) (attribute_bytes made)) same
    ∙ ap (λ (ys : List ℕ). drop (at - 16) theirs ++ ys) one
    ∙ ap (λ (n : ℕ). drop (at - 16) theirs ++ drop n (attribute_bytes it.item)) (sym right)
    ∙ sym (drop_joined (at - 16) theirs (attribute_bytes it.item))
    ∙ ap (drop (at - 16)) (sym (one_more (take place was.attributes) it.item) ∙ ap (flat_map attribute_bytes) (sym it.front))

-- ---- the answers

-- a relation that was put together has the rest of the slot, where one has
pub rest_decides : (r : Bool) (at : ℕ) (slot : List ℕ) (made : Schema) → at ≤ length slot → IsRelation (Some made) → is_zeros (take at slot) ≡ true
    → Decides r (drop at slot ≡ drop at (relation_slot_bytes (Some made)))
    → ((was : Schema) → IsSlotEnd at slot was → drop at (relation_slot_bytes (Some made)) ≡ drop at (relation_slot_bytes (Some was)))
    → Decides r ((was : Schema) × IsSlotEnd at slot was)
rest_decides r at slot made inside valid zeros same alike = (
  λ e. (
    made,
    record {
      valid = valid;
      bytes =
          let front : take at slot ≡ replicate at 0 = zeros_are (take at slot) zeros ∙ ap (λ (n : ℕ). replicate {A = ℕ} n 0) (length-take-le at slot inside) in
          sym (take-append-drop at slot) ∙ ap (λ (ys : List ℕ). ys ++ drop at slot) front ∙ ap (λ (ys : List ℕ). replicate at 0 ++ ys) (same.0 e);
    },
  ),
  λ w. same.1 (rest_is at slot w.0 w.1 ∙ sym (alike w.0 w.1)),
)

pub no_zeros : (at : ℕ) (slot : List ℕ) → is_zeros (take at slot) ≡ false → Decides false ((was : Schema) × IsSlotEnd at slot was)
no_zeros at slot e = (λ f. absurd (cc), λ w. yes_no (is_zeros (take at slot)) (zeros_there at slot w.0 w.1) e)

pub no_rest : (at : ℕ) (slot : List ℕ) → ((was : Schema) → IsSlotEnd at slot was → ⊥) → Decides false ((was : Schema) × IsSlotEnd at slot was)
no_rest at slot none = (λ f. absurd (cc), λ w. absurd (none w.0 w.1))

-- where a region begins in a slot: at no byte of a name, and at even places
pub record IsInFields (at : ℕ) : Type 0 where
  pub low : 16 ≤ at
  pub high : at ≤ 160
  pub even : at % 2 ≡ 0

pub edge_inside : (k at : ℕ) → k < 8 → 0 < at → at < 176 → IsEdge k at → IsInFields at
edge_inside k at few some inside edge = record { low = omega (arith, few, some, edge); high = omega (arith, few, inside, edge); even = omega (arith, edge) }

-- no part stands behind the begin of a region before a place
abbrev pub NoneBelow : (k : ℕ) (slot : List ℕ) (n : ℕ) → Type 0
NoneBelow k slot n = (at : ℕ) → 16 ≤ at → at < n → IsEdge k at → ((was : Schema) × IsSlotEnd at slot was) → ⊥

pub none_at_first : (k : ℕ) (slot : List ℕ) → NoneBelow k slot 16
none_at_first k slot at low less edge found = absurd (omega (arith, low, less))

pub none_here : (k : ℕ) (slot : List ℕ) (n : ℕ) (r : Bool) → r ≡ false → Decides r (IsEdge k n × ((was : Schema) × IsSlotEnd n slot was)) → NoneBelow k slot n → NoneBelow k slot (n + 1)
none_here k slot n r fails d before at low less edge found =
    ⊎_elim
    (λ (same : at ≡ n). yes_no r (d.1 (subst (λ (m : ℕ). IsEdge k m × ((was : Schema) × IsSlotEnd m slot was)) same (edge, found))) fails)
    (λ differs. before at low (omega (arith, less, differs)) edge found)
    (cases_eq at n)

pub never_emptied : (k : ℕ) (slot : List ℕ) → k < 8 → (n : ℕ) → 161 ≤ n → NoneBelow k slot n → Decides false (IsEmptiedInPart k slot)
never_emptied k slot few n past none = (
  λ f. absurd (cc),
  λ e.
      let there = edge_inside k e.at few e.inside.0 e.inside.1 e.edge in
      absurd (none e.at there.low (omega (arith, there.high, past)) e.edge (e.was, record { valid = e.valid; bytes = e.bytes })),
)

pub emptied_there : (k at : ℕ) (slot : List ℕ) → 16 ≤ at → at < 161 → IsEdge k at × ((was : Schema) × IsSlotEnd at slot was) → Decides true (IsEmptiedInPart k slot)
emptied_there k at slot low high found = (
  λ e. record { was = found.1.0; valid = found.1.1.valid; at = at; inside = (omega (arith, low), omega (arith, high)); edge = found.0; bytes = found.1.1.bytes },
  λ e. refl,
)
