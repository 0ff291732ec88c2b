-- What is read of a relation slot.
use Rattle.std.proofs.Common.{◌≡◌, ℕ, ◌+◌, ◌*◌, ◌<◌, Bool, true, false, ◌&&◌, List, [], ◌∷◌, ◌++◌, length, take, drop, refl, ap, ◌∙◌, arith, Some}
use Rattle.std.specs.Prelude.{◌==◌, nat_le, slice_index, slice_range}
use Rattle.std.specs.List.{list_all}
use Rattle.std.proofs.lemmas.List.FromFn.{get_or-map-range_with_len, length-map-range_with_len, map-range_with_len_more}
use Rattle.std.proofs.lemmas.List.Folds.{list_all_at}
use Rattle.db_model.specs.declared.schemas.Attribute.{Attribute}
use Rattle.db_model.specs.Catalog.{attribute_of, attributes_of, relation_slot_of, schema_of}
use Rattle.db_model.specs.Names.{is_name}
use Rattle.db_model.specs.Row.{up_to_zero}
use Rattle.catalog.specs.Rules.{is_attribute_slot, is_row, is_schema}
use Rattle.padded.proofs.Facts.{both_true, first_part, second_part, false_right}
use Rattle.catalog.proofs.Choices.{and_left}

-- a slot that is used
pub used_slot : (slot : List ℕ) → (slice_index slot 0 == 0) ≡ false → relation_slot_of slot ≡ Some (schema_of slot)
used_slot slot e = rw e refl

-- ---- attributes

all_behind : {X : Type 0} (test : X → Bool) (xs : List X) (x : X) → list_all test xs ≡ true → test x ≡ true → list_all test (xs ++ x ∷ []) ≡ true
all_behind test [] x all one = both_true (test x) true one refl
all_behind test (y ∷ ys) x all one = both_true (test y) _ (first_part (test y) (list_all test ys) all) (all_behind test ys x (second_part (test y) (list_all test ys) all) one)

pub length-attributes : (n : ℕ) (bytes : List ℕ) → length (attributes_of n bytes) ≡ n
length-attributes n bytes = length-map-range_with_len (λ j. attribute_of (slice_range bytes (18 * j) (18 * j + 18))) 0 n

-- one attribute more
pub attributes_more : (n : ℕ) (bytes : List ℕ) → attributes_of (n + 1) bytes ≡ attributes_of n bytes ++ attribute_of (slice_range bytes (18 * n) (18 * n + 18)) ∷ []
attributes_more n bytes = map-range_with_len_more (λ j. attribute_of (slice_range bytes (18 * j) (18 * j + 18))) 0 n n (omega arith)

-- one that is no attribute
pub attributes_fail : (version n j : ℕ) (bytes : List ℕ) → j < n → is_attribute_slot version (attribute_of (slice_range bytes (18 * j) (18 * j + 18))) ≡ false → list_all (is_attribute_slot version) (attributes_of n bytes) ≡ false
attributes_fail version n j bytes h e =
    let f : ℕ → Attribute = λ (k : ℕ). attribute_of (slice_range bytes (18 * k) (18 * k + 18)) in
    let inside : j < length (attributes_of n bytes) = omega (arith, h, length-attributes n bytes) in
    list_all_at (is_attribute_slot version) (attributes_of n bytes) j (f j) inside (ap (is_attribute_slot version) (get_or-map-range_with_len f 0 n j j (f j) h (omega arith)) ∙ e)

-- the next is an attribute too
pub all_more : (version n : ℕ) (bytes : List ℕ) → list_all (is_attribute_slot version) (attributes_of n bytes) ≡ true → is_attribute_slot version (attribute_of (slice_range bytes (18 * n) (18 * n + 18))) ≡ true → list_all (is_attribute_slot version) (attributes_of (n + 1) bytes) ≡ true
all_more version n bytes all one = ap (list_all (is_attribute_slot version)) (attributes_more n bytes) ∙ all_behind (is_attribute_slot version) (attributes_of n bytes) _ all one

-- ---- schemas

pub attributes_bad : (version : ℕ) (slot : List ℕ) → (nat_le (slice_index slot 160) 8 && list_all (is_attribute_slot version) (attributes_of (slice_index slot 160) (drop 16 slot))) ≡ false → is_schema version (schema_of slot) ≡ false
attributes_bad version slot e =
    let n : ℕ = slice_index slot 160 in
    let list : List Attribute = attributes_of n (drop 16 slot) in
    and_left _ (is_row list) (false_right (is_name (up_to_zero (take 16 slot))) _ (ap (λ m. nat_le m 8 && list_all (is_attribute_slot version) list) (length-attributes n (drop 16 slot)) ∙ e))

pub row_bad : (version : ℕ) (slot : List ℕ) → is_row (attributes_of (slice_index slot 160) (drop 16 slot)) ≡ false → is_schema version (schema_of slot) ≡ false
row_bad version slot e = false_right _ _ e

pub schema_good : (version : ℕ) (slot : List ℕ) → is_name (up_to_zero (take 16 slot)) ≡ true → (nat_le (slice_index slot 160) 8 && list_all (is_attribute_slot version) (attributes_of (slice_index slot 160) (drop 16 slot))) ≡ true →
    is_row (attributes_of (slice_index slot 160) (drop 16 slot)) ≡ true → is_schema version (schema_of slot) ≡ true
schema_good version slot name attributes row =
    let n : ℕ = slice_index slot 160 in
    let list : List Attribute = attributes_of n (drop 16 slot) in
    both_true _ (is_row list) (both_true (is_name (up_to_zero (take 16 slot))) _ name (ap (λ m. nat_le m 8 && list_all (is_attribute_slot version) list) (length-attributes n (drop 16 slot)) ∙ attributes)) row

pub same_schema : (slot name : List ℕ) (attributes : List Attribute) → name ≡ up_to_zero (take 16 slot) → attributes ≡ attributes_of (slice_index slot 160) (drop 16 slot) → record { name = name; attributes = attributes } ≡ schema_of slot
same_schema slot name attributes e f = rw (e, f) refl
