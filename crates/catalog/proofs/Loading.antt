-- What the slots that are read in order stand for.
use Rattle.std.proofs.Common.{◌≡◌, ℕ, ◌+◌, ◌*◌, ◌<◌, ◌≤◌, true, false, List, [], ◌∷◌, ◌++◌, length, map, set, take, sym, ap, ◌∙◌, arith, Option, Some, None}
use Rattle.std.specs.Prelude.{not, slice_range}
use Rattle.std.specs.List.{range_with_len}
use Rattle.std.proofs.lemmas.List.{map-append, take_all, take_more_set}
use Rattle.std.proofs.lemmas.List.FromFn.{map-range_with_len_more, take-map-range_with_len}
use Rattle.db_model.specs.declared.schemas.Schema.{Schema}
use Rattle.db_model.specs.Catalog.{Index, catalog_of, index_at, relation_at, version_of}
use Rattle.catalog.specs.Rules.{breaks_index, breaks_relation, is_sound_index, is_sound_relation, sound_index, sound_relation}
use Rattle.catalog.proofs.Choices.{none_if, some_if}

-- ---- lists that are filled in order

-- one more element
pub filled_more : {X : Type 0} (f : ℕ → X) (xs : List X) (k : ℕ) (x : X) → k < length xs → take k xs ≡ map f (range_with_len 0 k) → x ≡ f k → take (k + 1) (set xs k x) ≡ map f (range_with_len 0 (k + 1))
filled_more f xs k x h e g = take_more_set xs k x h ∙ ap (λ ys. ys ++ x ∷ []) e ∙ ap (λ y. map f (range_with_len 0 k) ++ y ∷ []) g ∙ sym (map-range_with_len_more f 0 k k (omega arith))

-- all elements
pub filled_all : {X : Type 0} (f : ℕ → X) (xs : List X) (k n : ℕ) → length xs ≡ n → n ≤ k → k ≤ n → take k xs ≡ map f (range_with_len 0 k) → xs ≡ map f (range_with_len 0 n)
filled_all f xs k n long h i e = let same : k ≡ n = omega (arith, h, i) in sym (take_all k xs (omega (arith, long, h))) ∙ e ∙ ap (λ m. map f (range_with_len 0 m)) same

-- the same, seen through a function
pub seen_more : {X Y : Type 0} (h : X → Y) (f : ℕ → Y) (xs : List X) (k : ℕ) (x : X) → k < length xs → map h (take k xs) ≡ map f (range_with_len 0 k) → h x ≡ f k → map h (take (k + 1) (set xs k x)) ≡ map f (range_with_len 0 (k + 1))
seen_more h f xs k x i e g =
    ap (map h) (take_more_set xs k x i) ∙ map-append h (take k xs) (x ∷ []) ∙ ap (λ ys. ys ++ h x ∷ []) e ∙ ap (λ y. map f (range_with_len 0 k) ++ y ∷ []) g ∙ sym (map-range_with_len_more f 0 k k (omega arith))

pub seen_all : {X Y : Type 0} (h : X → Y) (f : ℕ → Y) (xs : List X) (k n : ℕ) → length xs ≡ n → n ≤ k → k ≤ n → map h (take k xs) ≡ map f (range_with_len 0 k) → map h xs ≡ map f (range_with_len 0 n)
seen_all h f xs k n long i j e = let same : k ≡ n = omega (arith, i, j) in ap (map h) (sym (take_all k xs (omega (arith, long, i)))) ∙ e ∙ ap (λ m. map f (range_with_len 0 m)) same

-- ---- relations

relations_before : (bytes : List ℕ) (k : ℕ) → k ≤ 8 → take k (catalog_of bytes).relations ≡ map (relation_at bytes) (range_with_len 0 k)
relations_before bytes k h = take-map-range_with_len (relation_at bytes) 0 8 k h

same_judge : (bytes : List ℕ) (version k : ℕ) (before : List (Option Schema)) → k ≤ 8 → version ≡ version_of bytes → before ≡ map (relation_at bytes) (range_with_len 0 k) →
    is_sound_relation version (slice_range bytes (176 * k) (176 * k + 176)) before ≡ is_sound_relation (version_of bytes) (slice_range bytes (176 * k) (176 * k + 176)) (take k (catalog_of bytes).relations)
same_judge bytes version k before h e f =
    let slot = slice_range bytes (176 * k) (176 * k + 176) in
    ap (λ v. is_sound_relation v slot before) e ∙ ap (λ rs. is_sound_relation (version_of bytes) slot rs) (f ∙ sym (relations_before bytes k h))

pub relation_found : (bytes : List ℕ) (version k : ℕ) (before : List (Option Schema)) (r : Option Schema) → k ≤ 8 → version ≡ version_of bytes → before ≡ map (relation_at bytes) (range_with_len 0 k) →
    Some r ≡ sound_relation version (slice_range bytes (176 * k) (176 * k + 176)) before → (breaks_relation bytes k ≡ false) × (r ≡ relation_at bytes k)
unfolding sound_relation breaks_relation
relation_found bytes version k before r h e f is =
    let read = some_if _ r (relation_at bytes k) is in
    (ap not (sym (same_judge bytes version k before h e f) ∙ read.0), read.1)

pub relation_broken : (bytes : List ℕ) (version k : ℕ) (before : List (Option Schema)) → k ≤ 8 → version ≡ version_of bytes → before ≡ map (relation_at bytes) (range_with_len 0 k) →
    None ≡ sound_relation version (slice_range bytes (176 * k) (176 * k + 176)) before → breaks_relation bytes k ≡ true
unfolding sound_relation breaks_relation
relation_broken bytes version k before h e f is =
    ap not (sym (same_judge bytes version k before h e f) ∙ none_if _ (relation_at bytes k) is)

-- ---- indexes

indexes_before : (bytes : List ℕ) (k : ℕ) → k ≤ 8 → take k (catalog_of bytes).indexes ≡ map (index_at bytes) (range_with_len 0 k)
indexes_before bytes k h = take-map-range_with_len (index_at bytes) 0 8 k h

same_index : (bytes : List ℕ) (k : ℕ) (relations : List (Option Schema)) (before : List (Option Index)) → k ≤ 8 → relations ≡ (catalog_of bytes).relations → before ≡ map (index_at bytes) (range_with_len 0 k) →
    is_sound_index (slice_range bytes (1408 + 8 * k) (1408 + 8 * k + 8)) relations before ≡ is_sound_index (slice_range bytes (1408 + 8 * k) (1408 + 8 * k + 8)) (catalog_of bytes).relations (take k (catalog_of bytes).indexes)
same_index bytes k relations before h e f =
    let slot = slice_range bytes (1408 + 8 * k) (1408 + 8 * k + 8) in
    ap (λ rs. is_sound_index slot rs before) e ∙ ap (λ is. is_sound_index slot (catalog_of bytes).relations is) (f ∙ sym (indexes_before bytes k h))

pub index_found : (bytes : List ℕ) (k : ℕ) (relations : List (Option Schema)) (before : List (Option Index)) (r : Option Index) → k ≤ 8 → relations ≡ (catalog_of bytes).relations → before ≡ map (index_at bytes) (range_with_len 0 k) →
    Some r ≡ sound_index (slice_range bytes (1408 + 8 * k) (1408 + 8 * k + 8)) relations before → (breaks_index bytes k ≡ false) × (r ≡ index_at bytes k)
unfolding sound_index breaks_index
index_found bytes k relations before r h e f is =
    let read = some_if _ r (index_at bytes k) is in
    (ap not (sym (same_index bytes k relations before h e f) ∙ read.0), read.1)

pub index_broken : (bytes : List ℕ) (k : ℕ) (relations : List (Option Schema)) (before : List (Option Index)) → k ≤ 8 → relations ≡ (catalog_of bytes).relations → before ≡ map (index_at bytes) (range_with_len 0 k) →
    None ≡ sound_index (slice_range bytes (1408 + 8 * k) (1408 + 8 * k + 8)) relations before → breaks_index bytes k ≡ true
unfolding sound_index breaks_index
index_broken bytes k relations before h e f is =
    ap not (sym (same_index bytes k relations before h e f) ∙ none_if _ (index_at bytes k) is)
