-- A change of one slot, seen by the catalog that the bytes stand for.
use Rattle.std.proofs.Common.{◌≡◌, ◌≢◌, ◌⊎◌, inr, ℕ, ◌+◌, ◌*◌, ◌<◌, ◌≤◌, List, [], ◌∷◌, ◌++◌, length, map, set, get_or, Option, None, refl, sym, ap, ◌∙◌, arith, length-append}
use Rattle.std.specs.List.{range_with_len}
use Rattle.std.proofs.Math.Logic.{⊎_elim}
use Rattle.std.proofs.lemmas.Bool.{cases_eq}
use Rattle.std.proofs.lemmas.List.{ext_get_or, get_or-set_other, get_or-set_same, length-set}
use Rattle.std.proofs.lemmas.List.FromFn.{get_or-map-range_with_len, length-map-range_with_len}
use Rattle.afl_base.specs.Fields.{put_at}
use Rattle.afl_base.proofs.FieldLaws.{length-put_at}
use Rattle.db_model.specs.declared.schemas.Schema.{Schema}
use Rattle.db_model.specs.Catalog.{Catalog, Index, IsCatalog, IsRelation, catalog_of, empty_bytes, empty_catalog, in_version_2, index_at, index_slot_bytes, index_slot_of, relation_at, relation_slot_bytes, relation_slot_of, version_mark, with_index_slot, with_relation_slot}
use Rattle.db_model.proofs.Catalogs.{catalog_back, index_slot_back, length-index_slot, length-relation_slot, relation_slot_back}
use Rattle.catalog.specs.CatalogFile.{IsCatalogSize}
use Rattle.catalog.specs.Catalogs.{index_replaced, relation_replaced}
use Rattle.catalog.proofs.Changes.{long_empty, slot_put}
use Rattle.catalog.proofs.PutRanges.{before_put, behind_put, here_put, other_index_put, other_relation_put}
use Rattle.padded.proofs.Facts.{slice_of_front}

-- ---- lists of slots

-- all slots as before, but one
replaced_list : {X : Type 0} (f g : ℕ → X) (n k : ℕ) (x : X) → k < n → g k ≡ x → ((j : ℕ) → j < n → j ≢ k → g j ≡ f j) → map g (range_with_len 0 n) ≡ set (map f (range_with_len 0 n)) k x
replaced_list f g n k x inside here others =
    let old = map f (range_with_len 0 n) in
    let many : length (map g (range_with_len 0 n)) ≡ n = length-map-range_with_len g 0 n in
    let long : length old ≡ n = length-map-range_with_len f 0 n in
    ext_get_or (g 0) (map g (range_with_len 0 n)) (set old k x) (many ∙ sym (length-set old k x ∙ long))
    (λ i h.
    let i_inside : i < n = omega (arith, h, many) in
    let read : get_or (map g (range_with_len 0 n)) i (g 0) ≡ g i = get_or-map-range_with_len g 0 n i i (g 0) i_inside (omega arith) in
    ⊎_elim
    (λ (same : i ≡ k). read ∙ ap g same ∙ here ∙ sym (ap (λ j. get_or (set old k x) j (g 0)) same ∙ get_or-set_same old k x (g 0) (omega (arith, inside, long))))
    (λ (differs : i ≢ k). read ∙ others i i_inside differs ∙ sym (get_or-set_other old k i x (g 0) differs ∙ get_or-map-range_with_len f 0 n i i (g 0) i_inside (omega arith)))
    (cases_eq i k))

-- all slots as before
kept_list : {X : Type 0} (f g : ℕ → X) (n : ℕ) → ((j : ℕ) → j < n → g j ≡ f j) → map g (range_with_len 0 n) ≡ map f (range_with_len 0 n)
kept_list f g n same =
    let many : length (map g (range_with_len 0 n)) ≡ n = length-map-range_with_len g 0 n in
    ext_get_or (g 0) (map g (range_with_len 0 n)) (map f (range_with_len 0 n)) (many ∙ sym (length-map-range_with_len f 0 n))
    (λ i h.
    let inside : i < n = omega (arith, h, many) in
    get_or-map-range_with_len g 0 n i i (g 0) inside (omega arith) ∙ same i inside ∙ sym (get_or-map-range_with_len f 0 n i i (g 0) inside (omega arith)))

-- ---- the catalog before the slot is written

-- bytes of version 2 that hold the same slots
record Stands (bytes version_2 : List ℕ) : Type 0 where
  is : in_version_2 bytes ≡ version_2
  long : length version_2 ≡ 1480
  relations : (j : ℕ) → j < 8 → relation_at version_2 j ≡ relation_at bytes j
  indexes : (j : ℕ) → j < 8 → index_at version_2 j ≡ index_at bytes j

stands_2 : (bytes : List ℕ) → length bytes ≡ 1480 → Stands bytes bytes
stands_2 bytes size = record { is = rw size refl; long = size; relations = λ j h. refl; indexes = λ j h. refl }

stands_1 : (bytes : List ℕ) → length bytes ≡ 1472 → Stands bytes (bytes ++ version_mark)
stands_1 bytes size = record {
  is = rw size refl;
  long = length-append bytes version_mark ∙ ap (λ n. n + 8) size;
  relations = λ j h. ap relation_slot_of (slice_of_front bytes version_mark (176 * j) (176 * j + 176) (omega arith) (omega (arith, size, h)));
  indexes = λ j h. ap index_slot_of (slice_of_front bytes version_mark (1408 + 8 * j) (1408 + 8 * j + 8) (omega arith) (omega (arith, size, h)));
}

is_empty : IsCatalog empty_catalog
is_empty = record { version = inr refl; eight_relations = refl; eight_indexes = refl; relations = (tt, (tt, (tt, (tt, (tt, (tt, (tt, (tt, tt)))))))) }

empty_back : catalog_of empty_bytes ≡ catalog_of []
unfolding empty_bytes
empty_back = catalog_back empty_catalog is_empty

each_slot : {X : Type 0} (f g : ℕ → X) (n j : ℕ) (d : X) → j < n → map g (range_with_len 0 n) ≡ map f (range_with_len 0 n) → g j ≡ f j
each_slot f g n j d h e = sym (get_or-map-range_with_len g 0 n j j d h (omega arith)) ∙ ap (λ xs. get_or xs j d) e ∙ get_or-map-range_with_len f 0 n j j d h (omega arith)

stands_0 : (bytes : List ℕ) → length bytes ≡ 0 → Stands bytes empty_bytes
stands_0 [] size = record {
  is = refl;
  long = long_empty;
  relations = λ j h. each_slot (relation_at []) (relation_at empty_bytes) 8 j None h (ap (λ (c : Catalog). c.relations) empty_back);
  indexes = λ j h. each_slot (index_at []) (index_at empty_bytes) 8 j None h (ap (λ (c : Catalog). c.indexes) empty_back);
}
stands_0 (b ∷ bytes) size = absurd (omega (arith, size))

-- ---- a slot

-- what is read of a slot is what was written
abbrev pub IsReadBack : Option Schema → Type 0
IsReadBack slot = (length (relation_slot_bytes slot) ≡ 176) × (relation_slot_of (relation_slot_bytes slot) ≡ slot)

pub read_back : (slot : Option Schema) → IsRelation slot → IsReadBack slot
read_back slot good = (length-relation_slot slot good, relation_slot_back slot good)

-- ---- the laws

same_slots : (v w : ℕ) (r s : List (Option Schema)) (i j : List (Option Index)) → v ≡ w → r ≡ s → i ≡ j → ◌≡◌ {A = Catalog} (record { version = v; relations = r; indexes = i }) (record { version = w; relations = s; indexes = j })
same_slots v w r s i j e f g = rw (e, f, g) refl

relation_put : (bytes version_2 : List ℕ) (k : ℕ) (slot : Option Schema) → Stands bytes version_2 → k < 8 → IsReadBack slot → catalog_of (with_relation_slot bytes k slot) ≡ relation_replaced (catalog_of bytes) k slot
relation_put bytes version_2 k slot stands h back =
    let part : List ℕ = relation_slot_bytes slot in
    let n : length part ≡ 176 = back.0 in
    let at : ℕ = 176 * k in
    let new : List ℕ = put_at version_2 at part in
    let room : at ≤ length version_2 = omega (arith, stands.long, h) in
    let long : length new ≡ 1480 = length-put_at version_2 part at (omega (arith, stands.long, h, n)) ∙ stands.long in
    let relations : map (relation_at new) (range_with_len 0 8) ≡ set (map (relation_at bytes) (range_with_len 0 8)) k slot =
    replaced_list (relation_at bytes) (relation_at new) 8 k slot h (ap relation_slot_of (here_put version_2 part at 176 n room) ∙ back.1)
    (λ j inside differs. ap relation_slot_of (other_relation_put version_2 part j k n differs room) ∙ stands.relations j inside) in
    let indexes : map (index_at new) (range_with_len 0 8) ≡ map (index_at bytes) (range_with_len 0 8) =
    kept_list (index_at bytes) (index_at new) 8 (λ j inside. ap index_slot_of (behind_put version_2 part at (1408 + 8 * j) (1408 + 8 * j + 8) (omega (arith, n, h)) room) ∙ stands.indexes j inside) in
    ap catalog_of (slot_put bytes version_2 part at stands.is)
    ∙ same_slots _ 2 _ _ _ _ (rw long refl) relations indexes

index_put : (bytes version_2 : List ℕ) (k : ℕ) (slot : Option Index) → Stands bytes version_2 → k < 8 → catalog_of (with_index_slot bytes k slot) ≡ index_replaced (catalog_of bytes) k slot
index_put bytes version_2 k slot stands h =
    let part : List ℕ = index_slot_bytes slot in
    let n : length part ≡ 8 = length-index_slot slot in
    let at : ℕ = 1408 + 8 * k in
    let new : List ℕ = put_at version_2 at part in
    let room : at ≤ length version_2 = omega (arith, stands.long, h) in
    let long : length new ≡ 1480 = length-put_at version_2 part at (omega (arith, stands.long, h, n)) ∙ stands.long in
    let relations : map (relation_at new) (range_with_len 0 8) ≡ map (relation_at bytes) (range_with_len 0 8) =
    kept_list (relation_at bytes) (relation_at new) 8 (λ j inside. ap relation_slot_of (before_put version_2 part at (176 * j) (176 * j + 176) (omega arith) (omega (arith, inside)) room) ∙ stands.relations j inside) in
    let indexes : map (index_at new) (range_with_len 0 8) ≡ set (map (index_at bytes) (range_with_len 0 8)) k slot =
    replaced_list (index_at bytes) (index_at new) 8 k slot h (ap index_slot_of (here_put version_2 part at 8 n room) ∙ index_slot_back slot)
    (λ j inside differs. ap index_slot_of (other_index_put version_2 part j k n differs room) ∙ stands.indexes j inside) in
    ap catalog_of (slot_put bytes version_2 part at stands.is)
    ∙ same_slots _ 2 _ _ _ _ (rw long refl) relations indexes

by_size : (P : Type 0) (bytes : List ℕ) → IsCatalogSize (length bytes) → ((version_2 : List ℕ) → Stands bytes version_2 → P) → P
by_size P bytes size use_it =
    ⊎_elim
    (λ (none : length bytes ≡ 0). use_it empty_bytes (stands_0 bytes none))
    (λ (some : (length bytes ≡ 1472) ⊎ (length bytes ≡ 1480)).
    ⊎_elim
    (λ (first : length bytes ≡ 1472). use_it (bytes ++ version_mark) (stands_1 bytes first))
    (λ (second : length bytes ≡ 1480). use_it bytes (stands_2 bytes second))
    some)
    size

pub relation_changed : (bytes : List ℕ) (k : ℕ) (slot : Option Schema) → IsCatalogSize (length bytes) → k < 8 → IsReadBack slot → catalog_of (with_relation_slot bytes k slot) ≡ relation_replaced (catalog_of bytes) k slot
relation_changed bytes k slot size h back = by_size _ bytes size (λ (version_2 : List ℕ) (stands : Stands bytes version_2). relation_put bytes version_2 k slot stands h back)

pub index_changed : (bytes : List ℕ) (k : ℕ) (slot : Option Index) → IsCatalogSize (length bytes) → k < 8 → catalog_of (with_index_slot bytes k slot) ≡ index_replaced (catalog_of bytes) k slot
index_changed bytes k slot size h = by_size _ bytes size (λ (version_2 : List ℕ) (stands : Stands bytes version_2). index_put bytes version_2 k slot stands h)
