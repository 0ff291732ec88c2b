-- An index that a cut leaves stands on an attribute that can be read.
use Rattle.std.proofs.Common.{◌≡◌, ◌⊎◌, ⊎_elim, inl, inr, ℕ, ◌+◌, ◌*◌, ◌<◌, ◌≤◌, Bool, true, false, not, ◌&&◌, List, [], ◌∷◌, length, get_or, map, replicate, take, Option, Some, None, refl, ap, sym, subst, ◌∙◌, arith}
use Rattle.std.specs.Prelude.{nat_lt, slice_get, slice_range}
use Rattle.std.proofs.lemmas.List.{nil_from_length}
use Rattle.std.proofs.lemmas.List.FromFn.{get_or-map-range_with_len}
use Rattle.std.proofs.lemmas.Bool.Decides.{nat_tests}
use Rattle.std.proofs.lemmas.Grind.{common_steps}
use Rattle.std.proofs.lemmas.Slice.Eq.{bytes_eq-Decides}
use Rattle.std.specs.List.{list_any, range_with_len}
use Rattle.afl_base.specs.Files.{Table}
use Rattle.catalog.specs.Rules.{breaks_index, breaks_relation, broken_catalog, catalog_bytes_in, catalog_in, has_form, is_behind, is_index_form, is_named_among, is_relation_slot, is_same_place, is_sound_index, is_sound_relation, is_surplus_table, stands_on}
use Rattle.db_model.specs.declared.schemas.Attribute.{Attribute}
use Rattle.db_model.specs.declared.schemas.Schema.{Schema}
use Rattle.db_model.specs.Catalog.{Index, catalog_of, index_at, relation_at, relation_slot_bytes, version_of}
use Rattle.db_model.specs.Step.{allows}
use Rattle.padded.proofs.Facts.{both_parts, none_some, none_there, not_not}
use Rattle.stored.specs.CutTables.{IsEmptiedInPart, IsHalfDone, IsSlot, slot_bytes}
use Rattle.stored.specs.Mended.{mended_catalog, whole_bytes, whole_catalog}
use Rattle.stored.specs.declared.half.Half.{Half}
use Rattle.stored.specs.declared.half.Half.TheVariants.{Nothing, Emptying}
use Rattle.stored.proofs.HasFiles.{formed}
use Rattle.stored.proofs.MendedBase.{whole_long}
use Rattle.stored.proofs.SoundSlots.{kept, unbroken_slots}
use Rattle.stored_mend.specs.Listed.{IsBeyond, IsBare, IsDoneTo, IsListedTo, indexes_below, rows_below}
use Rattle.stored_mend.specs.Mending.{IsStrangeSlot}
use Rattle.stored_mend.specs.Reported.{HasNames, IsOn, IsRightSlot, index_seen, relation_seen}
use Rattle.stored_mend.proofs.HalfKept.{relation_at_slot}
use Rattle.stored_mend.proofs.IndexGone.{formed_size}

true_lt : (m n : ℕ) → nat_lt m n ≡ true → m < n
true_lt m n h = grind (arith, nat_tests)

-- the names of an attribute that an index may stand on
on_schema : (files : Table) (index : Index) → index.relation < 8 → (o : Option Schema) → relation_seen files index.relation ≡ o → stands_on index o ≡ true → (name attribute : List ℕ) × IsOn files index name attribute
on_schema files index below None is stands = cc
on_schema files index below (Some schema) is stands = by_place (slice_get schema.attributes index.attribute) refl stands
  where
    by_place : (o : Option Attribute) → slice_get schema.attributes index.attribute ≡ o → elim o [ None ↦ false | Some a ↦ allows index.kind a.domain ] ≡ true → (name attribute : List ℕ) × IsOn files index name attribute
    by_place None placed allowed = cc
    by_place (Some a) placed allowed = (schema.name, a.name, record { below = below; schema = schema; stands = is; named = refl; place = a; placed = placed; called = refl })

-- an index slot that breaks no rule has such an index
on_slot : (files : Table) (slot : ℕ) (index : Index) → breaks_index (whole_catalog files) slot ≡ false → index_seen files slot ≡ Some index → (name attribute : List ℕ) × IsOn files index name attribute
unfolding breaks_index
on_slot files slot index fine is =
    let bytes : List ℕ = whole_catalog files in
    let here : List ℕ = slice_range bytes (1408 + 8 * slot) (1408 + 8 * slot + 8) in
    let relations : List (Option Schema) = (catalog_of bytes).relations in
    let before : List (Option Index) = take slot (catalog_of bytes).indexes in
    let at : (is_index_form here (Some index) && is_behind relations before (Some index)) ≡ true =
    subst (λ (o : Option Index). (is_index_form here o && is_behind relations before o) ≡ true) is (not_not (is_sound_index here relations before) fine) in
    let parts = both_parts (is_index_form here (Some index)) (is_behind relations before (Some index)) at in
    let below : index.relation < 8 = true_lt index.relation 8 (both_parts (nat_lt index.relation 8) _ parts.0).0 in
    let stands : Bool = stands_on index (get_or relations index.relation None) in
    let same : Bool = list_any (is_same_place index) before in
    let third : Bool = is_surplus_table before index in
    let a = both_parts (stands && not same) (not third) parts.1 in
    let b = both_parts stands (not same) a.0 in
    let read : get_or relations index.relation None ≡ relation_at bytes index.relation = get_or-map-range_with_len (relation_at bytes) 0 8 index.relation index.relation None below (omega arith) in
    on_schema files index below (relation_seen files index.relation) refl (subst (λ (o : Option Schema). stands_on index o ≡ true) read b.0)

no_indexes : map (index_at []) (range_with_len 0 8) ≡ replicate 8 None
no_indexes = refl

pub nothing_at : (i : ℕ) (index : Index) → i < 8 → index_at [] i ≡ Some index → ⊥
nothing_at i index below e =
    let here : get_or (map (index_at []) (range_with_len 0 8)) i None ≡ index_at [] i = get_or-map-range_with_len (index_at []) 0 8 i i None below (omega arith) in
    none_some index (sym (ap (λ (os : List (Option Index)). get_or os i None) no_indexes ∙ none_there 8 i) ∙ here ∙ e)

-- a slot of files in which one thing is half done can be read
half_known : (files : Table) (half : Half) (k : ℕ) → k < 8 → IsHalfDone files half → IsStrangeSlot files k → ⊥
half_known files half k below h strange =
    strange half (mended_catalog files).version (subst (λ (o : Option Schema). IsSlot half (mended_catalog files).version k (slot_bytes files k) o) (relation_at_slot files k below) (h.slots k below))

pub listed_names : (files : Table) (slot : ℕ) → slot < 8 → IsListedTo (indexes_below slot) files → HasNames files slot
listed_names files slot below l = record {
  names = λ index is kind. ⊎_elim
      (λ (bare : IsBare files 0).
      let empty : whole_catalog files ≡ [] = ap whole_bytes bare.none in
      absurd (nothing_at slot index below (ap (λ (xs : List ℕ). index_at xs slot) (sym empty) ∙ is)))
      (λ (done : (half : Half) × IsDoneTo (indexes_below slot) files half).
      let on = on_slot files slot index (done.1.done.indexes slot below) is in
      let inside = on.2.below in
      (on.0, on.1, on.2, half_known files done.0 index.relation inside done.1.done))
      l.left;
}

-- ---- a slot without a relation, once all slots are gone through

slice_nothing : (xs : List ℕ) (from end : ℕ) → xs ≡ [] → slice_range xs from end ≡ []
slice_nothing xs from end e =
    let none : length xs ≡ 0 = ap (λ (ys : List ℕ). length ys) e in
    nil_from_length (slice_range xs from end) (grind (arith, common_steps, none))

-- is the one of no relation, or there is no catalog
pub lone_slot : (files : Table) (slot : ℕ) → slot < 8 → IsListedTo (rows_below slot) files → relation_seen files slot ≡ None → IsRightSlot None (slot_bytes files slot)
lone_slot files slot below l unused = ⊎_elim
    (λ (bare : IsBare files slot).
    let empty : whole_catalog files ≡ [] = ap whole_bytes bare.none in
    inr (slice_nothing (whole_catalog files) (176 * slot) (176 * slot + 176) empty))
    (λ (done : (half : Half) × IsDoneTo (rows_below slot) files half).
    let version : ℕ = (mended_catalog files).version in
    let here : IsSlot done.0 version slot (slot_bytes files slot) None =
    subst (λ (o : Option Schema). IsSlot done.0 version slot (slot_bytes files slot) o) (relation_at_slot files slot below ∙ unused) (done.1.done.slots slot below) in
    ⊎_elim
    (λ (written : is_relation_slot version (slot_bytes files slot) None ≡ true). inl ((bytes_eq-Decides (slot_bytes files slot) (relation_slot_bytes None)).0 written))
    (λ (part : (done.0 ≡ Emptying slot) × IsEmptiedInPart slot (slot_bytes files slot)).
    let ahead : 8 ≤ slot = subst (IsBeyond (rows_below slot)) part.0 done.1.ahead in absurd (omega (arith, below, ahead)))
    here)
    l.left

-- ---- a catalog that breaks no rule

-- its bytes are all read
pub whole_formed : (files : Table) → broken_catalog (catalog_bytes_in files) ≡ None → whole_catalog files ≡ catalog_bytes_in files
whole_formed files fine = by_size (catalog_bytes_in files) (formed (catalog_bytes_in files) fine)
  where
    by_size : (bytes : List ℕ) → has_form bytes ≡ true → whole_bytes bytes ≡ bytes
    by_size [] form = refl
    by_size (b ∷ bytes) form =
        let size = formed_size (b ∷ bytes) form (λ none. absurd (omega (arith, none))) in
        whole_long (b ∷ bytes) (⊎_elim (λ (first : length (b ∷ bytes) ≡ 1472). omega (arith, first)) (λ (second : length (b ∷ bytes) ≡ 1480). omega (arith, second)) size)

pub index_formed : (files : Table) (i : ℕ) → i < 8 → broken_catalog (catalog_bytes_in files) ≡ None → get_or (catalog_in files).indexes i None ≡ index_seen files i
index_formed files i below fine =
    get_or-map-range_with_len (index_at (catalog_bytes_in files)) 0 8 i i None below (omega arith) ∙ ap (λ (xs : List ℕ). index_at xs i) (sym (whole_formed files fine))

pub relation_formed : (files : Table) (k : ℕ) → k < 8 → broken_catalog (catalog_bytes_in files) ≡ None → get_or (catalog_in files).relations k None ≡ relation_seen files k
relation_formed files k below fine =
    get_or-map-range_with_len (relation_at (catalog_bytes_in files)) 0 8 k k None below (omega arith) ∙ ap (λ (xs : List ℕ). relation_at xs k) (sym (whole_formed files fine))

-- one that has an index is not empty
some_bytes : (files : Table) (i : ℕ) (index : Index) → i < 8 → index_seen files i ≡ Some index → length (whole_catalog files) ≡ 0 → ⊥
some_bytes files i index below is none = nothing_at i index below (ap (λ (xs : List ℕ). index_at xs i) (sym (nil_from_length (whole_catalog files) none)) ∙ is)

sound_known : (files : Table) (k : ℕ) → breaks_relation (whole_catalog files) k ≡ false → IsStrangeSlot files k → ⊥
unfolding breaks_relation
sound_known files k fine strange =
    let bytes : List ℕ = whole_catalog files in
    let slot : List ℕ = slot_bytes files k in
    let before : List (Option Schema) = take k (catalog_of bytes).relations in
    let sound : is_sound_relation (version_of bytes) slot before ≡ true = not_not (is_sound_relation (version_of bytes) slot before) fine in
    let parts = both_parts (is_relation_slot (version_of bytes) slot (relation_seen files k)) (not (is_named_among (relation_seen files k) before)) sound in
    strange Nothing (version_of bytes) (by_relation (relation_seen files k) parts.0)
  where
    by_relation : (r : Option Schema) → is_relation_slot (version_of (whole_catalog files)) (slot_bytes files k) r ≡ true → IsSlot Nothing (version_of (whole_catalog files)) k (slot_bytes files k) r
    by_relation None e = inl e
    by_relation (Some schema) e = inl e

pub unbroken_names : (files : Table) (slot : ℕ) → slot < 8 → broken_catalog (catalog_bytes_in files) ≡ None → HasNames files slot
unbroken_names files slot below fine = record {
  names = λ index is kind.
      let unbroken = unbroken_slots (whole_catalog files) (ap broken_catalog (whole_formed files fine) ∙ fine) in
      let some : length (whole_catalog files) ≡ 0 → ⊥ = some_bytes files slot index below is in
      let on = on_slot files slot index (kept (whole_catalog files) (breaks_index (whole_catalog files)) slot below some unbroken.indexes) is in
      let inside = on.2.below in
      (on.0, on.1, on.2, sound_known files index.relation (kept (whole_catalog files) (breaks_relation (whole_catalog files)) index.relation inside some unbroken.relations));
}
