-- What a catalog of all slots that breaks no rule has in them, whatever is half done beside it.
use Rattle.std.proofs.Common.{◌≡◌, inl, ℕ, ◌+◌, ◌*◌, ◌<◌, ◌≤◌, Bool, true, false, not, List, [], length, map, replicate, take, get_or, Option, None, refl, ap, sym, subst, ◌∙◌, arith}
use Rattle.std.specs.Prelude.{slice_range}
use Rattle.std.specs.List.{range_with_len}
use Rattle.std.proofs.lemmas.List.FromFn.{get_or-map-range_with_len}
use Rattle.afl_base.specs.Files.{Table}
use Rattle.catalog.specs.Rules.{breaks_index, breaks_relation, broken_catalog, catalog_bytes_in, catalog_in, differ, is_named_among, is_relation_slot, is_sound_relation}
use Rattle.db_model.specs.declared.schemas.Schema.{Schema}
use Rattle.db_model.specs.Catalog.{Index, catalog_of, index_at, relation_at, version_of}
use Rattle.padded.proofs.Facts.{both_parts, none_there, not_not, untrue}
use Rattle.stored.specs.CutTables.{HasMark, IsSlot, index_read, relation, slot_bytes}
use Rattle.stored.specs.Mended.{mended_catalog, whole_catalog}
use Rattle.stored.specs.declared.half.Half.{Half}
use Rattle.stored.proofs.HasFiles.{formed}
use Rattle.stored.proofs.MendedBase.{whole_long}
use Rattle.stored.proofs.SoundSlots.{IsUnbroken, kept, unbroken_slots}
use Rattle.stored_mend.proofs.HalfSettled.{written_slot as whole_slot}

pub same_used : (there used : Bool) → differ there used ≡ false → there ≡ used
same_used true true e = refl
same_used true false e = cc
same_used false true e = cc
same_used false false e = refl

no_indexes : map (index_at []) (range_with_len 0 8) ≡ replicate 8 None
no_indexes = refl

-- an empty catalog has no index
pub no_index : (catalog : List ℕ) → catalog ≡ [] → (i : ℕ) → get_or (catalog_of catalog).indexes i None ≡ None
no_index catalog none i = ap (λ (b : List ℕ). get_or (map (index_at b) (range_with_len 0 8)) i None) none ∙ ap (λ (xs : List (Option Index)). get_or xs i None) no_indexes ∙ none_there 8 i

module _ (files : Table) (inner : broken_catalog (catalog_bytes_in files) ≡ None) (long : 1472 ≤ length (catalog_bytes_in files)) (version : (mended_catalog files).version ≡ (catalog_in files).version) where
  abbrev bytes : List ℕ
  bytes = catalog_bytes_in files

  slots_are : IsUnbroken bytes
  slots_are = unbroken_slots bytes inner

  whole_is : whole_catalog files ≡ bytes
  whole_is = whole_long bytes long

  relations_are : (mended_catalog files).relations ≡ (catalog_in files).relations
  unfolding mended_catalog
  relations_are = ap (λ (b : List ℕ). (catalog_of b).relations) whole_is

  pub relation_is : (k : ℕ) → relation files k ≡ get_or (catalog_in files).relations k None
  relation_is k = ap (λ (xs : List (Option Schema)). get_or xs k None) relations_are

  pub index_is : (i : ℕ) → index_read files i ≡ get_or (catalog_in files).indexes i None
  index_is i = ap (λ (b : List ℕ). get_or (catalog_of b).indexes i None) whole_is

  some : length bytes ≡ 0 → ⊥
  some none = omega (arith, long, none)

  slot_kept : (k : ℕ) → k < 8 → is_sound_relation (version_of bytes) (slice_range bytes (176 * k) (176 * k + 176)) (take k (catalog_of bytes).relations) ≡ true
  unfolding breaks_relation
  slot_kept k below =
      not_not (is_sound_relation (version_of bytes) (slice_range bytes (176 * k) (176 * k + 176)) (take k (catalog_of bytes).relations))
      (kept bytes (breaks_relation bytes) k below some slots_are.relations)

  relation_here : (k : ℕ) → k < 8 → relation_at bytes k ≡ relation files k
  relation_here k below = sym (get_or-map-range_with_len (relation_at bytes) 0 8 k k None below (omega arith)) ∙ sym (relation_is k)

  pub slot_is : (half : Half) (k : ℕ) → k < 8 → IsSlot half (mended_catalog files).version k (slot_bytes files k) (relation files k)
  slot_is half k below =
      let slot : List ℕ = slice_range bytes (176 * k) (176 * k + 176) in
      let p = both_parts (is_relation_slot (version_of bytes) slot (relation_at bytes k)) (not (is_named_among (relation_at bytes k) (take k (catalog_of bytes).relations))) (slot_kept k below) in
      subst (λ (b : List ℕ). IsSlot half (mended_catalog files).version k (slice_range b (176 * k) (176 * k + 176)) (relation files k)) (sym whole_is)
      (subst (λ (v : ℕ). IsSlot half v k slot (relation files k)) (sym version)
      (whole_slot half (version_of bytes) k slot (relation files k) (subst (λ (o : Option Schema). is_relation_slot (version_of bytes) slot o ≡ true) (relation_here k below) p.0)))

  pub named_alone : (k : ℕ) → k < 8 → is_named_among (relation files k) (take k (mended_catalog files).relations) ≡ false
  named_alone k below =
      let slot : List ℕ = slice_range bytes (176 * k) (176 * k + 176) in
      let p = both_parts (is_relation_slot (version_of bytes) slot (relation_at bytes k)) (not (is_named_among (relation_at bytes k) (take k (catalog_of bytes).relations))) (slot_kept k below) in
      subst (λ (xs : List (Option Schema)). is_named_among (relation files k) (take k xs) ≡ false) (sym relations_are)
      (subst (λ (o : Option Schema). is_named_among o (take k (catalog_of bytes).relations) ≡ false) (relation_here k below)
      (untrue (is_named_among (relation_at bytes k) (take k (catalog_of bytes).relations)) p.1))

  pub index_fine : (i : ℕ) → i < 8 → breaks_index (whole_catalog files) i ≡ false
  index_fine i below = subst (λ (b : List ℕ). breaks_index b i ≡ false) (sym whole_is) (kept bytes (breaks_index bytes) i below some slots_are.indexes)

  pub has_mark : (half : Half) → HasMark files half
  has_mark half = inl (formed bytes inner, sym version)
