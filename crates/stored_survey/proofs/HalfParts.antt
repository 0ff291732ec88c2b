-- All is sound beside what is half done where each slot is.
use Rattle.std.proofs.Common.{◌≡◌, ◌⊎◌, inl, inr, ⊎_elim, ℕ, zero, suc, ◌<◌, ◌≤◌, Bool, true, false, ◌&&◌, List, [], ◌∷◌, length, take, get_or, Option, Some, None, if◌then◌else◌, refl, ap, sym, subst, ◌∙◌, arith}
use Rattle.std.specs.Prelude.{IfSome, is_some}
use Rattle.std.specs.List.{list_any}
use Rattle.std.specs.Str.{bytes_eq}
use Rattle.std.proofs.lemmas.List.{nil_from_length}
use Rattle.std.proofs.lemmas.Slice.Eq.{bytes_eq-Decides}
use Rattle.afl_base.specs.Files.{File, IsNamed, Table, bytes_at, place}
use Rattle.afl_base.proofs.FileLaws.{named_live, place_live}
use Rattle.catalog.specs.Rules.{breaks_index, catalog_bytes_in, has_name, is_named_among, is_relation_slot, is_schema, is_tree}
use Rattle.catalog.proofs.Named.{named_found}
use Rattle.db_model.specs.declared.schemas.Schema.{Schema}
use Rattle.db_model.specs.Catalog.{Index, relation_slot_bytes}
use Rattle.padded.proofs.Facts.{both_parts, both_true, bytes_eq_same, none_some, some_same}
use Rattle.space_model.specs.FileNames.{bytes_in_file, bytes_named, file_named, is_there, rows_file, tree_file}
use Rattle.stored.specs.CutTables.{HasMark, HoldsRowsOr, IsEmptiedInPart, IsGrownInPart, IsHalfDone, IsSlot, index_read, relation, slot_bytes}
use Rattle.stored.specs.Mended.{mended_catalog, whole_catalog}
use Rattle.stored.specs.declared.half.Half.{Half}
use Rattle.stored.specs.declared.half.Half.TheVariants.{Nothing, Emptying, Growing, LoneRows, AddingRow}
use Rattle.stored_survey.specs.Asked.{AreKeptBeside, AreSoundBeside, IsKeptBeside, IsSoundBeside}
use Rattle.stored_survey.specs.Pieces.{IsUnusedBeside, IsUsedBeside}
use Rattle.stored_survey.specs.Shown.{Shows}
use Rattle.stored_survey.proofs.Slots.{relation_below, standing_below}

-- ---- files by name

-- a file that is there stands under an id
pub record IsFound (files : Table) (name : List ℕ) : Type 0 where
  pub id : ℕ
  pub named : IsNamed files id name
  pub is : file_named name files ≡ place files id

pub there_found : (files : Table) (name : List ℕ) → is_there name files ≡ true → IsFound files name
there_found [] name e = cc
there_found (None ∷ files) name e = let rest = there_found files name e in record { id = suc rest.id; named = rest.named; is = rest.is }
there_found (Some f ∷ files) name e = by_test (bytes_eq f.name name) refl e (there_found files name)
  where
    by_test : (b : Bool) → bytes_eq f.name name ≡ b → is_some (if b then Some f else file_named name files) ≡ true → (is_there name files ≡ true → IsFound files name) → IsFound (Some f ∷ files) name
    by_test true t e more = record { id = zero; named = ap (λ (n : List ℕ). Some n) ((bytes_eq-Decides f.name name).0 t); is = ap (λ (b : Bool). if b then Some f else file_named name files) t }
    by_test false t e more = let rest = more e in record { id = suc rest.id; named = rest.named; is = ap (λ (b : Bool). if b then Some f else file_named name files) t ∙ rest.is }

-- and has its bytes
pub found_bytes : (files : Table) (id : ℕ) (name : List ℕ) → IsNamed files id name → file_named name files ≡ place files id → bytes_at files id ≡ bytes_named name files
found_bytes files id name named is = sym (ap bytes_in_file (is ∙ place_live files id (named_live files id name named)))

pub only_bytes : (files : Table) (id : ℕ) (name : List ℕ) → IsNamed files id name → ((k : ℕ) → IsNamed files k name → k ≡ id) → bytes_at files id ≡ bytes_named name files
only_bytes files id name named only = found_bytes files id name named (named_found files id name named only)

pub some_bytes : (files : Table) (name : List ℕ) (o : Option ℕ) → IfSome o (λ id. IsNamed files id name) → IfSome o (λ id. (k : ℕ) → IsNamed files k name → k ≡ id)
    → IfSome o (λ id. bytes_at files id ≡ bytes_named name files)
some_bytes files name None named only = tt
some_bytes files name (Some id) named only = only_bytes files id name named only

pub gone_bytes : (files : Table) (name : List ℕ) → is_there name files ≡ false → bytes_named name files ≡ []
gone_bytes files name e = by_file (file_named name files) e
  where
    by_file : (o : Option File) → is_some o ≡ false → bytes_in_file o ≡ []
    by_file None e = refl
    by_file (Some f) e = cc

-- ---- a slot without a relation

module _ (files : Table) (half : Half) (k : ℕ) (none : relation files k ≡ None) where
  pub free_sound : IsUnusedBeside half k (slot_bytes files k) (is_there (rows_file k) files) → IsSoundBeside files half k
  free_sound u = record {
    slot = subst (λ (o : Option Schema). IsSlot half (mended_catalog files).version k (slot_bytes files k) o) (sym none) (⊎_elim
        (λ (same : slot_bytes files k ≡ relation_slot_bytes None). inl (bytes_eq_same (slot_bytes files k) (relation_slot_bytes None) same))
        (λ (part : (half ≡ Emptying k) × IsEmptiedInPart k (slot_bytes files k)). inr part)
        u.slot_is);
    named_once = ap (λ (o : Option Schema). is_named_among o (take k (mended_catalog files).relations)) none;
    rows_there = ⊎_elim
        (λ (used : is_some (relation files k) ≡ true). absurd (let no : false ≡ true = sym (ap is_some none) ∙ used in let n : ⊥ = cc in n))
        (λ (e : half ≡ Emptying k). u.wanted e);
    rows_lone = λ there. inr (u.lone there);
    grown = λ e. by_there (is_there (rows_file k) files) refl e;
    rows = λ schema is. absurd (none_some schema (sym none ∙ is));
  }
    where
      by_there : (b : Bool) → is_there (rows_file k) files ≡ b → half ≡ Growing k → bytes_named (rows_file k) files ≡ []
      by_there false t e = gone_bytes files (rows_file k) t
      by_there true t e = ⊎_elim
          (λ (f : half ≡ LoneRows k). absurd (let g : Growing k ≡ LoneRows k = sym e ∙ f in let n : ⊥ = cc in n))
          (λ (f : half ≡ Emptying k). absurd (let g : Growing k ≡ Emptying k = sym e ∙ f in let n : ⊥ = cc in n))
          (u.lone t)

  pub sound_free : IsSoundBeside files half k → IsUnusedBeside half k (slot_bytes files k) (is_there (rows_file k) files)
  sound_free s = record {
    slot_is = free_is (subst (λ (o : Option Schema). IsSlot half (mended_catalog files).version k (slot_bytes files k) o) none s.slot);
    wanted = λ e. s.rows_there (inr e);
    lone = λ there. ⊎_elim
        (λ (used : is_some (relation files k) ≡ true). absurd (let no : false ≡ true = sym (ap is_some none) ∙ used in let n : ⊥ = cc in n))
        (λ (e : (half ≡ LoneRows k) ⊎ (half ≡ Emptying k)). e)
        (s.rows_lone there);
  }
    where
      free_is : IsSlot half (mended_catalog files).version k (slot_bytes files k) None → (slot_bytes files k ≡ relation_slot_bytes None) ⊎ ((half ≡ Emptying k) × IsEmptiedInPart k (slot_bytes files k))
      free_is (inl e) = inl ((bytes_eq-Decides (slot_bytes files k) (relation_slot_bytes None)).0 e)
      free_is (inr part) = inr part

-- ---- the slot of a relation

module _ (files : Table) (half : Half) (k : ℕ) (schema : Schema) (is : relation files k ≡ Some schema) where
  abbrev rows_of_slot : List ℕ
  rows_of_slot = bytes_named (rows_file k) files

  pub used_sound : is_schema (mended_catalog files).version schema ≡ true → is_there (rows_file k) files ≡ true → list_any (has_name schema.name) (take k (mended_catalog files).relations) ≡ false
      → IsUsedBeside half k (slot_bytes files k) schema (length rows_of_slot) → HoldsRowsOr half (mended_catalog files).version k schema.attributes rows_of_slot → IsSoundBeside files half k
  used_sound valid there named u rows = record {
    slot = subst (λ (o : Option Schema). IsSlot half (mended_catalog files).version k (slot_bytes files k) o) (sym is) (⊎_elim
        (λ (same : slot_bytes files k ≡ relation_slot_bytes (Some schema)).
        inl (both_true (is_schema (mended_catalog files).version schema) (bytes_eq (slot_bytes files k) (relation_slot_bytes (Some schema))) valid (bytes_eq_same (slot_bytes files k) (relation_slot_bytes (Some schema)) same)))
        (λ (part : (half ≡ Growing k) × IsGrownInPart k (slot_bytes files k) schema). inr (part.0, valid, part.1))
        u.slot_is);
    named_once = ap (λ (o : Option Schema). is_named_among o (take k (mended_catalog files).relations)) is ∙ named;
    rows_there = λ e. there;
    rows_lone = λ e. inl (ap is_some is);
    grown = λ e. nil_from_length rows_of_slot (u.empty e);
    rows = λ other at. subst (λ (s : Schema). HoldsRowsOr half (mended_catalog files).version k s.attributes rows_of_slot) (some_same schema other (sym is ∙ at)) rows;
  }

  pub sound_there : IsSoundBeside files half k → is_there (rows_file k) files ≡ true
  sound_there s = s.rows_there (inl (ap is_some is))

  pub sound_named : IsSoundBeside files half k → list_any (has_name schema.name) (take k (mended_catalog files).relations) ≡ false
  sound_named s = sym (ap (λ (o : Option Schema). is_named_among o (take k (mended_catalog files).relations)) is) ∙ s.named_once

  pub sound_used : IsSoundBeside files half k → IsUsedBeside half k (slot_bytes files k) schema (length rows_of_slot)
  sound_used s = record {
    slot_is = used_is (subst (λ (o : Option Schema). IsSlot half (mended_catalog files).version k (slot_bytes files k) o) is s.slot);
    empty = λ e. ap (λ (xs : List ℕ). length xs) (s.grown e);
  }
    where
      used_is : IsSlot half (mended_catalog files).version k (slot_bytes files k) (Some schema) → (slot_bytes files k ≡ relation_slot_bytes (Some schema)) ⊎ ((half ≡ Growing k) × IsGrownInPart k (slot_bytes files k) schema)
      used_is (inl e) =
          inl ((bytes_eq-Decides (slot_bytes files k) (relation_slot_bytes (Some schema))).0 (both_parts (is_schema (mended_catalog files).version schema) (bytes_eq (slot_bytes files k) (relation_slot_bytes (Some schema))) e).1)
      used_is (inr part) = inr (part.0, part.2)

  pub sound_rows : IsSoundBeside files half k → HoldsRowsOr half (mended_catalog files).version k schema.attributes rows_of_slot
  sound_rows s = s.rows schema is

-- ---- all slots

growing_below : (files : Table) (half : Half) (k : ℕ) → Shows files half → half ≡ Growing k → k < 8
growing_below files half k s e = (subst (Shows files) e s).0

pub half_by_parts : (files : Table) (half : Half) → 1472 ≤ length (catalog_bytes_in files) → Shows files half → HasMark files half → AreSoundBeside files half → AreKeptBeside files half
    → ((i : ℕ) → i < 8 → breaks_index (whole_catalog files) i ≡ false) → IsHalfDone files half
half_by_parts files half long shown mark sound kept behind = record {
  whole = long;
  mark = mark;
  slots = λ k below. (sound k below).slot;
  named_once = λ k below. (sound k below).named_once;
  indexes = behind;
  rows_there = λ k below. (sound k below).rows_there;
  rows_lone = λ k below. (sound k below).rows_lone;
  tree_there = λ i below. (kept i below).tree_there;
  tree_lone = λ i below. (kept i below).tree_lone;
  grown = λ k e. (sound k (growing_below files half k shown e)).grown e;
  rows = λ k schema is. (sound k (relation_below files k schema is)).rows schema is;
  keys = λ i index is. (kept i (standing_below files i index is)).keys index is;
}

pub half_sound : (files : Table) (half : Half) → IsHalfDone files half → AreSoundBeside files half
half_sound files half h k below = record {
  slot = h.slots k below;
  named_once = h.named_once k below;
  rows_there = h.rows_there k below;
  rows_lone = h.rows_lone k below;
  grown = h.grown k;
  rows = h.rows k;
}

pub half_kept : (files : Table) (half : Half) → IsHalfDone files half → AreKeptBeside files half
half_kept files half h i below = record {
  tree_there = h.tree_there i below;
  tree_lone = h.tree_lone i below;
  keys = h.keys i;
}
