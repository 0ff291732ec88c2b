-- A catalog of a session in which a slot was being put: the mark, and what the slots are.
use Rattle.std.proofs.Common.{◌≡◌, ◌⊎◌, inl, inr, ⊎_elim, ℕ, suc, ◌||◌, ◌∷◌, ◌+◌, ◌*◌, ◌<◌, ◌≤◌, ◌==◌, Bool, true, false, List, [], ◌++◌, length, map, get_or, Option, Some, None, if◌then◌else◌, refl, ap, sym, subst, ◌∙◌, arith, IsTrue}
use Rattle.std.specs.Prelude.{option_map, slice_range}
use Rattle.std.specs.List.{list_any}
use Rattle.std.proofs.lemmas.Bool.{cases_lt}
use Rattle.std.proofs.lemmas.List.{nil_from_length}
use Rattle.std.proofs.lemmas.List.FromFn.{get_or-map-range_with_len}
use Rattle.afl_base.specs.Files.{IsNamed, State, bytes_at}
use Rattle.catalog.specs.CatalogFile.{IsCatalogSize}
use Rattle.catalog.specs.Rules.{catalog_bytes_in, has_form}
use Rattle.db_model.specs.declared.schemas.Schema.{Schema}
use Rattle.db_model.specs.Catalog.{Catalog as Slots, Index, catalog_of, index_at, index_slot_bytes, relation_at, relation_slot_bytes, version_of}
use Rattle.db_model.specs.Database.{Database, Relation}
use Rattle.db_model.specs.Sound.{IsSoundDatabase, IsSoundSchema}
use Rattle.index_set.specs.Tables.{Tables}
use Rattle.padded.proofs.Facts.{false_by, none_some}
use Rattle.space_model.specs.FileNames.{catalog_file}
use Rattle.stored.specs.CutTables.{HasMark, relation, slot_bytes}
use Rattle.stored.specs.Mended.{has_time, mended_catalog, mended_version, whole_bytes, whole_catalog}
use Rattle.stored.specs.declared.half.Half.{Half}
use Rattle.stored.proofs.MendedBase.{whole_sized}
use Rattle.stored.proofs.MendedSound.{time_there}
use Rattle.stored.proofs.SoundCut.{no_index, no_relation, sound_mark}
use Rattle.session_model.specs.declared.held.Held.{Held}
use Rattle.session_model.specs.declared.held.Indexed.{Indexed}
use Rattle.session_model.specs.declared.held.Open.{Open}
use Rattle.session_model.specs.Frames.{LeavesOthers, schema_in}
use Rattle.session_model.specs.Indexed.{index_known}
use Rattle.session_model.specs.Running.{HasCatalogFile, IsRunning, IsWritten, IsWrittenOrEmpty, bytes_of_catalog}
use Rattle.session_model.specs.View.{relation_of_rows, view}
use Rattle.session_model.proofs.Catalogs.{catalog_there}
use Rattle.session_model.proofs.CutCatalogs.{catalog_is as catalog_bytes}
use Rattle.session_model.proofs.CutForms.{IsFrontOf, front_one, front_two}
use Rattle.session_model.proofs.CutHeld.{now_bytes, schemas_seen, was_version}
use Rattle.session_model.proofs.CutSlots.{schema_of}
use Rattle.session_model.proofs.Sound.{catalog_is, files_sound, seen_back}

-- no relation of a list has a TIME
pub none_timed : (os : List (Option Schema)) → ((j : ℕ) (schema : Schema) → get_or os j None ≡ Some schema → has_time (Some schema) ≡ false) → list_any has_time os ≡ false
none_timed [] each = refl
none_timed (None ∷ os) each = none_timed os (λ j schema e. each (suc j) schema e)
none_timed (Some x ∷ os) each = both (has_time (Some x)) (list_any has_time os) (each 0 x refl) (none_timed os (λ j schema e. each (suc j) schema e))
  where
    both : (a b : Bool) → a ≡ false → b ≡ false → (a || b) ≡ false
    both a b e f = rw e f

module _ (old : State) (tables : Tables) (held : Held) (opens : List (Option Open)) (r : IsRunning old tables held opens) (told : IsTrue old.tells) (s : IsSoundDatabase (view old.files held opens))
    (cat : ℕ) (has : held.cat ≡ Some cat) where
  abbrev bytes : List ℕ
  bytes = bytes_at old.files cat

  abbrev schemas : List (Option Schema)
  schemas = map (option_map schema_in) held.relations

  abbrev knowns : List (Option Index)
  knowns = map (option_map index_known) held.indexes

  there : HasCatalogFile old.files (Some cat)
  there = catalog_there old tables held opens cat r has

  pub size : IsCatalogSize (length bytes)
  size = there.1

  pub held_bytes : bytes_of_catalog old.files held.cat ≡ bytes
  held_bytes = ap (bytes_of_catalog old.files) has

  pub written_or : IsWrittenOrEmpty bytes
  written_or = subst IsWrittenOrEmpty held_bytes (r.written told)

  pub written_old : 1472 ≤ length bytes → IsWritten bytes
  written_old long = written_or (omega (arith, long))

  old_bytes : catalog_bytes_in old.files ≡ bytes
  old_bytes = catalog_bytes old.files cat r.distinct there.0

  pub empty_none : length bytes ≡ 0 → (j : ℕ) → get_or schemas j None ≡ None
  empty_none none j =
      let empty : catalog_bytes_in old.files ≡ [] = old_bytes ∙ nil_from_length bytes none in
      sym (ap (λ (c : Slots). get_or c.relations j None) (catalog_is old tables held opens r told)) ∙ no_relation old.files (files_sound old tables held opens r told s) empty j

  pub empty_indexes : length bytes ≡ 0 → (i : ℕ) → get_or knowns i None ≡ None
  empty_indexes none i =
      let empty : catalog_bytes_in old.files ≡ [] = old_bytes ∙ nil_from_length bytes none in
      sym (ap (λ (c : Slots). get_or c.indexes i None) (catalog_is old tables held opens r told)) ∙ no_index old.files (files_sound old tables held opens r told s) empty i

  pub first_version : length bytes ≡ 1472 → held.version ≡ 1
  first_version e = sym (was_version old tables held opens r told s cat has) ∙ ap (λ (n : ℕ). if n == 1472 then 1 else 2) e

  -- before version 2 no relation has a TIME
  pub untimed : (length bytes ≡ 0) ⊎ (length bytes ≡ 1472) → (j : ℕ) (schema : Schema) → get_or schemas j None ≡ Some schema → has_time (Some schema) ≡ false
  untimed (inl none) j schema e = absurd (none_some schema (sym (empty_none none j) ∙ e))
  untimed (inr first) j schema e = false_by (has_time (Some schema)) (λ t.
      let from = seen_back schema_of (view old.files held opens).relations j schema (ap (λ xs. get_or xs j None) (schemas_seen old.files held.relations) ∙ e) in
      let sound = subst (IsSoundSchema held.version) from.is (s.relations j from.from from.there).schema in
      let two : held.version ≡ 2 = time_there held.version schema.attributes sound.attributes t in
      let one : held.version ≡ 1 = first_version first in
      omega (arith, one, two))

  module _ (after : State) (name : List ℕ) (l : LeavesOthers old after name) (named : IsNamed after.files cat catalog_file) where
    now_is : catalog_bytes_in after.files ≡ bytes_at after.files cat
    now_is = now_bytes old tables held opens r told s cat has after name l named

    -- ---- the catalog has its bytes

    module _ (same : bytes_at after.files cat ≡ bytes_at old.files cat) (long : 1472 ≤ length (bytes_at old.files cat)) where
      bytes_same : catalog_bytes_in after.files ≡ catalog_bytes_in old.files
      bytes_same = now_is ∙ same ∙ sym old_bytes

      was_mark : (has_form (catalog_bytes_in old.files) ≡ true) × (version_of (catalog_bytes_in old.files) ≡ (mended_catalog old.files).version)
      was_mark = sound_mark old.files (files_sound old tables held opens r told s) (subst (λ (b : List ℕ). 1472 ≤ length b) (sym old_bytes) long)

      version_same : (mended_catalog after.files).version ≡ (mended_catalog old.files).version
      unfolding mended_catalog
      version_same = ap (λ (b : List ℕ). mended_version (whole_bytes b)) bytes_same

      pub same_mark : (half : Half) → HasMark after.files half
      same_mark half = inl (ap has_form bytes_same ∙ was_mark.0, ap version_of bytes_same ∙ was_mark.1 ∙ sym version_same)

      pub same_whole : 1472 ≤ length (catalog_bytes_in after.files)
      same_whole = subst (λ (b : List ℕ). 1472 ≤ length b) (sym (now_is ∙ same)) long

      whole_now : whole_catalog after.files ≡ bytes_at old.files cat
      whole_now = ap whole_bytes (now_is ∙ same) ∙ whole_sized bytes size

      pub same_slots : (j : ℕ) → j < 8 → slot_bytes after.files j ≡ relation_slot_bytes (relation after.files j)
      unfolding mended_catalog
      same_slots j inside =
          (subst IsWritten (sym whole_now) (written_old long)).relations j inside
          ∙ ap relation_slot_bytes (sym (get_or-map-range_with_len (relation_at (whole_catalog after.files)) 0 8 j j None inside (omega arith)))

      pub same_index_slots : (i : ℕ) → i < 8 → slice_range (whole_catalog after.files) (1408 + 8 * i) (1408 + 8 * i + 8) ≡ index_slot_bytes (index_at (whole_catalog after.files) i)
      same_index_slots i inside = (subst IsWritten (sym whole_now) (written_old long)).indexes i inside

      pub same_later : (held.version ≡ 1) ⊎ ((mended_catalog after.files).version ≡ 2)
      same_later = ⊎_elim
          (λ (e : held.version ≡ 1). inl e)
          (λ (e : held.version ≡ 2). inr (version_same ∙ sym was_mark.1 ∙ ap (λ (c : Slots). c.version) (catalog_is old tables held opens r told) ∙ e))
          r.version

    -- ---- it has the first bytes of another

    module _ (whole : List ℕ) (f : IsFrontOf (catalog_bytes_in after.files) whole) (first : f.upto ≡ 1472 → (length (bytes_at old.files cat) ≡ 0) ⊎ (length (bytes_at old.files cat) ≡ 1472)) where
      pub front_later : (j : ℕ) (schema : Schema) → get_or schemas j None ≡ Some schema → (held.version ≡ 1) ⊎ ((mended_catalog after.files).version ≡ 2)
      front_later j schema e = ⊎_elim
          (λ (low : f.upto < 1473). ⊎_elim
          (λ (none : length bytes ≡ 0). absurd (none_some schema (sym (empty_none none j) ∙ e)))
          (λ (one : length bytes ≡ 1472). inl (first_version one))
          (first (omega (arith, low, f.some))))
          (λ (more : 1473 ≤ f.upto). inr (front_two after.files whole f (λ e. absurd (omega (arith, e, more)))))
          (cases_lt f.upto 1473)

      -- where the relations that are read have no TIME where it is of version 1
      pub front_first : (os : List (Option Schema)) → (catalog_of (whole_catalog after.files)).relations ≡ os
          → ((length (bytes_at old.files cat) ≡ 0) ⊎ (length (bytes_at old.files cat) ≡ 1472) → (j : ℕ) (schema : Schema) → get_or os j None ≡ Some schema → has_time (Some schema) ≡ false)
          → f.upto ≡ 1472 → (mended_catalog after.files).version ≡ 1
      front_first os read each e = front_one after.files whole f e (ap (list_any has_time) read ∙ none_timed os (each (first e)))
