-- What is read of a catalog that breaks no rule, and what stays of its rules where a file of rows changes.
use Rattle.std.proofs.Common.{◌≡◌, ◌⊎◌, inl, inr, ⊎_elim, ℕ, zero, suc, ◌-◌, Bool, true, false, not, ◌&&◌, ◌||◌, ◌==◌, List, [], ◌∷◌, length, map, get_or, Option, Some, None, if◌then◌else◌, refl, ap, sym, ◌∙◌}
use Rattle.std.specs.Prelude.{is_some, nat_lt, option_map, slice_range, unwrap_or}
use Rattle.std.specs.Bool.{IsTrue}
use Rattle.std.specs.List.{list_any, range_with_len}
use Rattle.std.specs.Str.{bytes_eq}
use Rattle.afl_base.specs.declared.kind.Kind.TheVariants.{Doubling, Fixed}
use Rattle.afl_base.specs.Files.{File, State, Table, file_at, no_file, place}
use Rattle.afl_base.proofs.FileLaws.{named_here, named_live, place_live}
use Rattle.catalog.specs.CatalogFile.{IsCatalogSize}
use Rattle.catalog.specs.Rules.{breaks_files, broken_catalog, broken_slot, catalog_bytes_in, catalog_in, differ, earliest, first, first_broken, has_form, is_of_database, is_stranger, is_tree}
use Rattle.db_model.specs.declared.schemas.Schema.{Schema}
use Rattle.db_model.specs.Catalog.{Catalog, Index, catalog_of, relation_at, version_mark, version_of}
use Rattle.db_model.specs.Sound.{IsSoundSchema}
use Rattle.padded.proofs.Facts.{some_same, true_eq}
use Rattle.space_model.specs.FileNames.{catalog_file, is_there, rows_file, tree_file}
use Rattle.stored.specs.CutTables.{relation}
use Rattle.stored.specs.Mended.{has_time, mended_catalog, mended_version, standing, whole_bytes, whole_catalog}
use Rattle.stored.proofs.FilesOf.{IsNumbered, Unbroken, by_kind, first_false, unbroken}
use Rattle.stored.proofs.HasFiles.{formed, no_stranger}
use Rattle.stored.proofs.MendedBase.{slots_same, whole_sized}
use Rattle.stored.proofs.MendedSound.{any_slot, time_there}
use Rattle.stored.proofs.NamesStay.{there_stays}
use Rattle.stored.proofs.SoundSlots.{IsBelow, slot_below, sound_schema, sound_slot, unbroken_slots}
use Rattle.stored_mend.specs.Rows.{ChangesOne}
use Rattle.stored_mend.specs.Whole.{IsOnlyFile}
use Rattle.stored_mend.proofs.KeptBase.{bytes_stay}
use Rattle.stored_mend.proofs.OneFile.{catalog_no_rows}

-- ---- a catalog that breaks no rule

pub form_size : (bytes : List ℕ) → has_form bytes ≡ true → IsCatalogSize (length bytes)
form_size bytes e = by_tests (length bytes == 0) (length bytes == 1472) (length bytes == 1480) (bytes_eq (slice_range bytes 1472 1480) version_mark) refl refl refl e
  where
    by_tests : (a b c d : Bool) → (length bytes == 0) ≡ a → (length bytes == 1472) ≡ b → (length bytes == 1480) ≡ c → (a || b || (c && d)) ≡ true → IsCatalogSize (length bytes)
    by_tests true b c d e f g h = inl (true_eq (length bytes) 0 e)
    by_tests false true c d e f g h = inr (inl (true_eq (length bytes) 1472 f))
    by_tests false false true d e f g h = inr (inr (true_eq (length bytes) 1480 g))
    by_tests false false false d e f g h = cc

module _ (files : Table) (e : first_broken files ≡ None) where
  abbrev bytes : List ℕ
  bytes = catalog_bytes_in files

  parts : Unbroken files
  parts = unbroken files e

  pub whole_is : whole_catalog files ≡ catalog_bytes_in files
  whole_is = whole_sized bytes (form_size bytes (formed bytes parts.inner))

  pub slot_read : (k : ℕ) (schema : Schema) → relation files k ≡ Some schema → IsBelow (relation_at (catalog_bytes_in files)) 8 k schema
  unfolding mended_catalog
  slot_read k schema is = slot_below (relation_at bytes) 8 k schema (ap (λ (b : List ℕ). get_or (catalog_of b).relations k None) (sym whole_is) ∙ is)

  schema_at : (k : ℕ) (schema : Schema) → IsBelow (relation_at (catalog_bytes_in files)) 8 k schema → IsSoundSchema (version_of (catalog_bytes_in files)) schema
  schema_at k schema at = sound_schema (version_of bytes) schema (sound_slot bytes k schema (unbroken_slots bytes parts.inner) at.below at.is).schema_is

  pub schema_read : (k : ℕ) (schema : Schema) → relation files k ≡ Some schema → IsSoundSchema (version_of (catalog_bytes_in files)) schema
  schema_read k schema is = schema_at k schema (slot_read k schema is)

  pub version_read : (mended_catalog files).version ≡ (catalog_in files).version
  unfolding mended_catalog
  version_read = ap mended_version whole_is ∙ by_test (list_any has_time (catalog_of bytes).relations) time
    where
      time : list_any has_time (catalog_of bytes).relations ≡ true → version_of bytes ≡ 2
      time t =
          let r = any_slot has_time (catalog_of bytes).relations t refl in
          let schema = schema_at r.0 r.1 (slot_below (relation_at bytes) 8 r.0 r.1 r.2) in
          time_there (version_of bytes) r.1.attributes schema.attributes r.3

      by_test : (b : Bool) → (b ≡ true → version_of bytes ≡ 2) → (if b then 2 else version_of bytes) ≡ version_of bytes
      by_test false t = refl
      by_test true t = sym (t refl)

  -- an index that stands is one of the catalog
  pub index_read_at : (i : ℕ) (index : Index) → get_or (mended_catalog files).indexes i None ≡ Some index → get_or (catalog_in files).indexes i None ≡ Some index
  unfolding mended_catalog
  index_read_at i index is =
      let at = slot_below (λ slot. standing files slot (get_or (catalog_of (whole_catalog files)).indexes slot None)) 8 i index is in
      ap (λ (b : List ℕ). get_or (catalog_of b).indexes i None) (sym whole_is)
      ∙ by_test (is_tree (get_or (catalog_of (whole_catalog files)).indexes i None) && not (is_there (tree_file i) files)) (get_or (catalog_of (whole_catalog files)).indexes i None) at.is
    where
      by_test : (b : Bool) (o : Option Index) → (if b then None else o) ≡ Some index → o ≡ Some index
      by_test true o t = cc
      by_test false o t = t

  -- the file of rows doubles
  pub rows_double : (k file : ℕ) → IsOnlyFile files (rows_file k) file → (file_at files file).kind ≡ Doubling
  rows_double k file is =
      let f : File = file_at files file in
      let at : place files file ≡ Some f = place_live files file (named_live files file (rows_file k) is.named) in
      let name : f.name ≡ rows_file k = some_same f.name (rows_file k) (sym (named_here files file f at) ∙ is.named) in
      ⊎_elim
      (λ (c : (f.name ≡ catalog_file) × (f.kind ≡ Fixed 6)). absurd (catalog_no_rows k (sym c.0 ∙ name)))
      (λ (n : (IsNumbered 84 f.name ⊎ IsNumbered 88 f.name) × (f.kind ≡ Doubling)). n.1)
      (by_kind f.name f.kind (no_stranger files file f at (first_false (is_stranger files) 32 file is.within parts.strangers)))

-- ---- where a file of rows changes

abbrev pick : Option ℕ → Bool → ℕ → Option ℕ
pick o b n = elim o [ Some k ↦ Some k | None ↦ if b then Some n else None ]

first_same : (n : ℕ) (f g : ℕ → Bool) → ((k : ℕ) → f k ≡ g k) → first n f ≡ first n g
unfolding first
first_same zero f g same = refl
first_same (suc n) f g same = ap (λ (o : Option ℕ). pick o (f n) n) (first_same n f g same) ∙ ap (λ (b : Bool). pick (first n g) b n) (same n)

abbrev strange : Option File → Bool
strange o = elim o [ None ↦ false | Some f ↦ not (is_of_database f.name f.kind) ]

abbrev misplaced : List ℕ → Bool → Bool → ℕ → Bool
misplaced bytes rows tree i =
    if nat_lt i 8 then differ rows (is_some (get_or (catalog_of bytes).relations i None))
    else differ tree (is_tree (get_or (catalog_of bytes).indexes (i - 8) None))

abbrev places : Table → ℕ → Bool
places files i = breaks_files files (catalog_in files).relations (catalog_in files).indexes i

module _ (old new : State) (k : ℕ) (c : ChangesOne old new (rows_file k)) where
  pub catalog_bytes_kept : catalog_bytes_in new.files ≡ catalog_bytes_in old.files
  catalog_bytes_kept = bytes_stay old new (rows_file k) catalog_file c (catalog_no_rows k)

  pub stranger_kept : (id : ℕ) → is_stranger new.files id ≡ is_stranger old.files id
  stranger_kept id = by_place (place old.files id) (place new.files id) refl refl (c.named id) (c.kind id)
    where
      by_place : (o n : Option File) → place old.files id ≡ o → place new.files id ≡ n → option_map (λ (f : File). f.name) n ≡ option_map (λ (f : File). f.name) o → (IsTrue (is_some o) → (unwrap_or n no_file).kind ≡ (unwrap_or o no_file).kind)
          → strange n ≡ strange o
      by_place None None a b names kinds = refl
      by_place None (Some f) a b names kinds = cc
      by_place (Some f) None a b names kinds = cc
      by_place (Some f) (Some g) a b names kinds =
          let name : g.name ≡ f.name = some_same g.name f.name names in
          rw (name, kinds refl) refl

  there_kept : (n : List ℕ) → is_there n new.files ≡ is_there n old.files
  there_kept n = there_stays old.files new.files n c.named

  files_kept : (i : ℕ) → places new.files i ≡ places old.files i
  unfolding breaks_files
  files_kept i =
      ap (λ (bytes : List ℕ). misplaced bytes (is_there (rows_file i) new.files) (is_there (tree_file (i - 8)) new.files) i) catalog_bytes_kept
      ∙ ap (λ (b : Bool). misplaced (catalog_bytes_in old.files) b (is_there (tree_file (i - 8)) new.files) i) (there_kept (rows_file i))
      ∙ ap (λ (b : Bool). misplaced (catalog_bytes_in old.files) (is_there (rows_file i) old.files) b i) (there_kept (tree_file (i - 8)))

  pub rules_kept : first_broken old.files ≡ None → first_broken new.files ≡ None
  unfolding first_broken
  rules_kept e =
      let listed : Option ℕ → List ℕ → Option ℕ → Option (ℕ × ℕ) = λ a bytes b. earliest (broken_slot 14 a ∷ broken_catalog bytes ∷ broken_slot 18 b ∷ []) in
      ap (λ (a : Option ℕ). listed a (catalog_bytes_in new.files) (first 16 (places new.files))) (first_same 32 (is_stranger new.files) (is_stranger old.files) stranger_kept)
      ∙ ap (λ (bytes : List ℕ). listed (first 32 (is_stranger old.files)) bytes (first 16 (places new.files))) catalog_bytes_kept
      ∙ ap (λ (b : Option ℕ). listed (first 32 (is_stranger old.files)) (catalog_bytes_in old.files) b) (first_same 16 (places new.files) (places old.files) files_kept)
      ∙ e

  pub catalog_kept : mended_catalog new.files ≡ mended_catalog old.files
  unfolding mended_catalog
  catalog_kept =
      let listed : (bytes : List ℕ) → List (Option Index) → Catalog = λ bytes is. record { version = mended_version (whole_bytes bytes); relations = (catalog_of (whole_bytes bytes)).relations; indexes = is } in
      let one : Table → List ℕ → ℕ → Option Index = λ files bytes slot. standing files slot (get_or (catalog_of (whole_bytes bytes)).indexes slot None) in
      ap (λ (b : List ℕ). listed b (map (one new.files b) (range_with_len 0 8))) catalog_bytes_kept
      ∙ ap (listed (catalog_bytes_in old.files))
      (slots_same (one new.files (catalog_bytes_in old.files)) (one old.files (catalog_bytes_in old.files)) 0 8
      (λ i low below. ap (λ (b : Bool). if is_tree (get_or (catalog_of (whole_bytes (catalog_bytes_in old.files))).indexes i None) && not b then None else get_or (catalog_of (whole_bytes (catalog_bytes_in old.files))).indexes i None) (there_kept (tree_file i))))
