-- Files of a sound catalog mend to the database that they stand for.
use Rattle.std.proofs.Common.{◌≡◌, ℕ, suc, ◌+◌, ◌<◌, ⊎_elim, ◌⊎◌, inl, inr, Bool, true, false, ◌&&◌, ◌||◌, ◌==◌, List, [], ◌∷◌, length, get_or, Option, Some, None, if◌then◌else◌, refl, ap, sym, ◌∙◌, arith}
use Rattle.std.specs.Prelude.{option_map, slice_range}
use Rattle.std.specs.List.{AllByRecursion, list_any}
use Rattle.std.specs.Str.{bytes_eq}
use Rattle.std.proofs.lemmas.List.FromFn.{get_or-map-range_with_len}
use Rattle.afl_base.specs.Files.{Table}
use Rattle.catalog.specs.CatalogFile.{IsCatalogSize}
use Rattle.catalog.specs.Rules.{breaks_files, broken_catalog, broken_slot, catalog_bytes_in, catalog_in, differ, first_broken, has_form, is_tree}
use Rattle.db_model.specs.declared.schemas.Attribute.{Attribute}
use Rattle.db_model.specs.declared.schemas.Domain.{Domain}
use Rattle.db_model.specs.declared.schemas.Domain.TheVariants.{Int, Long, Time, Str}
use Rattle.db_model.specs.declared.schemas.Schema.{Schema}
use Rattle.db_model.specs.Between.{AreAlike}
use Rattle.db_model.specs.Catalog.{catalog_of, index_at, relation_at, version_mark, version_of}
use Rattle.db_model.specs.Database.{Database}
use Rattle.db_model.specs.Sound.{IsSoundAttribute}
use Rattle.padded.proofs.Facts.{both_parts, true_eq}
use Rattle.space_model.specs.FileNames.{bytes_named, is_there, rows_file, tree_file}
use Rattle.stored.specs.Base.{base_of, relation_stored}
use Rattle.stored.specs.Mended.{has_time, is_time_domain, mended_base, mended_catalog, mended_version, whole_catalog}
use Rattle.stored.specs.Sound.{IsSoundTable}
use Rattle.stored.proofs.FilesOf.{earliest_none, first_false, nothing_broken, tree_wanted, unbroken}
use Rattle.stored.proofs.MendedBase.{alike_by, alike_is, cursors_mended, index_mended, index_stands, indexes_mended, relation_mended, relation_read, relations_mended, slots_same, version_mended, whole_sized}
use Rattle.stored.proofs.SoundSlots.{IsUnbroken, slot_below, sound_schema, sound_slot, unbroken_slots}

-- ---- a catalog of a version's size, each tree with its file

pub mended_listed : (files : Table) → IsCatalogSize (length (catalog_bytes_in files))
    → ((i : ℕ) → i < 8 → is_tree (index_at (catalog_bytes_in files) i) ≡ true → is_there (tree_file i) files ≡ true)
    → AreAlike (mended_base files) (base_of files)
mended_listed files size trees =
    let bytes : List ℕ = catalog_bytes_in files in
    let whole : whole_catalog files ≡ bytes = whole_sized bytes size in
    alike_by (mended_base files) (base_of files)
    (relations_mended files
    ∙ slots_same (relation_mended files) (relation_stored files (catalog_in files).relations) 0 8
    (λ k low below.
    ap (λ (b : List ℕ). option_map (relation_read (bytes_named (rows_file k) files)) (relation_at b k)) whole
    ∙ ap (option_map (relation_read (bytes_named (rows_file k) files))) (sym (get_or-map-range_with_len (relation_at bytes) 0 8 k k None below (omega arith)))))
    (indexes_mended files
    ∙ slots_same (index_mended files) (index_at bytes) 0 8
    (λ i low below.
    index_stands files i (index_at (whole_catalog files) i) (λ tree. trees i below (ap (λ (b : List ℕ). is_tree (index_at b i)) (sym whole) ∙ tree))
    ∙ ap (λ (b : List ℕ). index_at b i) whole))
    (cursors_mended files)

-- of version 2 where a relation has a time
pub mended_is_base : (files : Table) → IsCatalogSize (length (catalog_bytes_in files))
    → ((i : ℕ) → i < 8 → is_tree (index_at (catalog_bytes_in files) i) ≡ true → is_there (tree_file i) files ≡ true)
    → (list_any has_time (catalog_in files).relations ≡ true → version_of (catalog_bytes_in files) ≡ 2)
    → mended_base files ≡ base_of files
mended_is_base files size trees time =
    alike_is (mended_base files) (base_of files) (mended_listed files size trees)
    (version_mended files ∙ ap mended_version (whole_sized (catalog_bytes_in files) size) ∙ by_test (list_any has_time (catalog_in files).relations) time)
  where
    by_test : (b : Bool) → (b ≡ true → version_of (catalog_bytes_in files) ≡ 2) → (if b then 2 else version_of (catalog_bytes_in files)) ≡ version_of (catalog_bytes_in files)
    by_test false e = refl
    by_test true e = sym (e refl)

-- ---- a sound table

pub any_slot : (test : Option Schema → Bool) (slots : List (Option Schema)) → list_any test slots ≡ true → test None ≡ false → (k : ℕ) × (x : Schema) × (get_or slots k None ≡ Some x) × (test (Some x) ≡ true)
any_slot test [] e none = cc
any_slot test (None ∷ slots) e none = let r = any_slot test slots (rw none at e) none in (suc r.0, r.1, r.2, r.3)
any_slot test (Some x ∷ slots) e none = by_test (test (Some x)) refl e (λ h. any_slot test slots h none)
  where
    by_test : (b : Bool) → test (Some x) ≡ b → (b || list_any test slots) ≡ true
        → (list_any test slots ≡ true → (k : ℕ) × (y : Schema) × (get_or slots k None ≡ Some y) × (test (Some y) ≡ true))
        → (k : ℕ) × (y : Schema) × (get_or (Some x ∷ slots) k None ≡ Some y) × (test (Some y) ≡ true)
    by_test true t h rest = (0, x, refl, t)
    by_test false t h rest = let r = rest h in (suc r.0, r.1, r.2, r.3)

pub time_there : (version : ℕ) (attributes : List Attribute) → AllByRecursion (IsSoundAttribute version) attributes → list_any (λ (a : Attribute). is_time_domain a.domain) attributes ≡ true → version ≡ 2
time_there version [] h e = cc
time_there version (a ∷ attributes) h e = by_domain a.domain refl e (λ f. time_there version attributes h.1 f)
  where
    by_domain : (d : Domain) → a.domain ≡ d → (is_time_domain d || list_any (λ (x : Attribute). is_time_domain x.domain) attributes) ≡ true
        → (list_any (λ (x : Attribute). is_time_domain x.domain) attributes ≡ true → version ≡ 2) → version ≡ 2
    by_domain Int is f rest = rest f
    by_domain Long is f rest = rest f
    by_domain (Str n) is f rest = rest f
    by_domain Time is f rest = h.0.time is

time_of_2 : (bytes : List ℕ) → IsUnbroken bytes → list_any has_time (catalog_of bytes).relations ≡ true → version_of bytes ≡ 2
time_of_2 bytes u e =
    let r = any_slot has_time (catalog_of bytes).relations e refl in
    let at = slot_below (relation_at bytes) 8 r.0 r.1 r.2 in
    let slot = sound_slot bytes r.0 r.1 u at.below at.is in
    let schema = sound_schema (version_of bytes) r.1 slot.schema_is in
    time_there (version_of bytes) r.1.attributes schema.attributes r.3

three : (a b c : Bool) → (a || b || c) ≡ true → (a ≡ true) ⊎ ((b ≡ true) ⊎ (c ≡ true))
three true b c e = inl refl
three false true c e = inr (inl refl)
three false false c e = inr (inr e)

sized : (bytes : List ℕ) → broken_catalog bytes ≡ None → IsCatalogSize (length bytes)
unfolding broken_catalog
sized bytes e =
    let a = earliest_none (broken_slot 15 (if has_form bytes then None else Some 0)) _ e in
    by_form (has_form bytes) refl (nothing_broken 15 (if has_form bytes then None else Some 0) a.0)
  where
    by_form : (b : Bool) → has_form bytes ≡ b → ◌≡◌ {A = Option ℕ} (if b then None else Some 0) None → IsCatalogSize (length bytes)
    by_form false f n = cc
    by_form true f n = ⊎_elim
        (λ (t : length bytes == 0 ≡ true). inl (true_eq (length bytes) 0 t))
        (λ more. inr (⊎_elim
        (λ (t : length bytes == 1472 ≡ true). inl (true_eq (length bytes) 1472 t))
        (λ (t : (length bytes == 1480 && bytes_eq (slice_range bytes 1472 1480) version_mark) ≡ true).
        inr (true_eq (length bytes) 1480 (both_parts (length bytes == 1480) (bytes_eq (slice_range bytes 1472 1480) version_mark) t).0))
        more))
        (three (length bytes == 0) (length bytes == 1472) (length bytes == 1480 && bytes_eq (slice_range bytes 1472 1480) version_mark) f)

wanted_there : (there used : Bool) → differ there used ≡ false → used ≡ true → there ≡ true
wanted_there true used e t = refl
wanted_there false true e t = cc
wanted_there false false e t = cc

-- a table whose catalog is sound mends to its own database
pub mended_of_unbroken : (files : Table) → first_broken files ≡ None → mended_base files ≡ base_of files
mended_of_unbroken files sound =
    let parts = unbroken files sound in
    let bytes : List ℕ = catalog_bytes_in files in
    mended_is_base files (sized bytes parts.inner)
    (λ i below tree.
    wanted_there (is_there (tree_file i) files) (is_tree (get_or (catalog_in files).indexes i None))
    (tree_wanted files (catalog_in files).relations (catalog_in files).indexes i (first_false (breaks_files files (catalog_in files).relations (catalog_in files).indexes) 16 (8 + i) (omega (arith, below)) parts.files_there))
    (ap is_tree (get_or-map-range_with_len (index_at bytes) 0 8 i i None below (omega arith)) ∙ tree))
    (time_of_2 bytes (unbroken_slots bytes parts.inner))

-- and so does a sound table
pub mended_of_sound : (files : Table) → IsSoundTable files → mended_base files ≡ base_of files
mended_of_sound files s = mended_of_unbroken files s.catalog

-- the catalog that it mends to is its own
pub record IsOwnCatalog (files : Table) : Type 0 where
  pub version : (mended_catalog files).version ≡ (catalog_in files).version
  pub relations : (mended_catalog files).relations ≡ (catalog_in files).relations
  pub indexes : (mended_catalog files).indexes ≡ (catalog_in files).indexes

pub own_catalog : (files : Table) → first_broken files ≡ None → IsOwnCatalog files
unfolding mended_base mended_catalog
own_catalog files sound =
    let same = mended_of_unbroken files sound in
    record {
      version = ap (λ (db : Database). db.version) same;
      relations = ap (λ (bytes : List ℕ). (catalog_of bytes).relations) (whole_sized (catalog_bytes_in files) (sized (catalog_bytes_in files) (unbroken files sound).inner));
      indexes = ap (λ (db : Database). db.indexes) same;
    }
