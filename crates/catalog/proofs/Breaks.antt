-- Which rule is the first that is broken.
use Rattle.std.proofs.Common.{◌≡◌, ℕ, ◌≤◌, true, List, [], ◌∷◌, length, refl, sym, ap, ◌∙◌, arith, Option, Some, None}
use Rattle.std.specs.Prelude.{slice_range, unwrap_or}
use Rattle.std.specs.Bool.{then_some}
use Rattle.std.specs.Str.{bytes_eq}
use Rattle.afl_base.specs.Files.{File, Table, bytes_at, no_file, place}
use Rattle.db_model.specs.declared.schemas.Schema.{Schema}
use Rattle.db_model.specs.Catalog.{Index, catalog_of, version_mark, version_of}
use Rattle.catalog.specs.CatalogFile.{IsCatalogSize}
use Rattle.space_model.specs.FileNames.{bytes_in_file, catalog_file, file_named}
use Rattle.catalog.specs.Rules.{breaks_files, breaks_index, breaks_relation, broken_catalog, catalog_bytes_in, first, first_broken, has_form, is_stranger, version_in}
use Rattle.catalog.proofs.Choices.{not_equal, none_if, some_if, then_some_if}

-- ---- versions

pub version_of_empty : (bytes : List ℕ) → length bytes ≡ 0 → Some 2 ≡ version_in bytes
unfolding version_in
version_of_empty bytes e = rw e refl

pub version_1 : (bytes : List ℕ) → length bytes ≡ 1472 → Some 1 ≡ version_in bytes
unfolding version_in
version_1 bytes e = rw e refl

pub version_2 : (bytes : List ℕ) → length bytes ≡ 1480 → then_some (bytes_eq (slice_range bytes 1472 1480) version_mark) 2 ≡ version_in bytes
unfolding version_in
version_2 bytes e = rw e (then_some_if (bytes_eq (slice_range bytes 1472 1480) version_mark) 2)

pub no_version : (bytes : List ℕ) → (length bytes ≡ 0 → ⊥) → (length bytes ≡ 1472 → ⊥) → (length bytes ≡ 1480 → ⊥) → None ≡ version_in bytes
unfolding version_in
no_version bytes a b c = rw (not_equal (length bytes) 0 a, not_equal (length bytes) 1472 b, not_equal (length bytes) 1480 c) refl

-- what a version that was read says
pub form_of : (bytes : List ℕ) (version : ℕ) → Some version ≡ version_in bytes → (has_form bytes ≡ true) × (version ≡ version_of bytes)
unfolding version_in
form_of bytes version e = some_if (has_form bytes) version (version_of bytes) e

-- ---- the catalog by itself

pub breaks_15 : (bytes : List ℕ) → None ≡ version_in bytes → broken_catalog bytes ≡ Some (15, 0)
unfolding version_in broken_catalog
breaks_15 bytes e = rw (none_if (has_form bytes) (version_of bytes) e) refl

pub breaks_16 : (bytes : List ℕ) (k : ℕ) → has_form bytes ≡ true → (length bytes ≡ 0 → ⊥) → first 8 (breaks_relation bytes) ≡ Some k → broken_catalog bytes ≡ Some (16, k)
unfolding broken_catalog
breaks_16 bytes k form some e = rw (form, not_equal (length bytes) 0 some, e) refl

pub breaks_17 : (bytes : List ℕ) (k : ℕ) → has_form bytes ≡ true → (length bytes ≡ 0 → ⊥) → first 8 (breaks_relation bytes) ≡ None → first 8 (breaks_index bytes) ≡ Some k → broken_catalog bytes ≡ Some (17, k)
unfolding broken_catalog
breaks_17 bytes k form some r e = rw (form, not_equal (length bytes) 0 some, r, e) refl

pub breaks_none : (bytes : List ℕ) → has_form bytes ≡ true → (length bytes ≡ 0 → ⊥) → first 8 (breaks_relation bytes) ≡ None → first 8 (breaks_index bytes) ≡ None → broken_catalog bytes ≡ None
unfolding broken_catalog
breaks_none bytes form some r e = rw (form, not_equal (length bytes) 0 some, r, e) refl

pub empty_breaks_none : (bytes : List ℕ) → length bytes ≡ 0 → broken_catalog bytes ≡ None
unfolding broken_catalog
empty_breaks_none bytes e = rw e refl

pub nothing : (bytes : List ℕ) → length bytes ≡ 0 → [] ≡ bytes
nothing [] e = refl
nothing (b ∷ bytes) e = absurd (omega (arith, e))

-- ---- the catalog's file

pub bytes_of_place : (o : Option File) → bytes_in_file o ≡ (unwrap_or o no_file).bytes
bytes_of_place None = refl
bytes_of_place (Some f) = refl

pub bytes_found : (files : Table) (id : ℕ) → file_named catalog_file files ≡ place files id → catalog_bytes_in files ≡ bytes_at files id
bytes_found files id e = ap bytes_in_file e ∙ bytes_of_place (place files id)

pub no_bytes : (files : Table) → file_named catalog_file files ≡ None → catalog_bytes_in files ≡ []
no_bytes files e = ap bytes_in_file e

-- ---- all rules

pub breaks_14 : (files : Table) (k : ℕ) → Some k ≡ first 32 (is_stranger files) → first_broken files ≡ Some (14, k)
unfolding first_broken
breaks_14 files k e = rw (sym e) refl

pub breaks_inside : (files : Table) (rule k : ℕ) → None ≡ first 32 (is_stranger files) → broken_catalog (catalog_bytes_in files) ≡ Some (rule, k) → first_broken files ≡ Some (rule, k)
unfolding first_broken
breaks_inside files rule k e f = rw (sym e, f) refl

pub breaks_18 : (files : Table) (k : ℕ) → None ≡ first 32 (is_stranger files) → broken_catalog (catalog_bytes_in files) ≡ None →
    Some k ≡ first 16 (breaks_files files (catalog_of (catalog_bytes_in files)).relations (catalog_of (catalog_bytes_in files)).indexes) → first_broken files ≡ Some (18, k)
unfolding first_broken
breaks_18 files k e f g = rw (sym e, f, sym g) refl

pub breaks_nothing : (files : Table) → None ≡ first 32 (is_stranger files) → broken_catalog (catalog_bytes_in files) ≡ None →
    None ≡ first 16 (breaks_files files (catalog_of (catalog_bytes_in files)).relations (catalog_of (catalog_bytes_in files)).indexes) → first_broken files ≡ None
unfolding first_broken
breaks_nothing files e f g = rw (sym e, f, sym g) refl

-- ---- what was read

pub big_enough : (n : ℕ) → IsCatalogSize n → (n ≡ 0 → ⊥) → 1472 ≤ n
big_enough n size some = grind arith

pub same_catalog : (bytes : List ℕ) (version : ℕ) (relations : List (Option Schema)) (indexes : List (Option Index)) → version ≡ version_of bytes → relations ≡ (catalog_of bytes).relations → indexes ≡ (catalog_of bytes).indexes →
    record { version = version; relations = relations; indexes = indexes } ≡ catalog_of bytes
same_catalog bytes version relations indexes e f g = rw (e, f, g) refl
