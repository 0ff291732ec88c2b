-- Which files stand beside a sound catalog, and that they are few.
use Rattle.std.proofs.Common.{◌≡◌, ℕ, ◌+◌, ⊎_elim, ◌⊎◌, inl, inr, Bool, true, false, not, ◌&&◌, ◌||◌, ◌==◌, List, [], ◌∷◌, length, get_or, Option, Some, None, if◌then◌else◌, refl, ap, sym, subst, ◌∙◌, arith}
use Rattle.std.specs.Prelude.{is_some, option_map, slice_range, unwrap_or}
use Rattle.std.specs.Str.{bytes_eq}
use Rattle.afl_base.specs.Files.{AreDistinct, File, IsLive, IsNamed, IsUnnamed, Table, file_at, place}
use Rattle.afl_base.specs.declared.kind.Kind.TheVariants.{Doubling, Fixed}
use Rattle.catalog.specs.CatalogFile.{IsCatalogSize}
use Rattle.catalog.specs.Rules.{breaks_files, breaks_index, breaks_relation, broken_slot, broken_catalog, catalog_bytes_in, catalog_in, differ, first_broken, first_slot, has_form, is_of_database, is_stranger, is_tree}
use Rattle.db_model.specs.Catalog.{version_mark}
use Rattle.space_model.specs.FileNames.{bytes_in_file, catalog_file, file_named, is_there, rows_file, tree_file}
use Rattle.space_model.specs.Wants.{IsGrowing, IsOfSixPages}
use Rattle.space_model.proofs.NamedFiles.{named_found, named_place}
use Rattle.stored.specs.Files.{HasCatalog, HasItsFiles, IsMatched}
use Rattle.stored.proofs.FewFiles.{few_files}
use Rattle.stored.proofs.FilesOf.{AreInTable, IsNumbered, Unbroken, by_kind, earliest_none, first_false, in_table, nothing_broken, rows_wanted, tree_wanted, unbroken}
use Rattle.padded.proofs.Facts.{true_eq}
use Rattle.afl_base.proofs.FileLaws.{file_here}

-- ---- by name

name_here : (files : Table) (id : ℕ) (f : File) → place files id ≡ Some f → IsNamed files id f.name
name_here files id f e = ap (option_map (λ (x : File). x.name)) e

unnamed : (files : Table) (name : List ℕ) → AreDistinct files → file_named name files ≡ None → IsUnnamed files name
unnamed files name d none id named = let no : None ≡ Some (file_at files id) = sym none ∙ named_found files id name d named in let n : ⊥ = cc in n

-- a file that is no stranger is one of a database, by its name and kind
pub no_stranger : (files : Table) (id : ℕ) (f : File) → place files id ≡ Some f → is_stranger files id ≡ false → is_of_database f.name f.kind ≡ true
no_stranger files id f e = by_place (place files id) e
  where
    turned : (b : Bool) → not b ≡ false → b ≡ true
    turned true e = refl
    turned false e = cc

    by_place : (o : Option File) → o ≡ Some f → elim o [ None ↦ false | Some x ↦ not (is_of_database x.name x.kind) ] ≡ false → is_of_database f.name f.kind ≡ true
    by_place None e t = cc
    by_place (Some g) e t = let same : g ≡ f = ap (λ o. unwrap_or o g) e in ap (λ x. is_of_database x.name x.kind) (sym same) ∙ turned (is_of_database g.name g.kind) t

of_database : (files : Table) (id : ℕ) (f : File) → AreInTable files → Unbroken files → place files id ≡ Some f → is_of_database f.name f.kind ≡ true
of_database files id f few u e = no_stranger files id f e (first_false (is_stranger files) 32 id (few id f e) u.strangers)

-- two letters are no catalog
not_catalog : (name : List ℕ) → length name ≡ 2 → name ≡ catalog_file → ⊥
not_catalog name two e = let three : length name ≡ 3 = ap length e in absurd (omega (arith, two, three))

growing_named : (f : File) → length f.name ≡ 2 → is_of_database f.name f.kind ≡ true → f.kind ≡ Doubling
growing_named f two e = ⊎_elim
    (λ (c : (f.name ≡ catalog_file) × (f.kind ≡ Fixed 6)). absurd (not_catalog f.name two c.0))
    (λ (n : (IsNumbered 84 f.name ⊎ IsNumbered 88 f.name) × (f.kind ≡ Doubling)). n.1)
    (by_kind f.name f.kind e)

numbered_two : (letter : ℕ) (name : List ℕ) → IsNumbered letter name → length name ≡ 2
numbered_two letter name n = ap length n.is

fixed_named : (f : File) → f.name ≡ catalog_file → is_of_database f.name f.kind ≡ true → f.kind ≡ Fixed 6
fixed_named f name e = ⊎_elim
    (λ (c : (f.name ≡ catalog_file) × (f.kind ≡ Fixed 6)). c.1)
    (λ (n : (IsNumbered 84 f.name ⊎ IsNumbered 88 f.name) × (f.kind ≡ Doubling)).
    absurd (not_catalog f.name (⊎_elim (numbered_two 84 f.name) (numbered_two 88 f.name) n.0) name))
    (by_kind f.name f.kind e)

-- ---- rule 18

matched : (files : Table) (name : List ℕ) (want : Bool) → AreDistinct files → AreInTable files → Unbroken files → length name ≡ 2 → differ (is_there name files) want ≡ false → IsMatched files name want
matched files name want d few u two same = by_file (file_named name files) want refl same
  where
    by_file : (o : Option File) (want : Bool) → file_named name files ≡ o → differ (is_some o) want ≡ false → IsMatched files name want
    by_file None true e t = cc
    by_file None false e t = unnamed files name d e
    by_file (Some f) false e t = cc
    by_file (Some f) true e t =
        let at = named_place files name f e in
        let named : IsNamed files at.0 name = name_here files at.0 f at.1 ∙ ap (λ n. Some n) at.2 in
        record {
          id = at.0;
          named = named;
          growing = ap (λ (x : File). x.kind) (file_here files at.0 f at.1) ∙ growing_named f (ap length at.2 ∙ two) (of_database files at.0 f few u at.1);
        }

-- ---- rule 15

pub formed : (bytes : List ℕ) → broken_catalog bytes ≡ None → has_form bytes ≡ true
unfolding broken_catalog
formed bytes e =
    let fifteen : Option (ℕ × ℕ) = broken_slot 15 (if has_form bytes then None else Some 0) in
    let sixteen : Option (ℕ × ℕ) = broken_slot 16 (first_slot bytes (breaks_relation bytes)) in
    let seventeen : Option (ℕ × ℕ) = broken_slot 17 (first_slot bytes (breaks_index bytes)) in
    turned (has_form bytes) (nothing_broken 15 (if has_form bytes then None else Some 0) (earliest_none fifteen (sixteen ∷ seventeen ∷ []) e).0)
  where
    turned : (b : Bool) → ◌≡◌ {A = Option ℕ} (if b then None else Some 0) None → b ≡ true
    turned true e = refl
    turned false e = cc

form_size : (bytes : List ℕ) → has_form bytes ≡ true → IsCatalogSize (length bytes)
form_size bytes e = by_tests (length bytes == 0) (length bytes == 1472) (length bytes == 1480) (bytes_eq (slice_range bytes 1472 1480) version_mark) refl refl refl e
  where
    by_tests : (a b c d : Bool) → (length bytes == 0) ≡ a → (length bytes == 1472) ≡ b → (length bytes == 1480) ≡ c → (a || b || (c && d)) ≡ true → IsCatalogSize (length bytes)
    by_tests true b c d e f g h = inl (true_eq (length bytes) 0 e)
    by_tests false true c d e f g h = inr (inl (true_eq (length bytes) 1472 f))
    by_tests false false true d e f g h = inr (inr (true_eq (length bytes) 1480 g))
    by_tests false false false d e f g h = cc

-- ---- all of it

catalog_there : (files : Table) → AreDistinct files → AreInTable files → Unbroken files → HasCatalog files ⊎ IsUnnamed files catalog_file
catalog_there files d few u = by_file (file_named catalog_file files) refl
  where
    by_file : (o : Option File) → file_named catalog_file files ≡ o → HasCatalog files ⊎ IsUnnamed files catalog_file
    by_file None e = inr (unnamed files catalog_file d e)
    by_file (Some f) e =
        let at = named_place files catalog_file f e in
        let here = file_here files at.0 f at.1 in
        let same : catalog_bytes_in files ≡ f.bytes = ap bytes_in_file e in
        let size : IsCatalogSize (length f.bytes) = subst (λ bytes. IsCatalogSize (length bytes)) same (form_size (catalog_bytes_in files) (formed (catalog_bytes_in files) u.inner)) in
        inl (record {
          id = at.0;
          named = name_here files at.0 f at.1 ∙ ap (λ n. Some n) at.2;
          fixed = ap (λ (x : File). x.kind) here ∙ fixed_named f at.2 (of_database files at.0 f few u at.1);
          size = subst (λ (x : File). IsCatalogSize (length x.bytes)) (sym here) size;
        })

kinds_of : (files : Table) → AreInTable files → Unbroken files → (id : ℕ) → IsLive files id → IsGrowing files id ⊎ IsOfSixPages files id
kinds_of files few u id live = by_place (place files id) refl live
  where
    by_place : (o : Option File) → place files id ≡ o → is_some o ≡ true → IsGrowing files id ⊎ IsOfSixPages files id
    by_place None e l = cc
    by_place (Some f) e l =
        let here = ap (λ (x : File). x.kind) (file_here files id f e) in
        ⊎_elim
        (λ (c : (f.name ≡ catalog_file) × (f.kind ≡ Fixed 6)). inr (here ∙ c.1))
        (λ (n : (IsNumbered 84 f.name ⊎ IsNumbered 88 f.name) × (f.kind ≡ Doubling)). inl (here ∙ n.1))
        (by_kind f.name f.kind (of_database files id f few u e))

pub its_files : (files : Table) → length files ≡ 32 → AreDistinct files → first_broken files ≡ None → HasItsFiles files
its_files files size d e =
    let few = in_table files size in
    let u = unbroken files e in
    record {
      catalog = catalog_there files d few u;
      rows = λ slot below.
          matched files (rows_file slot) (is_some (get_or (catalog_in files).relations slot None)) d few u refl
          (rows_wanted files (catalog_in files).relations (catalog_in files).indexes slot below
          (first_false (breaks_files files (catalog_in files).relations (catalog_in files).indexes) 16 slot (omega (arith, below)) u.files_there));
      trees = λ slot below.
          matched files (tree_file slot) (is_tree (get_or (catalog_in files).indexes slot None)) d few u refl
          (tree_wanted files (catalog_in files).relations (catalog_in files).indexes slot
          (first_false (breaks_files files (catalog_in files).relations (catalog_in files).indexes) 16 (8 + slot) (omega (arith, below)) u.files_there));
      kinds = kinds_of files few u;
      few = few_files files d (λ id f e. of_database files id f few u e);
    }
