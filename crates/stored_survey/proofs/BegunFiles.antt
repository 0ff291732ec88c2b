-- Files of which no whole catalog is there.
use Rattle.std.proofs.Common.{◌≡◌, ◌⊎◌, inl, inr, ⊎_elim, ℕ, ◌+◌, ◌<◌, ◌≤◌, Bool, true, false, ◌&&◌, List, [], length, take, get_or, Some, refl, sym, ap, subst, ◌∙◌, arith}
use Rattle.std.specs.Prelude.{is_some}
use Rattle.std.specs.Bool.{Decides}
use Rattle.std.proofs.lemmas.Bool.{cases_eq}
use Rattle.std.proofs.lemmas.List.{nil_from_length}
use Rattle.afl_base.specs.Files.{File, IsNamed, IsUnnamed, Table, bytes_at, file_at, place, size_at}
use Rattle.afl_base.proofs.FileLaws.{file_here, named_here, named_live, place_live}
use Rattle.catalog.specs.Rules.{catalog_bytes_in, is_schema, is_stranger}
use Rattle.catalog.proofs.Named.{named_found, named_none}
use Rattle.db_model.specs.Catalog.{catalog_bytes}
use Rattle.db_model.specs.Names.{is_name}
use Rattle.padded.proofs.Facts.{some_same, yes_no}
use Rattle.space_model.specs.FileNames.{bytes_in_file, catalog_file, is_there, rows_file, tree_file}
use Rattle.stored.specs.CutTables.{IsBegun, IsFirstInPart, first_catalog}
use Rattle.stored.proofs.FilesOf.{IsNumbered, by_kind}
use Rattle.stored.proofs.HasFiles.{no_stranger}
use Rattle.stored.proofs.SoundCut.{named_there}
use Rattle.stored_mend.proofs.OneFile.{same_rows_slot as rows_apart}
use Rattle.stored_mend.proofs.SlotShape.{sound_of}
use Rattle.stored_survey.specs.Parts.{HasNoMore, IsCatalogFront}

-- the file that has a name
record IsFileOf (files : Table) (id : ℕ) (name : List ℕ) : Type 0 where
  file : File
  there : place files id ≡ Some file
  named : file.name ≡ name

file_of : (files : Table) (id : ℕ) (name : List ℕ) → IsNamed files id name → IsFileOf files id name
file_of files id name e =
    let there : place files id ≡ Some (file_at files id) = place_live files id (named_live files id name e) in
    record { file = file_at files id; there = there; named = some_same (file_at files id).name name (sym (named_here files id (file_at files id) there) ∙ e) }

schema_of_name : (name : List ℕ) → is_name name ≡ true → is_schema 2 (record { name = name; attributes = [] }) ≡ true
schema_of_name name e = ap (λ (b : Bool). (b && true) && true) e

name_of_schema : (name : List ℕ) → is_schema 2 (record { name = name; attributes = [] }) ≡ true → is_name name ≡ true
name_of_schema name e = (sound_of 2 (record { name = name; attributes = [] }) e).name

module _ (files : Table) where
  abbrev IsAlone : Type 0
  IsAlone = (id : ℕ) (f : File) → place files id ≡ Some f → (f.name ≡ catalog_file) ⊎ ((f.name ≡ rows_file 0) × (f.bytes ≡ []))

  alone_no_more : IsAlone → HasNoMore files
  alone_no_more alone = record {
    trees = λ slot few id e.
        let f = file_of files id (tree_file slot) e in
        ⊎_elim
        (λ (c : f.file.name ≡ catalog_file). let w : tree_file slot ≡ catalog_file = sym f.named ∙ c in let n : 88 ≡ 67 = ap (λ (xs : List ℕ). get_or xs 0 0) w in absurd (omega (arith, n)))
        (λ r. let w : tree_file slot ≡ rows_file 0 = sym f.named ∙ r.0 in let n : 88 ≡ 84 = ap (λ (xs : List ℕ). get_or xs 0 0) w in absurd (omega (arith, n)))
        (alone id f.file f.there);
    rows = λ slot few some id e.
        let f = file_of files id (rows_file slot) e in
        ⊎_elim
        (λ (c : f.file.name ≡ catalog_file). let w : rows_file slot ≡ catalog_file = sym f.named ∙ c in let n : 84 ≡ 67 = ap (λ (xs : List ℕ). get_or xs 0 0) w in absurd (omega (arith, n)))
        (λ r. let same : slot ≡ 0 = rows_apart slot 0 (sym f.named ∙ r.0) in absurd (omega (arith, same, some)))
        (alone id f.file f.there);
    first = λ id e.
        let f = file_of files id (rows_file 0) e in
        ⊎_elim
        (λ (c : f.file.name ≡ catalog_file). let w : rows_file 0 ≡ catalog_file = sym f.named ∙ c in let n : 84 ≡ 67 = ap (λ (xs : List ℕ). get_or xs 0 0) w in absurd (omega (arith, n)))
        (λ r. ap (λ (x : File). length x.bytes) (file_here files id f.file f.there) ∙ ap length r.1)
        (alone id f.file f.there);
  }

  no_more_alone : HasNoMore files → ((id : ℕ) → is_stranger files id ≡ false) → IsAlone
  no_more_alone none known id f e =
      ⊎_elim
      (λ c. inl c.0)
      (λ n. ⊎_elim
      (λ (t : IsNumbered 84 f.name). inr (rows t))
      (λ (x : IsNumbered 88 f.name). absurd (none.trees x.slot x.below id (named_here files id f e ∙ ap Some x.is)))
      n.0)
      (by_kind f.name f.kind (no_stranger files id f e (known id)))
    where
      rows : IsNumbered 84 f.name → (f.name ≡ rows_file 0) × (f.bytes ≡ [])
      rows t = ⊎_elim
          (λ (first : t.slot ≡ 0).
          let is : f.name ≡ rows_file 0 = t.is ∙ ap rows_file first in
          let size : length f.bytes ≡ 0 = ap (λ (x : File). length x.bytes) (sym (file_here files id f e)) ∙ none.first id (named_here files id f e ∙ ap Some is) in
          (is, nil_from_length f.bytes size))
          (λ differs. absurd (none.rows t.slot t.below (omega (arith, differs)) id (named_here files id f e ∙ ap Some t.is)))
          (cases_eq t.slot 0)

  -- ---- the answers

  pub more_files : (HasNoMore files → ⊥) → Decides false (IsBegun files)
  more_files some = (λ t. absurd (cc), λ b. absurd (some (alone_no_more b.alone)))

  module _ (none : HasNoMore files) (known : (id : ℕ) → is_stranger files id ≡ false) (short : length (catalog_bytes_in files) < 1472) where
    begun_empty : catalog_bytes_in files ≡ [] → Decides true (IsBegun files)
    begun_empty e = (λ t. record { short = short; alone = no_more_alone none known; catalog = inl e }, λ b. refl)

    pub no_catalog : IsUnnamed files catalog_file → Decides true (IsBegun files)
    no_catalog absent = begun_empty (ap bytes_in_file (named_none files catalog_file absent))

    module _ (cat : ℕ) (named : IsNamed files cat catalog_file) (only : (k : ℕ) → IsNamed files k catalog_file → k ≡ cat) where
      catalog_is : catalog_bytes_in files ≡ bytes_at files cat
      catalog_is = ap bytes_in_file (named_found files cat catalog_file named only ∙ place_live files cat (named_live files cat catalog_file named))

      pub empty_catalog : size_at files cat ≡ 0 → Decides true (IsBegun files)
      empty_catalog size = begun_empty (catalog_is ∙ nil_from_length (bytes_at files cat) size)

      pub too_long : 1472 ≤ size_at files cat → Decides false (IsBegun files)
      too_long long = absurd (let same : length (catalog_bytes_in files) ≡ size_at files cat = ap length catalog_is in omega (arith, same, long, short))

      module _ (some : 0 < size_at files cat) where
        by_first : IsBegun files → IsFirstInPart files
        by_first b = ⊎_elim
            (λ (e : catalog_bytes_in files ≡ []). absurd (let same : size_at files cat ≡ 0 = ap length (sym catalog_is ∙ e) in omega (arith, same, some)))
            (λ (e : IsFirstInPart files). e)
            b.catalog

        pub no_rows : ((id : ℕ) × IsNamed files id (rows_file 0) → ⊥) → Decides false (IsBegun files)
        no_rows absent = (
          λ t. absurd (cc),
          λ b. yes_no (is_there (rows_file 0) files) (by_first b).rows (ap is_some (named_none files (rows_file 0) (λ id e. absent (id, e)))),
        )

        pub front_decides : (r : Bool) → (id : ℕ) × IsNamed files id (rows_file 0) → Decides r ((name : List ℕ) × IsCatalogFront (bytes_at files cat) name) → Decides r (IsBegun files)
        front_decides r rows d = (
          λ t.
              let found = d.0 t in
              record {
                short = short;
                alone = no_more_alone none known;
                catalog = inr (record {
                  name = found.0;
                  valid = schema_of_name found.0 found.1.0;
                  front = subst (λ (xs : List ℕ). xs ≡ take (length xs) (catalog_bytes (first_catalog found.0))) (sym catalog_is) found.1.1;
                  rows = named_there files rows.0 (rows_file 0) rows.1;
                });
              },
          λ b.
              let first = by_first b in
              d.1 (first.name, (name_of_schema first.name first.valid, subst (λ (xs : List ℕ). xs ≡ take (length xs) (catalog_bytes (first_catalog first.name))) catalog_is first.front)),
        )
