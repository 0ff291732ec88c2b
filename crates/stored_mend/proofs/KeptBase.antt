-- What files mend to does not change where a tree is built, and where a relation keeps its whole rows.
use Rattle.std.proofs.Common.{◌≡◌, ℕ, ◌+◌, ◌-◌, ◌*◌, ◌/◌, ◌%◌, ◌<◌, ◌≤◌, List, map, get_or, length, take, drop, Option, Some, None, IsTrue, refl, ap, sym, subst, ◌∙◌, arith, mul_comm, ⊎_elim}
use Rattle.std.specs.Prelude.{option_map, slice_range, unwrap_or}
use Rattle.std.specs.List.{range_with_len}
use Rattle.std.proofs.Math.Nat.{div-mul-le_self, mod-eq-sub-div-mul, mul-div_cancel_left, mul-div-le}
use Rattle.std.proofs.lemmas.Bool.{cases_eq}
use Rattle.std.proofs.lemmas.List.{drop-take, length-take-le, take-take}
use Rattle.afl_base.proofs.FileLaws.{named_live, place_live, one_name}
use Rattle.afl_base.specs.Files.{Becomes, File, IsNamed, State, Table, bytes_at, no_file}
use Rattle.catalog.specs.CatalogFile.{IsCatalogSize}
use Rattle.catalog.specs.Formed.{HasCatalogSize}
use Rattle.catalog.specs.Rules.{catalog_bytes_in, catalog_in}
use Rattle.db_model.specs.declared.schemas.Attribute.{Attribute}
use Rattle.db_model.specs.declared.schemas.Schema.{Schema}
use Rattle.db_model.specs.Catalog.{catalog_of}
use Rattle.db_model.specs.Row.{Row, row_at, row_length, row_of, rows_of}
use Rattle.db_model.proofs.Rows.{map_range_same, slot_inside}
use Rattle.space_model.specs.FileNames.{bytes_in_file, bytes_named, catalog_file, file_named, rows_file, tree_file}
use Rattle.space_model.proofs.NamedFiles.{named_place}
use Rattle.stored.specs.Base.{relation_stored}
use Rattle.stored.specs.Mended.{mended_base, mended_catalog, whole_bytes, whole_catalog}
use Rattle.stored.proofs.MendedBase.{whole_sized}
use Rattle.stored.proofs.MendedTables.{mended_by, relation_by}
use Rattle.stored_mend.specs.Mending.{KeepsBase}
use Rattle.stored_mend.specs.Rows.{AreSameRows, ChangesOne, whole_length, whole_rows}
use Rattle.catalog.proofs.Named.{named_found}
use Rattle.stored_mend.proofs.OneFile.{catalog_no_rows, catalog_no_tree, rows_no_tree, same_rows_slot}
use Rattle.stored_mend.proofs.Replaced.{becomes_spares_others}
use Rattle.stored.proofs.NamesStay.{file_stays, there_stays}

-- ---- one file

-- the bytes of all other files are the same
pub bytes_stay : (old new : State) (name n : List ℕ) → ChangesOne old new name → (n ≡ name → ⊥) → bytes_named n new.files ≡ bytes_named n old.files
bytes_stay old new name n c differs =
    ap bytes_in_file (file_stays old.files new.files n c.named (λ k is. c.others k (λ other. differs (one_name old.files k n name is other))))

-- a tree counts for nothing
pub tree_keeps : (old new : State) (i : ℕ) → ChangesOne old new (tree_file i) → mended_base new.files ≡ mended_base old.files
tree_keeps old new i c =
    mended_by old.files new.files (bytes_stay old new (tree_file i) catalog_file c (catalog_no_tree i))
    (λ k. relation_by old.files new.files (mended_catalog old.files).relations k (bytes_stay old new (tree_file i) (rows_file k) c (rows_no_tree k i)))
    (λ j. there_stays old.files new.files (tree_file j) c.named)

-- ---- rows

module _ (attributes : List Attribute) (bytes : List ℕ) where
  abbrev count : ℕ
  count = length bytes / row_length attributes

  slot_whole : (k : ℕ) → k < count → slice_range (whole_rows attributes bytes) (row_length attributes * k) (row_length attributes * k + row_length attributes)
      ≡ slice_range bytes (row_length attributes * k) (row_length attributes * k + row_length attributes)
  slot_whole k below =
      let size = row_length attributes in
      let inside : size * k + size ≤ size * count = slot_inside size k count below in
      let more : ℕ = size * count - size * k in
      let whole : size * count ≡ size * k + more = omega (arith, inside) in
      let front : drop (size * k) (take (size * count) bytes) ≡ take more (drop (size * k) bytes) = ap (λ (m : ℕ). drop (size * k) (take m bytes)) whole ∙ drop-take (size * k) more bytes in
      ap (take (size * k + size - size * k)) front ∙ take-take (size * k + size - size * k) more (drop (size * k) bytes) (omega (arith, inside))

  -- a file that is cut behind its whole rows keeps them
  pub whole_rows_same : rows_of attributes (whole_rows attributes bytes) ≡ rows_of attributes bytes
  whole_rows_same =
      let size = row_length attributes in
      let long : length (whole_rows attributes bytes) ≡ size * count = length-take-le (size * count) bytes (mul-div-le (length bytes) size) in
      let some : 0 < size = omega arith in
      let slots : length (whole_rows attributes bytes) / size ≡ count = ap (λ (m : ℕ). m / size) long ∙ mul-div_cancel_left count some in
      ap (λ (m : ℕ). map (row_at attributes (whole_rows attributes bytes)) (range_with_len 0 m)) slots
      ∙ map_range_same (row_at attributes (whole_rows attributes bytes)) (row_at attributes bytes) 0 count (λ k low high. ap (row_of attributes) (slot_whole k (omega (arith, high))))

-- a relation keeps its rows
pub rows_keep : (old new : State) (k : ℕ) (schema : Schema) → ChangesOne old new (rows_file k) → get_or (mended_catalog old.files).relations k None ≡ Some schema
    → rows_of schema.attributes (bytes_named (rows_file k) new.files) ≡ rows_of schema.attributes (bytes_named (rows_file k) old.files) → mended_base new.files ≡ mended_base old.files
rows_keep old new k schema c is same =
    mended_by old.files new.files (bytes_stay old new (rows_file k) catalog_file c (catalog_no_rows k)) relations (λ j. there_stays old.files new.files (tree_file j) c.named)
  where
    schemas : List (Option Schema)
    schemas = (mended_catalog old.files).relations

    here : relation_stored new.files schemas k ≡ relation_stored old.files schemas k
    here = rw is (ap (λ (rows : List Row). Some (record { schema = schema; rows = rows })) same)

    relations : (j : ℕ) → relation_stored new.files schemas j ≡ relation_stored old.files schemas j
    relations j =
        ⊎_elim
        (λ e. subst (λ (i : ℕ). relation_stored new.files schemas i ≡ relation_stored old.files schemas i) (sym e) here)
        (λ other. relation_by old.files new.files schemas j (bytes_stay old new (rows_file k) (rows_file j) c (λ e. other (same_rows_slot j k e))))
        (cases_eq j k)

-- a file that was cut behind its whole rows
pub cut_same_rows : (old new : State) (file size : ℕ) (name : List ℕ) (attributes : List Attribute) → IsNamed old.files file name → ((k : ℕ) → IsNamed old.files k name → k ≡ file)
    → Becomes old new file size (take size (bytes_at old.files file)) → size ≡ whole_length attributes (bytes_at old.files file) → IsTrue old.tells → AreSameRows old.files new.files name attributes
cut_same_rows old new file size name attributes named only b long told =
    let bytes = bytes_at old.files file in
    let names = (becomes_spares_others old new file size name (take size bytes) named b).named in
    let live = named_live old.files file name named in
    let before : bytes_named name old.files ≡ bytes = ap bytes_in_file (named_found old.files file name named only ∙ place_live old.files file live) in
    let after : bytes_named name new.files ≡ bytes_at new.files file =
    ap bytes_in_file (named_found new.files file name (names file ∙ named) (λ k h. only k (sym (names k) ∙ h)) ∙ place_live new.files file b.live) in
    ap (rows_of attributes) (after ∙ b.bytes told ∙ ap (λ (n : ℕ). take n bytes) long) ∙ whole_rows_same attributes bytes ∙ ap (rows_of attributes) (sym before)

-- what is left behind whole slots
pub whole_size : (n m : ℕ) → n - n % m ≡ m * (n / m)
whole_size n m = omega (arith, mod-eq-sub-div-mul n m, div-mul-le_self n m, mul_comm m (n / m))

-- ---- steps

pub kept_then : (a b c : State) → KeepsBase a b → KeepsBase b c → KeepsBase a c
kept_then a b c f g = record {
  catalog = g.catalog ∙ f.catalog;
  base = λ told. g.base (f.tells ∙ told) ∙ f.base told;
  draft = g.draft ∙ f.draft;
  tells = g.tells ∙ f.tells;
}

-- the relations stay with the catalog
pub relations_kept : (a b : State) → KeepsBase a b → (mended_catalog b.files).relations ≡ (mended_catalog a.files).relations
unfolding mended_catalog
relations_kept a b f = ap (λ (bytes : List ℕ). (catalog_of (whole_bytes bytes)).relations) f.catalog

pub kept_tree : (old new : State) (i : ℕ) → ChangesOne old new (tree_file i) → KeepsBase old new
kept_tree old new i c = record {
  catalog = bytes_stay old new (tree_file i) catalog_file c (catalog_no_tree i);
  base = λ told. tree_keeps old new i c;
  draft = c.draft;
  tells = c.tells;
}

-- a catalog of a version's size is whole
pub sized_whole : (files : Table) → HasCatalogSize files → whole_catalog files ≡ catalog_bytes_in files
sized_whole files sized = by_file (file_named catalog_file files) refl
  where
    by_file : (o : Option File) → file_named catalog_file files ≡ o → whole_bytes (bytes_in_file o) ≡ bytes_in_file o
    by_file None e = refl
    by_file (Some f) e =
        let at = named_place files catalog_file f e in
        let named : IsNamed files at.0 catalog_file = ap (option_map (λ (x : File). x.name)) at.1 ∙ ap (λ (n : List ℕ). Some n) at.2 in
        whole_sized f.bytes (subst (λ (o : Option File). IsCatalogSize (length (unwrap_or o no_file).bytes)) at.1 (sized at.0 named))

-- the relations of a catalog that breaks no rule
pub relations_listed : (files : Table) (relations : List (Option Schema)) → HasCatalogSize files → relations ≡ (catalog_in files).relations → relations ≡ (mended_catalog files).relations
unfolding mended_catalog
relations_listed files relations sized e = e ∙ ap (λ (bytes : List ℕ). (catalog_of bytes).relations) (sym (sized_whole files sized))
