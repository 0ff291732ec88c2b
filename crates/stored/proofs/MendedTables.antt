-- What files mend to where some of them have changed.
use Rattle.std.proofs.Common.{◌≡◌, ◌≢◌, ◌⊎◌, inl, inr, ℕ, ◌<◌, true, false, List, get_or, map, Option, Some, None, ap, sym, subst, ◌∙◌, arith}
use Rattle.std.specs.Prelude.{is_some, option_map}
use Rattle.std.proofs.lemmas.Bool.{cases_eq, cases_lt}
use Rattle.std.proofs.Math.Logic.{⊎_elim}
use Rattle.std.proofs.lemmas.List.{get_or_past}
use Rattle.std.proofs.lemmas.List.FromFn.{get_or-map-range_with_len, length-map-range_with_len}
use Rattle.std.specs.List.{range_with_len}
use Rattle.afl_base.specs.Files.{Table}
use Rattle.catalog.specs.Rules.{catalog_bytes_in, is_tree}
use Rattle.db_model.specs.declared.schemas.Schema.{Schema}
use Rattle.db_model.specs.Between.{AreAlike}
use Rattle.db_model.specs.Catalog.{Index, index_at, relation_at}
use Rattle.db_model.specs.Database.{Relation, with_index, with_relation}
use Rattle.padded.proofs.Facts.{none_some}
use Rattle.space_model.specs.FileNames.{bytes_named, is_there, rows_file, tree_file}
use Rattle.stored.specs.Base.{relation_stored}
use Rattle.stored.specs.Mended.{mended_base, mended_catalog, mended_version, standing, whole_bytes, whole_catalog}
use Rattle.stored.proofs.MendedBase.{alike_is, base_one_index, base_one_relation, base_same_slots, index_mended, index_mended_at, index_stands, index_stays, index_waits, relation_mended, relation_mended_at, relation_read, relation_stays, relations_mended, version_mended}

-- ---- files of used slots

-- where the relation is used afterwards, its rows have the bytes that they had
abbrev pub KeepsRowsOf : (old new : Table) → ℕ → Type 0
KeepsRowsOf old new k = is_some (relation_at (whole_catalog new) k) ≡ true → bytes_named (rows_file k) new ≡ bytes_named (rows_file k) old

-- where the index has a tree afterwards, this is there if it was there
abbrev pub KeepsTreeOf : (old new : Table) → ℕ → Type 0
KeepsTreeOf old new i = is_tree (index_at (whole_catalog new) i) ≡ true → is_there (tree_file i) new ≡ is_there (tree_file i) old

-- ---- the same catalog

pub record AreFilesKept (old new : Table) : Type 0 where
  pub catalog : catalog_bytes_in new ≡ catalog_bytes_in old
  pub rows : (k : ℕ) → k < 8 → KeepsRowsOf old new k
  pub trees : (i : ℕ) → i < 8 → KeepsTreeOf old new i

version_same : (old new : Table) → catalog_bytes_in new ≡ catalog_bytes_in old → (mended_base new).version ≡ (mended_base old).version
version_same old new catalog = version_mended new ∙ ap (λ (bytes : List ℕ). mended_version (whole_bytes bytes)) catalog ∙ sym (version_mended old)

-- the same catalog, rows and trees: the same database
pub mended_same : (old new : Table) → AreFilesKept old new → mended_base new ≡ mended_base old
mended_same old new f =
    alike_is (mended_base new) (mended_base old)
    (base_same_slots old new
    (λ k below. relation_stays old new k (ap (λ (bytes : List ℕ). relation_at (whole_bytes bytes) k) f.catalog) (f.rows k below))
    (λ i below. index_stays old new i (ap (λ (bytes : List ℕ). index_at (whole_bytes bytes) i) f.catalog) (f.trees i below)))
    (version_same old new f.catalog)

-- what stands in a slot of what files mend to is read from there
pub relation_there : (files : Table) (slot : ℕ) (r : Relation) → get_or (mended_base files).relations slot None ≡ Some r → (slot < 8) × (relation_mended files slot ≡ Some r)
relation_there files slot r e = ⊎_elim
    (λ (below : slot < 8). (below, sym (relation_mended_at files slot below) ∙ e))
    (λ past.
    let size = length-map-range_with_len (relation_mended files) 0 8 in
    let none : get_or (mended_base files).relations slot None ≡ None =
    ap (λ (rs : List (Option Relation)). get_or rs slot None) (relations_mended files) ∙ get_or_past (map (relation_mended files) (range_with_len 0 8)) slot None (omega (arith, size, past)) in
    absurd (none_some r (sym none ∙ e)))
    (cases_lt slot 8)

pub read_schema : (o : Option Schema) (bytes : List ℕ) (r : Relation) → option_map (relation_read bytes) o ≡ Some r → o ≡ Some r.schema
read_schema None bytes r e = cc
read_schema (Some schema) bytes r e = ap (option_map (λ (x : Relation). x.schema)) e

-- the same catalog, and relations that are read as before
pub mended_by : (old new : Table) → catalog_bytes_in new ≡ catalog_bytes_in old
    → ((k : ℕ) → relation_stored new (mended_catalog old).relations k ≡ relation_stored old (mended_catalog old).relations k)
    → ((i : ℕ) → is_there (tree_file i) new ≡ is_there (tree_file i) old) → mended_base new ≡ mended_base old
unfolding mended_catalog
mended_by old new catalog relations trees =
    alike_is (mended_base new) (mended_base old)
    (base_same_slots old new
    (λ k below.
    let here : get_or (map (relation_at (whole_catalog old)) (range_with_len 0 8)) k None ≡ relation_at (whole_catalog old) k = get_or-map-range_with_len (relation_at (whole_catalog old)) 0 8 k k None below (omega arith) in
    ap (λ (bytes : List ℕ). option_map (relation_read (bytes_named (rows_file k) new)) (relation_at (whole_bytes bytes) k)) catalog
    ∙ ap (option_map (relation_read (bytes_named (rows_file k) new))) (sym here)
    ∙ relations k
    ∙ ap (option_map (relation_read (bytes_named (rows_file k) old))) here)
    (λ i below. index_stays old new i (ap (λ (bytes : List ℕ). index_at (whole_bytes bytes) i) catalog) (λ tree. trees i)))
    (version_same old new catalog)

-- a relation whose file has the same bytes
pub relation_by : (old new : Table) (schemas : List (Option Schema)) (k : ℕ) → bytes_named (rows_file k) new ≡ bytes_named (rows_file k) old → relation_stored new schemas k ≡ relation_stored old schemas k
relation_by old new schemas k e = ap (λ (bytes : List ℕ). option_map (relation_read bytes) (get_or schemas k None)) e

-- ---- another catalog

-- all slots are read as before
pub record ReadsSame (old now : List ℕ) : Type 0 where
  pub relations : (k : ℕ) → k < 8 → relation_at (whole_bytes now) k ≡ relation_at (whole_bytes old) k
  pub indexes : (i : ℕ) → i < 8 → index_at (whole_bytes now) i ≡ index_at (whole_bytes old) i

-- all slots but that of a relation
pub record ReadsRelation (old now : List ℕ) (slot : ℕ) (o : Option Schema) : Type 0 where
  pub here : relation_at (whole_bytes now) slot ≡ o
  pub relations : (k : ℕ) → k < 8 → k ≢ slot → relation_at (whole_bytes now) k ≡ relation_at (whole_bytes old) k
  pub indexes : (i : ℕ) → i < 8 → index_at (whole_bytes now) i ≡ index_at (whole_bytes old) i

-- all slots but that of an index
pub record ReadsIndex (old now : List ℕ) (slot : ℕ) (o : Option Index) : Type 0 where
  pub here : index_at (whole_bytes now) slot ≡ o
  pub relations : (k : ℕ) → k < 8 → relation_at (whole_bytes now) k ≡ relation_at (whole_bytes old) k
  pub indexes : (i : ℕ) → i < 8 → i ≢ slot → index_at (whole_bytes now) i ≡ index_at (whole_bytes old) i

pub mended_alike : (old new : Table) → ReadsSame (catalog_bytes_in old) (catalog_bytes_in new)
    → ((k : ℕ) → k < 8 → KeepsRowsOf old new k) → ((i : ℕ) → i < 8 → KeepsTreeOf old new i) → AreAlike (mended_base new) (mended_base old)
mended_alike old new s rows trees =
    base_same_slots old new (λ k below. relation_stays old new k (s.relations k below) (rows k below)) (λ i below. index_stays old new i (s.indexes i below) (trees i below))

-- a relation's slot is another: its rows are those of its file
pub mended_relation : (old new : Table) (slot : ℕ) (o : Option Schema) (r : Option Relation) → slot < 8 → ReadsRelation (catalog_bytes_in old) (catalog_bytes_in new) slot o
    → ((k : ℕ) → k < 8 → k ≢ slot → KeepsRowsOf old new k) → ((i : ℕ) → i < 8 → KeepsTreeOf old new i)
    → option_map (relation_read (bytes_named (rows_file slot) new)) o ≡ r → AreAlike (mended_base new) (with_relation (mended_base old) slot r)
mended_relation old new slot o r below s rows trees is =
    base_one_relation old new slot r below
    (ap (option_map (relation_read (bytes_named (rows_file slot) new))) s.here ∙ is)
    (λ k inside differs. relation_stays old new k (s.relations k inside differs) (rows k inside differs))
    (λ i inside. index_stays old new i (s.indexes i inside) (trees i inside))

-- an index's slot is another
pub mended_index : (old new : Table) (slot : ℕ) (o : Option Index) → slot < 8 → ReadsIndex (catalog_bytes_in old) (catalog_bytes_in new) slot o
    → ((k : ℕ) → k < 8 → KeepsRowsOf old new k) → ((i : ℕ) → i < 8 → i ≢ slot → KeepsTreeOf old new i)
    → (is_tree o ≡ true → is_there (tree_file slot) new ≡ true) → AreAlike (mended_base new) (with_index (mended_base old) slot o)
mended_index old new slot o below s rows trees there =
    base_one_index old new slot o below
    (ap (standing new slot) s.here ∙ index_stands new slot o there)
    (λ k inside. relation_stays old new k (s.relations k inside) (rows k inside))
    (λ i inside differs. index_stays old new i (s.indexes i inside differs) (trees i inside differs))

-- an index whose tree is not there yet, where there was none
pub mended_index_waits : (old new : Table) (slot : ℕ) (o : Option Index) → slot < 8 → ReadsIndex (catalog_bytes_in old) (catalog_bytes_in new) slot o
    → ((k : ℕ) → k < 8 → KeepsRowsOf old new k) → ((i : ℕ) → i < 8 → i ≢ slot → KeepsTreeOf old new i)
    → get_or (mended_base old).indexes slot None ≡ None → is_tree o ≡ true → is_there (tree_file slot) new ≡ false → AreAlike (mended_base new) (mended_base old)
mended_index_waits old new slot o below s rows trees none tree there =
    base_same_slots old new
    (λ k inside. relation_stays old new k (s.relations k inside) (rows k inside))
    (λ i inside. ⊎_elim
    (λ (same : i ≡ slot). subst (λ (j : ℕ). index_mended new j ≡ index_mended old j) (sym same) (ap (standing new slot) s.here ∙ index_waits new slot o tree there ∙ sym (sym (index_mended_at old slot below) ∙ none)))
    (λ (differs : i ≢ slot). index_stays old new i (s.indexes i inside differs) (trees i inside differs))
    (cases_eq i slot))

-- ---- a slot that was put or was not

-- the files of all used slots are as before
pub record AreRowsKept (old new : Table) : Type 0 where
  pub rows : (k : ℕ) → k < 8 → KeepsRowsOf old new k
  pub trees : (i : ℕ) → i < 8 → KeepsTreeOf old new i

-- the database before, or that with the relation in its slot, its rows read from its file
pub relation_put : (old new : Table) (now : List ℕ) (slot : ℕ) (o : Option Schema) (r : Option Relation) → slot < 8 → catalog_bytes_in new ≡ now
    → ReadsSame (catalog_bytes_in old) now ⊎ ReadsRelation (catalog_bytes_in old) now slot o → AreRowsKept old new
    → option_map (relation_read (bytes_named (rows_file slot) new)) o ≡ r
    → AreAlike (mended_base new) (mended_base old) ⊎ AreAlike (mended_base new) (with_relation (mended_base old) slot r)
relation_put old new now slot o r below is read kept rows = ⊎_elim
    (λ (s : ReadsSame (catalog_bytes_in old) now). inl (mended_alike old new (subst (ReadsSame (catalog_bytes_in old)) (sym is) s) kept.rows kept.trees))
    (λ (s : ReadsRelation (catalog_bytes_in old) now slot o). inr (mended_relation old new slot o r below
    (subst (λ (bytes : List ℕ). ReadsRelation (catalog_bytes_in old) bytes slot o) (sym is) s) (λ k inside differs. kept.rows k inside) kept.trees rows))
    read

-- the database before, or that with the index in its slot: a tree is there if it has one
pub index_put : (old new : Table) (now : List ℕ) (slot : ℕ) (o : Option Index) → slot < 8 → catalog_bytes_in new ≡ now
    → ReadsSame (catalog_bytes_in old) now ⊎ ReadsIndex (catalog_bytes_in old) now slot o → AreRowsKept old new
    → (is_tree o ≡ true → is_there (tree_file slot) new ≡ true)
    → AreAlike (mended_base new) (mended_base old) ⊎ AreAlike (mended_base new) (with_index (mended_base old) slot o)
index_put old new now slot o below is read kept there = ⊎_elim
    (λ (s : ReadsSame (catalog_bytes_in old) now). inl (mended_alike old new (subst (ReadsSame (catalog_bytes_in old)) (sym is) s) kept.rows kept.trees))
    (λ (s : ReadsIndex (catalog_bytes_in old) now slot o). inr (mended_index old new slot o below
    (subst (λ (bytes : List ℕ). ReadsIndex (catalog_bytes_in old) bytes slot o) (sym is) s) kept.rows (λ i inside differs. kept.trees i inside) there))
    read
