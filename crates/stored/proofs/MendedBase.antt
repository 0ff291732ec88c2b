-- What files mend to, slot by slot.
use Rattle.std.proofs.Common.{◌≡◌, ◌≢◌, ⊎_elim, ℕ, zero, suc, ◌+◌, ◌<◌, ◌≤◌, Bool, true, false, not, ◌&&◌, ◌∷◌, List, [], length, map, replicate, set, get_or, Option, Some, None, if◌then◌else◌, refl, ap, sym, ◌∙◌, arith}
use Rattle.std.specs.Prelude.{is_some, nat_lt, option_map}
use Rattle.std.specs.List.{range_with_len}
use Rattle.std.proofs.Math.Nat.{zero-div}
use Rattle.std.proofs.lemmas.List.FromFn.{get_or-map-range_with_len}
use Rattle.afl_base.specs.Files.{Table}
use Rattle.catalog.specs.CatalogFile.{IsCatalogSize}
use Rattle.catalog.specs.Rules.{is_tree}
use Rattle.db_model.specs.declared.schemas.Attribute.{Attribute}
use Rattle.db_model.specs.declared.schemas.Schema.{Schema}
use Rattle.db_model.specs.Between.{AreAlike}
use Rattle.db_model.specs.Catalog.{Index, catalog_of, index_at, relation_at}
use Rattle.db_model.specs.Database.{Cursor, Database, Relation, empty_database, with_index, with_relation}
use Rattle.db_model.specs.Row.{row_at, row_length, rows_of}
use Rattle.padded.proofs.Facts.{lt_false, lt_true}
use Rattle.space_model.specs.FileNames.{bytes_named, is_there, rows_file, tree_file}
use Rattle.stored.specs.Base.{relation_stored}
use Rattle.stored.specs.Mended.{mended_base, mended_catalog, mended_version, standing, whole_bytes, whole_catalog}
pub use Rattle.db_model.proofs.Rows.{map_range_same as slots_same}

-- ---- databases that are alike

pub alike_by : (a b : Database) → a.relations ≡ b.relations → a.indexes ≡ b.indexes → a.cursors ≡ b.cursors → AreAlike a b
alike_by a b relations indexes cursors =
    let made : List (Option Relation) → List (Option Index) → List (Option Cursor) → Database = λ rs is cs. record { version = a.version; relations = rs; indexes = is; cursors = cs } in
    ap (λ (rs : List (Option Relation)). made rs a.indexes a.cursors) relations
    ∙ ap (λ (is : List (Option Index)). made b.relations is a.cursors) indexes
    ∙ ap (λ (cs : List (Option Cursor)). made b.relations b.indexes cs) cursors

pub alike_then : (a b c : Database) → AreAlike a b → AreAlike b c → AreAlike a c
alike_then a b c e f =
    alike_by a c (ap (λ (d : Database). d.relations) e ∙ ap (λ (d : Database). d.relations) f) (ap (λ (d : Database). d.indexes) e ∙ ap (λ (d : Database). d.indexes) f) (ap (λ (d : Database). d.cursors) e ∙ ap (λ (d : Database). d.cursors) f)

-- and of one version they are the same
pub alike_is : (a b : Database) → AreAlike a b → a.version ≡ b.version → a ≡ b
alike_is a b e version = e ∙ ap (λ (v : ℕ). record b { version = v }) version

pub alike_relation : (a b : Database) (k : ℕ) (r : Option Relation) → AreAlike a b → AreAlike (with_relation a k r) (with_relation b k r)
alike_relation a b k r e =
    alike_by (with_relation a k r) (with_relation b k r) (ap (λ (d : Database). set d.relations k r) e) (ap (λ (d : Database). d.indexes) e) (ap (λ (d : Database). d.cursors) e)

pub alike_index : (a b : Database) (i : ℕ) (index : Option Index) → AreAlike a b → AreAlike (with_index a i index) (with_index b i index)
alike_index a b i index e =
    alike_by (with_index a i index) (with_index b i index) (ap (λ (d : Database). d.relations) e) (ap (λ (d : Database). set d.indexes i index) e) (ap (λ (d : Database). d.cursors) e)

-- ---- slots of lists that functions give

-- all but one
slots_but : {X : Type 0} (f g : ℕ → X) (from n at : ℕ) (x : X) → at < n → f (from + at) ≡ x → ((k : ℕ) → from ≤ k → k < from + n → k ≢ from + at → f k ≡ g k)
    → map f (range_with_len from n) ≡ set (map g (range_with_len from n)) at x
slots_but f g from zero at x inside here others = absurd (omega (arith, inside))
slots_but f g from (suc n) zero x inside here others =
    let same : from + 0 ≡ from = omega arith in
    ap (λ y. y ∷ map f (range_with_len (from + 1) n)) (ap f (sym same) ∙ here)
    ∙ ap (λ rest. x ∷ rest) (slots_same f g (from + 1) n (λ k low high. others k (omega (arith, low)) (omega (arith, high)) (λ e. absurd (omega (arith, low, e)))))
slots_but f g from (suc n) (suc at) x inside here others =
    let next : from + 1 + at ≡ from + suc at = omega arith in
    ap (λ y. y ∷ map f (range_with_len (from + 1) n)) (others from (omega arith) (omega arith) (λ e. absurd (omega (arith, e))))
    ∙ ap (λ rest. g from ∷ rest) (slots_but f g (from + 1) n at x (omega (arith, inside)) (ap f next ∙ here) (λ k low high differs. others k (omega (arith, low)) (omega (arith, high)) (λ e. differs (e ∙ sym next))))

-- ---- slots of what files mend to

-- the relation that a schema and the bytes of its rows make
abbrev pub relation_read : List ℕ → Schema → Relation
relation_read bytes schema = record { schema = schema; rows = rows_of schema.attributes bytes }

abbrev pub relation_mended : Table → ℕ → Option Relation
relation_mended files k = option_map (relation_read (bytes_named (rows_file k) files)) (relation_at (whole_catalog files) k)

abbrev pub index_mended : Table → ℕ → Option Index
index_mended files i = standing files i (index_at (whole_catalog files) i)

pub relations_mended : (files : Table) → (mended_base files).relations ≡ map (relation_mended files) (range_with_len 0 8)
unfolding mended_base mended_catalog
relations_mended files =
    slots_same (relation_stored files (catalog_of (whole_catalog files)).relations) (relation_mended files) 0 8
    (λ k low below. ap (option_map (relation_read (bytes_named (rows_file k) files))) (get_or-map-range_with_len (relation_at (whole_catalog files)) 0 8 k k None below (omega arith)))

pub indexes_mended : (files : Table) → (mended_base files).indexes ≡ map (index_mended files) (range_with_len 0 8)
unfolding mended_base mended_catalog
indexes_mended files =
    slots_same (λ slot. standing files slot (get_or (catalog_of (whole_catalog files)).indexes slot None)) (index_mended files) 0 8
    (λ i low below. ap (standing files i) (get_or-map-range_with_len (index_at (whole_catalog files)) 0 8 i i None below (omega arith)))

pub cursors_mended : (files : Table) → (mended_base files).cursors ≡ replicate 4 None
unfolding mended_base
cursors_mended files = refl

pub version_mended : (files : Table) → (mended_base files).version ≡ mended_version (whole_catalog files)
unfolding mended_base mended_catalog
version_mended files = refl

pub relation_mended_at : (files : Table) (k : ℕ) → k < 8 → get_or (mended_base files).relations k None ≡ relation_mended files k
relation_mended_at files k below =
    ap (λ (rs : List (Option Relation)). get_or rs k None) (relations_mended files) ∙ get_or-map-range_with_len (relation_mended files) 0 8 k k None below (omega arith)

pub index_mended_at : (files : Table) (i : ℕ) → i < 8 → get_or (mended_base files).indexes i None ≡ index_mended files i
index_mended_at files i below =
    ap (λ (is : List (Option Index)). get_or is i None) (indexes_mended files) ∙ get_or-map-range_with_len (index_mended files) 0 8 i i None below (omega arith)

-- ---- two tables, by slots

-- all slots are as before
pub base_same_slots : (old new : Table) → ((k : ℕ) → k < 8 → relation_mended new k ≡ relation_mended old k) → ((i : ℕ) → i < 8 → index_mended new i ≡ index_mended old i)
    → AreAlike (mended_base new) (mended_base old)
base_same_slots old new relations indexes =
    alike_by (mended_base new) (mended_base old)
    (relations_mended new ∙ slots_same (relation_mended new) (relation_mended old) 0 8 (λ k low below. relations k below) ∙ sym (relations_mended old))
    (indexes_mended new ∙ slots_same (index_mended new) (index_mended old) 0 8 (λ i low below. indexes i below) ∙ sym (indexes_mended old))
    (cursors_mended new ∙ sym (cursors_mended old))

-- all but one relation
pub base_one_relation : (old new : Table) (slot : ℕ) (r : Option Relation) → slot < 8 → relation_mended new slot ≡ r → ((k : ℕ) → k < 8 → k ≢ slot → relation_mended new k ≡ relation_mended old k)
    → ((i : ℕ) → i < 8 → index_mended new i ≡ index_mended old i) → AreAlike (mended_base new) (with_relation (mended_base old) slot r)
base_one_relation old new slot r below here relations indexes =
    let same : 0 + slot ≡ slot = omega arith in
    alike_by (mended_base new) (with_relation (mended_base old) slot r)
    (relations_mended new
    ∙ slots_but (relation_mended new) (relation_mended old) 0 8 slot r below (ap (relation_mended new) same ∙ here) (λ k low inside differs. relations k inside (λ e. differs (e ∙ sym same)))
    ∙ sym (ap (λ (rs : List (Option Relation)). set rs slot r) (relations_mended old)))
    (indexes_mended new ∙ slots_same (index_mended new) (index_mended old) 0 8 (λ i low inside. indexes i inside) ∙ sym (indexes_mended old))
    (cursors_mended new ∙ sym (cursors_mended old))

-- all but one index
pub base_one_index : (old new : Table) (slot : ℕ) (index : Option Index) → slot < 8 → index_mended new slot ≡ index → ((k : ℕ) → k < 8 → relation_mended new k ≡ relation_mended old k)
    → ((i : ℕ) → i < 8 → i ≢ slot → index_mended new i ≡ index_mended old i) → AreAlike (mended_base new) (with_index (mended_base old) slot index)
base_one_index old new slot index below here relations indexes =
    let same : 0 + slot ≡ slot = omega arith in
    alike_by (mended_base new) (with_index (mended_base old) slot index)
    (relations_mended new ∙ slots_same (relation_mended new) (relation_mended old) 0 8 (λ k low inside. relations k inside) ∙ sym (relations_mended old))
    (indexes_mended new
    ∙ slots_but (index_mended new) (index_mended old) 0 8 slot index below (ap (index_mended new) same ∙ here) (λ i low inside differs. indexes i inside (λ e. differs (e ∙ sym same)))
    ∙ sym (ap (λ (is : List (Option Index)). set is slot index) (indexes_mended old)))
    (cursors_mended new ∙ sym (cursors_mended old))

-- ---- one slot

-- a relation is read as before from the same schema and, where it is used, the same bytes
pub relation_stays : (old new : Table) (k : ℕ) → relation_at (whole_catalog new) k ≡ relation_at (whole_catalog old) k
    → (is_some (relation_at (whole_catalog new) k) ≡ true → bytes_named (rows_file k) new ≡ bytes_named (rows_file k) old) → relation_mended new k ≡ relation_mended old k
relation_stays old new k slot bytes =
    by_slot (relation_at (whole_catalog new) k) bytes ∙ ap (option_map (relation_read (bytes_named (rows_file k) old))) slot
  where
    by_slot : (o : Option Schema) → (is_some o ≡ true → bytes_named (rows_file k) new ≡ bytes_named (rows_file k) old)
        → option_map (relation_read (bytes_named (rows_file k) new)) o ≡ option_map (relation_read (bytes_named (rows_file k) old)) o
    by_slot None same = refl
    by_slot (Some schema) same = ap (λ (bytes : List ℕ). Some (relation_read bytes schema)) (same refl)

-- an index stands as before where its tree is there as before, if it has one
pub index_stays : (old new : Table) (i : ℕ) → index_at (whole_catalog new) i ≡ index_at (whole_catalog old) i
    → (is_tree (index_at (whole_catalog new) i) ≡ true → is_there (tree_file i) new ≡ is_there (tree_file i) old) → index_mended new i ≡ index_mended old i
index_stays old new i slot there =
    by_test (index_at (whole_catalog new) i) (is_tree (index_at (whole_catalog new) i)) there ∙ ap (standing old i) slot
  where
    by_test : (o : Option Index) (b : Bool) → (b ≡ true → is_there (tree_file i) new ≡ is_there (tree_file i) old)
        → (if b && not (is_there (tree_file i) new) then None else o) ≡ (if b && not (is_there (tree_file i) old) then None else o)
    by_test o false same = refl
    by_test o true same = ap (λ (t : Bool). if not t then None else o) (same refl)

-- an index stands where its tree is there, if it has one
pub index_stands : (files : Table) (i : ℕ) (index : Option Index) → (is_tree index ≡ true → is_there (tree_file i) files ≡ true) → standing files i index ≡ index
index_stands files i index there = by_test (is_tree index) there
  where
    by_test : (b : Bool) → (b ≡ true → is_there (tree_file i) files ≡ true) → (if b && not (is_there (tree_file i) files) then None else index) ≡ index
    by_test false same = refl
    by_test true same = ap (λ (t : Bool). if not t then None else index) (same refl)

-- and is none where it is not there
pub index_waits : (files : Table) (i : ℕ) (index : Option Index) → is_tree index ≡ true → is_there (tree_file i) files ≡ false → standing files i index ≡ None
index_waits files i index tree there =
    ap (λ (b : Bool). if b && not (is_there (tree_file i) files) then None else index) tree ∙ ap (λ (t : Bool). if not t then None else index) there

-- an empty file has no rows
pub rows_of_none : (attributes : List Attribute) → rows_of attributes [] ≡ []
rows_of_none attributes = ap (λ (n : ℕ). map (row_at attributes []) (range_with_len 0 n)) (zero-div (row_length attributes))

pub index_there : (files : Table) (i : ℕ) (index : Index) → i < 8 → get_or (mended_base files).indexes i None ≡ Some index → index_at (whole_catalog files) i ≡ Some index
index_there files i index below e =
    by_test (is_tree (index_at (whole_catalog files) i) && not (is_there (tree_file i) files)) (index_at (whole_catalog files) i) (sym (index_mended_at files i below) ∙ e)
  where
    by_test : (b : Bool) (o : Option Index) → (if b then None else o) ≡ Some index → o ≡ Some index
    by_test true o e = cc
    by_test false o e = e

-- ---- whole catalogs

pub whole_sized : (bytes : List ℕ) → IsCatalogSize (length bytes) → whole_bytes bytes ≡ bytes
whole_sized bytes size =
    ⊎_elim
    (λ e. none bytes e)
    (λ more. ⊎_elim
    (λ e. ap (λ (n : ℕ). if nat_lt n 1472 then [] else bytes) e)
    (λ e. ap (λ (n : ℕ). if nat_lt n 1472 then [] else bytes) e) more)
    size
  where
    none : (xs : List ℕ) → length xs ≡ 0 → whole_bytes xs ≡ xs
    none [] e = refl
    none (x ∷ xs) e = absurd (omega (arith, e))

pub whole_long : (bytes : List ℕ) → 1472 ≤ length bytes → whole_bytes bytes ≡ bytes
whole_long bytes long = ap (λ (b : Bool). if b then [] else bytes) (lt_false (length bytes) 1472 long)

pub whole_short : (bytes : List ℕ) → length bytes < 1472 → whole_bytes bytes ≡ []
whole_short bytes short = ap (λ (b : Bool). if b then [] else bytes) (lt_true (length bytes) 1472 short)

-- without a whole catalog there is nothing
pub mended_none : (files : Table) → whole_catalog files ≡ [] → mended_base files ≡ empty_database
unfolding mended_base mended_catalog
mended_none files e = rw e refl

-- ---- what a store mends to
