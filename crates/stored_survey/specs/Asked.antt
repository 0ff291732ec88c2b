-- What is asked of the slots of a catalog, of rows and of trees, beside what is half done.
use Rattle.std.specs.Prelude.{◌≡◌, ◌⊎◌, ◌<◌, ◌+◌, ◌*◌, ℕ, true, false, List, [], get_or, take, Option, Some, None, is_some, slice_range}
use Rattle.afl_base.specs.Files.{Table}
use Rattle.catalog.specs.declared.types.Catalog.{Catalog}
use Rattle.catalog.specs.CatalogFile.{indexes_in}
use Rattle.catalog.specs.Rules.{breaks_index, is_named_among, is_tree}
use Rattle.db_model.specs.declared.schemas.Schema.{Schema}
use Rattle.db_model.specs.Catalog.{Index, catalog_of}
use Rattle.space_model.specs.FileNames.{bytes_named, is_there, rows_file, tree_file}
use Rattle.stored.specs.CutTables.{HoldsRowsOr, IsHalfDone, IsIndexWhile, IsSlot, index_read, relation, slot_bytes}
use Rattle.stored.specs.Mended.{mended_catalog, whole_catalog}
use Rattle.stored.specs.declared.half.Half.{Half}
use Rattle.stored.specs.declared.half.Half.TheVariants.{Emptying, Growing, LoneRows, Treeless, LoneTree}
use Rattle.stored_mend.specs.Slots.{IsReadSlot}
use Rattle.stored_survey.specs.Shown.{keys_mended}

-- a catalog in memory is what the slots are read as, and each of them may be read so
pub record IsReadAs (files : Table) (catalog : Catalog) : Type 0 where
  pub version : catalog.version ≡ (mended_catalog files).version
  pub relations : catalog.relations ≡ (mended_catalog files).relations
  pub indexes : indexes_in catalog.indexes ≡ (catalog_of (whole_catalog files)).indexes
  pub slots : (k : ℕ) (schema : Schema) → k < 8 → relation files k ≡ Some schema → IsReadSlot (slot_bytes files k) schema
  pub behind : (i : ℕ) → i < 8 → breaks_index (whole_catalog files) i ≡ false

-- the slots of a catalog's bytes are read as these relations
abbrev pub AreReadSlots : List ℕ → List (Option Schema) → Type 0
AreReadSlots bytes relations = (k : ℕ) (schema : Schema) → k < 8 → get_or relations k None ≡ Some schema
    → IsReadSlot (slice_range bytes (176 * k) (176 * k + 176)) schema

-- nothing can be half done beside which all else is sound
abbrev pub HasNoHalf : Table → Type 0
HasNoHalf files = (half : Half) → IsHalfDone files half → ⊥

-- of a relation slot and its rows
pub record IsSoundBeside (files : Table) (half : Half) (k : ℕ) : Type 0 where
  pub slot : IsSlot half (mended_catalog files).version k (slot_bytes files k) (relation files k)
  pub named_once : is_named_among (relation files k) (take k (mended_catalog files).relations) ≡ false
  pub rows_there : (is_some (relation files k) ≡ true) ⊎ (half ≡ Emptying k) → is_there (rows_file k) files ≡ true
  pub rows_lone : is_there (rows_file k) files ≡ true → (is_some (relation files k) ≡ true) ⊎ ((half ≡ LoneRows k) ⊎ (half ≡ Emptying k))
  pub grown : half ≡ Growing k → bytes_named (rows_file k) files ≡ []
  pub rows : (schema : Schema) → relation files k ≡ Some schema
      → HoldsRowsOr half (mended_catalog files).version k schema.attributes (bytes_named (rows_file k) files)

-- of an index slot and its tree
pub record IsKeptBeside (files : Table) (half : Half) (i : ℕ) : Type 0 where
  pub tree_there : is_tree (index_read files i) ≡ true → (is_there (tree_file i) files ≡ true) ⊎ (half ≡ Treeless i)
  pub tree_lone : is_there (tree_file i) files ≡ true → (is_tree (index_read files i) ≡ true) ⊎ ((half ≡ LoneTree i) × (index_read files i ≡ None))
  pub keys : (index : Index) → get_or (mended_catalog files).indexes i None ≡ Some index
      → IsIndexWhile half index (bytes_named (tree_file i) files) (keys_mended files index)

-- of all slots
abbrev pub AreSoundBeside : Table → Half → Type 0
AreSoundBeside files half = (k : ℕ) → k < 8 → IsSoundBeside files half k

abbrev pub AreKeptBeside : Table → Half → Type 0
AreKeptBeside files half = (i : ℕ) → i < 8 → IsKeptBeside files half i
