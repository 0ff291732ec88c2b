-- What stands in the files of a database where something is half done.
use Rattle.std.specs.Prelude.{◌≡◌, ◌≢◌, ◌<◌, ◌%◌, ℕ, ℤ, true, false, List, length, Option, Some, None}
use Rattle.afl_base.specs.Files.{Table}
use Rattle.catalog.specs.Rules.{is_tree}
use Rattle.db_model.specs.declared.schemas.IndexKind.TheVariants.{MaxHeap}
use Rattle.db_model.specs.declared.schemas.Schema.{Schema}
use Rattle.db_model.specs.Catalog.{Index, relation_slot_bytes}
use Rattle.db_model.specs.Row.{row_length}
use Rattle.db_model.specs.Step.{keys}
use Rattle.index_tree.specs.Trees.{IsTreeOf}
use Rattle.space_model.specs.Enough.{rows_in}
use Rattle.space_model.specs.FileNames.{bytes_named, is_there, rows_file, tree_file}
use Rattle.stored.specs.CutTables.{index_read, relation, slot_bytes}
use Rattle.stored.specs.Mended.{mended_base}
use Rattle.stored.specs.declared.half.Half.{Half}
use Rattle.stored.specs.declared.half.Half.TheVariants.{Nothing, Emptying, Growing, LoneRows, Treeless, LoneTree, AddingRow, AddingKey}

-- the keys of an index, of all whole rows of its relation
abbrev pub keys_mended : Table → Index → List ℤ
keys_mended files index = keys index.attribute (rows_in (mended_base files) index.relation)

-- the tree in a slot is that of the keys of its index
abbrev pub HasTreeOfKeys : Table → ℕ → Index → Type 0
HasTreeOfKeys files i index = IsTreeOf (bytes_named (tree_file i) files) (keys_mended files index)

-- ---- where nothing is

-- a slot without a relation is an unused one, and no rows stand there; that of a relation is a whole one, and so are its rows
abbrev pub IsSettledSlot : Table → ℕ → Option Schema → Type 0
IsSettledSlot files k None = (slot_bytes files k ≡ relation_slot_bytes None) × (is_there (rows_file k) files ≡ false)
IsSettledSlot files k (Some schema) =
    (slot_bytes files k ≡ relation_slot_bytes (Some schema)) × (length (bytes_named (rows_file k) files) % row_length schema.attributes ≡ 0)

-- a tree stands in the slot of an index that has one, and is that of its keys; and in none without an index
abbrev pub IsSettledIndex : Table → ℕ → Option Index → Type 0
IsSettledIndex files i None = is_there (tree_file i) files ≡ false
IsSettledIndex files i (Some index) = index.kind ≡ MaxHeap
    → (is_there (tree_file i) files ≡ true) × (is_there (rows_file index.relation) files ≡ true → HasTreeOfKeys files i index)

-- ---- where something is

-- the tree of an index of the relation is not that of its keys
pub record LacksSomeKey (files : Table) (r : ℕ) : Type 0 where
  pub i : ℕ
  pub below : i < 8
  pub index : Index
  pub stands : index_read files i ≡ Some index
  pub kind : index.kind ≡ MaxHeap
  pub on : index.relation ≡ r
  pub there : is_there (tree_file i) files ≡ true
  pub lacks : is_there (rows_file r) files ≡ true → HasTreeOfKeys files i index → ⊥

-- in the files of a catalog that has all slots this is seen to be half done
abbrev pub Shows : Table → Half → Type 0
Shows files Nothing = ((k : ℕ) → k < 8 → IsSettledSlot files k (relation files k)) × ((i : ℕ) → i < 8 → IsSettledIndex files i (index_read files i))
Shows files (Emptying k) = (k < 8) × (relation files k ≡ None) × (slot_bytes files k ≢ relation_slot_bytes None)
Shows files (LoneRows k) = (k < 8) × (relation files k ≡ None) × (slot_bytes files k ≡ relation_slot_bytes None) × (is_there (rows_file k) files ≡ true)
Shows files (Growing k) = (k < 8) × (schema : Schema) × (relation files k ≡ Some schema) × (slot_bytes files k ≢ relation_slot_bytes (Some schema))
Shows files (AddingRow k) =
    (k < 8) × (schema : Schema) × (relation files k ≡ Some schema) × (length (bytes_named (rows_file k) files) % row_length schema.attributes ≢ 0)
Shows files (Treeless i) = (i < 8) × (is_tree (index_read files i) ≡ true) × (is_there (tree_file i) files ≡ false)
Shows files (LoneTree i) = (i < 8) × (index_read files i ≡ None) × (is_there (tree_file i) files ≡ true)
Shows files (AddingKey r) = LacksSomeKey files r

-- what is seen of the slot of a relation, or of an index: its case of what is half done, or that nothing is
abbrev pub ShowsSlot : Table → ℕ → Half → Type 0
ShowsSlot files k half = (half ≡ Nothing → IsSettledSlot files k (relation files k)) × (half ≢ Nothing → Shows files half)

abbrev pub ShowsIndex : Table → ℕ → Half → Type 0
ShowsIndex files i half = (half ≡ Nothing → IsSettledIndex files i (index_read files i)) × (half ≢ Nothing → Shows files half)

-- and of all slots
abbrev pub ShowsSlots : Table → Half → Type 0
ShowsSlots files half = (half ≡ Nothing → (k : ℕ) → k < 8 → IsSettledSlot files k (relation files k)) × (half ≢ Nothing → Shows files half)

abbrev pub ShowsIndexes : Table → Half → Type 0
ShowsIndexes files half = (half ≡ Nothing → (i : ℕ) → i < 8 → IsSettledIndex files i (index_read files i)) × (half ≢ Nothing → Shows files half)
