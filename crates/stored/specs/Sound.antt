-- When the files of a database are sound: the rules 14 to 20 of an image.
use Rattle.std.specs.Prelude.{◌≡◌, ◌≤◌, ◌<◌, ◌⊎◌, ℕ, ℤ, List, length, get_or, Some, None}
use Rattle.afl_base.specs.Files.{Table}
use Rattle.catalog.specs.Rules.{catalog_in, first_broken}
use Rattle.db_model.specs.declared.schemas.IndexKind.{IndexKind}
use Rattle.db_model.specs.declared.schemas.IndexKind.TheVariants.{Inline, MaxHeap, MemHash}
use Rattle.db_model.specs.declared.schemas.Schema.{Schema}
use Rattle.db_model.specs.Catalog.{Index}
use Rattle.db_model.specs.Step.{first_fall, keys}
use Rattle.index_tree.specs.Trees.{IsTreeOf}
use Rattle.space_model.specs.Enough.{rows_in}
use Rattle.space_model.specs.FileNames.{bytes_named, rows_file, tree_file}
use Rattle.tuple_file.specs.Tuples.{AreRows}
use Rattle.stored.specs.Base.{base_of}

-- rule 19: the file of a relation holds whole rows, at most as many as the catalog's version has slots, and none where
-- the relation has no attribute
abbrev pub KeepsRows : Table → ℕ → Type 0
KeepsRows files slot = (schema : Schema) → get_or (catalog_in files).relations slot None ≡ Some schema
    → AreRows (catalog_in files).version schema.attributes (bytes_named (rows_file slot) files)

-- rule 20: an index is complete for the keys of all slots. INLINE: they do not fall. MAXHEAP: its file is their hash tree.
-- MEMHASH: they are at most 2,048
abbrev pub IsIndexComplete : IndexKind → List ℕ → List ℤ → Type 0
IsIndexComplete Inline bytes keys = first_fall keys ≡ None
IsIndexComplete MaxHeap bytes keys = IsTreeOf bytes keys
IsIndexComplete MemHash bytes keys = length keys ≤ 2048

abbrev pub keys_stored : Table → Index → List ℤ
keys_stored files index = keys index.attribute (rows_in (base_of files) index.relation)

abbrev pub KeepsIndex : Table → ℕ → Type 0
KeepsIndex files slot = (index : Index) → get_or (catalog_in files).indexes slot None ≡ Some index
    → IsIndexComplete index.kind (bytes_named (tree_file slot) files) (keys_stored files index)

pub record IsSoundTable (files : Table) : Type 0 where
  -- 14: each file is the catalog, the rows of a relation or a tree, and of its kind
  -- 15: the catalog is absent, empty, or of the size of a version
  -- 16: a relation slot has a slot's form, with AQL names, at most 128 bytes a row, and distinct names
  -- 17: an index slot has a slot's form, and its index is on an attribute that its kind allows; no two on one attribute;
  --     at most as many hash tables as there is memory for
  -- 18: a relation has its file of rows and a tree its file, and no other slot has one
  pub catalog : first_broken files ≡ None
  -- 19: the rows of a relation are whole, few, and none without attributes
  pub rows : (slot : ℕ) → slot < 8 → KeepsRows files slot
  -- 20: each index is complete
  pub indexes : (slot : ℕ) → slot < 8 → KeepsIndex files slot

-- ---- the first broken rule

-- a rule is kept at the slots before this one, and broken here
pub record IsFirst (Keeps : ℕ → Type 0) (slot : ℕ) : Type 0 where
  pub within : slot < 8
  pub before : (k : ℕ) → k < slot → Keeps k
  pub broken : Keeps slot → ⊥

pub record BreaksRows (files : Table) (rule place : ℕ) : Type 0 where
  pub catalog : first_broken files ≡ None
  pub rule_is : rule ≡ 19
  pub first : IsFirst (KeepsRows files) place

pub record BreaksIndex (files : Table) (rule place : ℕ) : Type 0 where
  pub catalog : first_broken files ≡ None
  pub rows : (slot : ℕ) → slot < 8 → KeepsRows files slot
  pub rule_is : rule ≡ 20
  pub first : IsFirst (KeepsIndex files) place

-- of the rules 14 to 20 this is the first that is broken, and its first place
abbrev pub BreaksFirst : Table → (rule place : ℕ) → Type 0
BreaksFirst files rule place =
    (first_broken files ≡ Some (rule, place)) ⊎ (BreaksRows files rule place ⊎ BreaksIndex files rule place)
