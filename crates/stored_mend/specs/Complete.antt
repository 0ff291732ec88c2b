-- Files that are sound but for trees, while these are made complete one after another.
use Rattle.std.specs.Prelude.{◌≡◌, ◌≢◌, ◌<◌, ◌≤◌, ℕ, ℤ, List, get_or, IsTrue, Some, None}
use Rattle.afl_base.specs.Files.{State, Table}
use Rattle.catalog.specs.declared.types.Catalog.{Catalog}
use Rattle.catalog.specs.CatalogFile.{indexes_in}
use Rattle.catalog.specs.Rules.{catalog_in, first_broken}
use Rattle.db_model.specs.declared.schemas.IndexKind.TheVariants.{MaxHeap}
use Rattle.db_model.specs.Catalog.{Index}
use Rattle.space_model.specs.FileNames.{bytes_named, tree_file}
use Rattle.stored.specs.Sound.{IsIndexComplete, KeepsIndex, KeepsRows, keys_stored}
use Rattle.stored_mend.specs.Listed.{LacksTree}
use Rattle.stored_mend.specs.Trees.{SparesButTree}

-- the rules 14 to 19 are kept, and so is rule 20 by all indexes without a tree
pub record IsSoundButTrees (files : Table) : Type 0 where
  pub catalog : first_broken files ≡ None
  pub rows : (slot : ℕ) → slot < 8 → KeepsRows files slot
  pub treeless : (slot : ℕ) (index : Index) → get_or (catalog_in files).indexes slot None ≡ Some index → index.kind ≢ MaxHeap
      → IsIndexComplete index.kind (bytes_named (tree_file slot) files) (keys_stored files index)

-- a catalog in memory has the relations of the files, and their index in a slot
pub record HasSlot (files : Table) (catalog : Catalog) (slot : ℕ) : Type 0 where
  pub relations : catalog.relations ≡ (catalog_in files).relations
  pub index : get_or (indexes_in catalog.indexes) slot None ≡ get_or (catalog_in files).indexes slot None

-- the index in a slot is complete, or there is none
pub record HasCompleteIndex (files : Table) (slot : ℕ) : Type 0 where
  pub keeps : KeepsIndex files slot

-- these are the keys of the index in a slot, which has a tree
pub record AreKeysIn (files : Table) (slot : ℕ) (zs : List ℤ) : Type 0 where
  pub index : Index
  pub stands : get_or (catalog_in files).indexes slot None ≡ Some index
  pub kind : index.kind ≡ MaxHeap
  pub same : zs ≡ keys_stored files index

-- the indexes of the first slots are complete, and a catalog in memory has those of all others
pub record HasCompleteIndexes (files : Table) (catalog : Catalog) (slot : ℕ) : Type 0 where
  pub sound : IsSoundButTrees files
  pub first : (j : ℕ) → j < slot → HasCompleteIndex files j
  pub rest : (j : ℕ) → slot ≤ j → HasSlot files catalog j

-- the index of a slot is gone from the catalog, which is sound, and whose version and other slots are as before
pub record LosesIndex (old new : Table) (slot : ℕ) : Type 0 where
  pub sound : first_broken new ≡ None
  pub version : (catalog_in new).version ≡ (catalog_in old).version
  pub relations : (catalog_in new).relations ≡ (catalog_in old).relations
  pub gone : get_or (catalog_in new).indexes slot None ≡ None
  pub indexes : (j : ℕ) → j ≢ slot → get_or (catalog_in new).indexes j None ≡ get_or (catalog_in old).indexes j None

-- all but the tree of a slot stays sound, and all other slots have the indexes that they had, as complete as they were
pub record SparesOtherIndexes (old new : Table) (slot : ℕ) : Type 0 where
  pub sound : IsSoundButTrees new
  pub relations : (catalog_in new).relations ≡ (catalog_in old).relations
  pub indexes : (j : ℕ) → j ≢ slot → get_or (catalog_in new).indexes j None ≡ get_or (catalog_in old).indexes j None
  pub complete : (j : ℕ) → j ≢ slot → HasCompleteIndex old j → HasCompleteIndex new j

-- and the index of the slot is complete, or gone
pub record SettlesIndex (old new : Table) (slot : ℕ) : Type 0 where
  pub spares : SparesOtherIndexes old new slot
  pub here : HasCompleteIndex new slot

-- ---- steps, where bytes are told

-- where a catalog in memory has a slot, and all but trees is sound, the index of the slot is complete then
pub record CompletesSlot (old new : State) (catalog : Catalog) (slot : ℕ) : Type 0 where
  pub complete : IsTrue old.tells → HasSlot old.files catalog slot → IsSoundButTrees old.files → HasCompleteIndex new.files slot

-- or it is gone from the catalog
pub record SettlesSlot (old new : State) (catalog : Catalog) (slot : ℕ) : Type 0 where
  pub settles : IsTrue old.tells → HasSlot old.files catalog slot → IsSoundButTrees old.files → SettlesIndex old.files new.files slot

-- its tree is gone, and no other file has changed
pub record LosesTree (old new : State) (catalog : Catalog) (slot : ℕ) : Type 0 where
  pub spares : SparesButTree old new (tree_file slot)
  pub lacks : IsTrue old.tells → HasSlot old.files catalog slot → IsSoundButTrees old.files → LacksTree new.files slot

-- the indexes of the first slots are complete
pub record CompletesFirst (old new : State) (catalog : Catalog) (slot : ℕ) : Type 0 where
  pub complete : IsTrue old.tells → HasCompleteIndexes old.files catalog 0 → HasCompleteIndexes new.files catalog slot
