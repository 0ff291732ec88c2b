-- What a cut leaves of trees that are being put right.
use Rattle.std.specs.Prelude.{◌≡◌, ◌≢◌, ◌⊎◌, ◌<◌, ℕ, ℤ, Bool, true, false, List, length, get_or, IsTrue, Some, None}
use Rattle.afl_base.specs.Files.{IsUnnamed, State, Table, bytes_at}
use Rattle.afl_base.specs.Frames.{SparesOthers}
use Rattle.catalog.specs.declared.types.Catalog.{Catalog}
use Rattle.catalog.specs.Rules.{catalog_in, is_stranger}
use Rattle.db_model.specs.Catalog.{Index}
use Rattle.index_tree.specs.TreeFile.{NamesOnly}
use Rattle.index_tree.specs.Trees.{IsTreeOf}
use Rattle.space_model.specs.FileNames.{bytes_named, tree_file}
use Rattle.stored.specs.CutTables.{IsIndexWhile}
use Rattle.stored.specs.Sound.{keys_stored}
use Rattle.stored.specs.declared.half.Half.{Half}
use Rattle.stored_mend.specs.Complete.{HasCompleteIndexes, HasSlot, HasCompleteIndex, IsSoundButTrees}
use Rattle.stored_mend.specs.Trees.{BuildsTree, ChangesAtMost, SparesButTree}

-- ---- the file of one tree

-- no other file has changed, and the tree in this one is as before, or names so many slots alone
pub record MayPutKey (old after : State) (tree slots : ℕ) : Type 0 where
  pub others : SparesOthers old after (λ k. k ≢ tree)
  pub bytes : (bytes_at after.files tree ≡ bytes_at old.files tree) ⊎ ((0 < slots) × NamesOnly slots (bytes_at after.files tree))

-- the file of a name was not the tree of some keys, and names their slots alone
pub record NamesAlone (old after : Table) (name : List ℕ) (keys : List ℤ) : Type 0 where
  pub lacked : IsTreeOf (bytes_named name old) keys → ⊥
  pub some : 0 < length keys
  pub names : NamesOnly (length keys) (bytes_named name after)

-- no other file has changed, and that of the name is as before, or the tree of the keys, or names their slots alone
pub record MayMendTree (old after : State) (name : List ℕ) (keys : List ℤ) : Type 0 where
  pub changes : ChangesAtMost old after name
  pub tree : (bytes_named name after.files ≡ bytes_named name old.files)
      ⊎ (IsTreeOf (bytes_named name after.files) keys ⊎ NamesAlone old.files after.files name keys)

-- no other file has changed, and that of the name is gone, or the tree of the keys
abbrev pub MayReplaceTree : (old after : State) → List ℕ → List ℤ → Type 0
MayReplaceTree old after name keys = (IsUnnamed after.files name × SparesButTree old after name) ⊎ BuildsTree old after name keys

-- the file of a name is not the tree of some keys, and stays as it is
pub record StaysWithout (old new : Table) (name : List ℕ) (keys : List ℤ) : Type 0 where
  pub lacks : IsTreeOf (bytes_named name old) keys → ⊥
  pub same : bytes_named name new ≡ bytes_named name old

-- ---- all trees

-- all else is sound, and each index is complete, or names rows alone while a key was being put into the trees of its relation
pub record AreTreesWhile (files : Table) (half : Half) : Type 0 where
  pub known : (id : ℕ) → is_stranger files id ≡ false
  pub sound : IsSoundButTrees files
  pub trees : (i : ℕ) (index : Index) → get_or (catalog_in files).indexes i None ≡ Some index
      → IsIndexWhile half index (bytes_named (tree_file i) files) (keys_stored files index)

-- the index in a slot is not complete, and its tree stays as it is
pub record IndexWaits (old new : Table) (slot : ℕ) : Type 0 where
  pub incomplete : HasCompleteIndex old slot → ⊥
  pub same : bytes_named (tree_file slot) new ≡ bytes_named (tree_file slot) old

-- all indexes but that of a slot are complete
abbrev pub AreCompleteBut : Table → ℕ → Type 0
AreCompleteBut files slot = (j : ℕ) → j ≢ slot → HasCompleteIndex files j

-- a catalog in memory has the slot, and all trees but its own are as they should be: it alone may be removed
pub record MayRemoveTree (files : Table) (catalog : Catalog) (half : Half) (slot : ℕ) : Type 0 where
  pub here : HasSlot files catalog slot
  pub trees : AreTreesWhile files half
  pub others : AreCompleteBut files slot

-- a catalog in memory has the slot; where one tree waits alone, all others are as they should be
pub record MayMakeRoom (files : Table) (catalog : Catalog) (half : Half) (slot : ℕ) (alone : Bool) : Type 0 where
  pub here : HasSlot files catalog slot
  pub trees : AreTreesWhile files half
  pub others : alone ≡ true → (waits : ℕ) × AreCompleteBut files waits

-- ---- steps, where bytes are told

-- trees stay as complete as they were while a key was being put into them, or become so
pub record KeepsTrees (old new : State) (catalog : Catalog) : Type 0 where
  pub trees : IsTrue old.tells → (half : Half) → HasCompleteIndexes old.files catalog 0 → AreTreesWhile old.files half → AreTreesWhile new.files half

-- the indexes of the first slots are complete, but for one
pub record CompletesBut (old new : State) (catalog : Catalog) (upto waits : ℕ) : Type 0 where
  pub complete : IsTrue old.tells → HasCompleteIndexes old.files catalog 0 → (j : ℕ) → j < upto → j ≢ waits → HasCompleteIndex new.files j
