-- Trees of indexes that are put right, and what is lost where there is no room for one.
use Rattle.std.specs.Prelude.{◌≡◌, ◌≢◌, ◌⊎◌, ⊤, ℕ, ℤ, ◌<◌, List, length, get_or, Option, Some, None, IsTrue, true}
use Rattle.afl_base.specs.declared.kind.Kind.TheVariants.{Doubling}
use Rattle.afl_base.specs.Files.{Becomes, File, IsNamed, IsUnnamed, State, Table, bytes_at, file_at, place}
use Rattle.catalog.specs.Rules.{is_tree}
use Rattle.db_model.specs.Catalog.{Index}
use Rattle.db_model.specs.Database.{Database}
use Rattle.index_tree.specs.Trees.{IsTreeOf}
use Rattle.space_model.specs.FileNames.{bytes_named, file_named, is_there, tree_file}
use Rattle.stored.specs.Mended.{mended_base}

-- ---- files

-- a file of the name, which doubles
pub record IsDoublingOf (name : List ℕ) (f : File) : Type 0 where
  pub named : f.name ≡ name
  pub doubles : f.kind ≡ Doubling

-- no file has changed, come or gone but that of a name
pub record SparesButOne (old new : State) (name : List ℕ) : Type 0 where
  pub files : (n : List ℕ) → n ≢ name → file_named n new.files ≡ file_named n old.files
  pub draft : new.draft ≡ old.draft
  pub tells : new.tells ≡ old.tells

-- and that of the name doubles, where it is there
pub record SparesButTree (old new : State) (name : List ℕ) : Type 0 where
  pub spares : SparesButOne old new name
  pub known : (k : ℕ) (f : File) → place new.files k ≡ Some f → (place old.files k ≡ Some f) ⊎ IsDoublingOf name f

-- and it is there where it was there
pub record ChangesAtMost (old new : State) (name : List ℕ) : Type 0 where
  pub spares : SparesButTree old new name
  pub there : is_there name new.files ≡ is_there name old.files

-- a file has become the tree of some keys, where bytes are told, and all others are as before
pub record BecomesTree (old new : State) (file : ℕ) (keys : List ℤ) : Type 0 where
  pub bytes : List ℕ
  pub becomes : Becomes old new file (length bytes) bytes
  pub tree : IsTrue old.tells → IsTreeOf bytes keys

-- the file of a name is the tree of some keys, where bytes are told, and all others are as before
pub record BuildsTree (old new : State) (name : List ℕ) (keys : List ℤ) : Type 0 where
  pub id : ℕ
  pub named : IsNamed new.files id name
  pub only : (k : ℕ) → IsNamed new.files k name → k ≡ id
  pub tree : IsTrue old.tells → IsTreeOf (bytes_at new.files id) keys
  pub spares : SparesButTree old new name

-- the file of a name, where it was there and doubled, is the tree of some keys. There are 32 places
abbrev pub HasTreeNow : (old new : Table) → List ℕ → List ℤ → Type 0
HasTreeNow old new name keys = (k : ℕ) → IsNamed old k name → (k < 32 → (file_at old k).kind ≡ Doubling) → IsTreeOf (bytes_named name new) keys

-- ---- databases

-- an index is as before; or it had a tree and is gone, for a reason
abbrev pub StaysUnless : Type 0 → (old now : Option Index) → Type 0
StaysUnless reason old now = (now ≡ old) ⊎ ((is_tree old ≡ true) × (now ≡ None) × reason)

-- indexes that had a tree are gone, each for a reason, and all else is as before
pub record LosesTreesFor (reason : ℕ → Type 0) (old now : Database) : Type 0 where
  pub version : now.version ≡ old.version
  pub relations : now.relations ≡ old.relations
  pub cursors : now.cursors ≡ old.cursors
  pub slots : length now.indexes ≡ length old.indexes
  pub indexes : (slot : ℕ) → slot < 8 → StaysUnless (reason slot) (get_or old.indexes slot None) (get_or now.indexes slot None)

abbrev pub LosesTrees : (old now : Database) → Type 0
LosesTrees old now = LosesTreesFor (λ slot. ⊤) old now

-- what the files mend to stays, where bytes are told, but for indexes that had a tree
pub record KeepsButTrees (reason : ℕ → Type 0) (old new : State) : Type 0 where
  pub base : IsTrue old.tells → LosesTreesFor reason (mended_base old.files) (mended_base new.files)
  pub draft : new.draft ≡ old.draft
  pub tells : new.tells ≡ old.tells

-- there was a time when no extent of so many pages could be had, although the tree of a slot was removed
pub record LacksRoom {S : Type 0} (state : S → State) (lacking : S → ℕ → Type 0) (slot : ℕ) : Type 0 where
  pub at : S
  pub need : ℕ
  pub gone : IsUnnamed (state at).files (tree_file slot)
  pub lacks : lacking at need
