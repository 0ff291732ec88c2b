-- What the catalog and its files are while they are repaired.
use Rattle.std.specs.Prelude.{◌≡◌, ◌≢◌, ◌⊎◌, ⊤, ◌<◌, ◌≤◌, ℕ, ◌+◌, true, false, [], length, get_or, None, Some}
use Rattle.afl_base.specs.Files.{File, IsNamed, Table, file_at, place}
use Rattle.afl_base.specs.declared.kind.Kind.TheVariants.{Fixed}
use Rattle.catalog.specs.Rules.{breaks_files, broken_catalog, catalog_bytes_in, catalog_in, first, has_form, is_stranger, is_tree}
use Rattle.db_model.specs.Catalog.{version_of}
use Rattle.space_model.specs.FileNames.{catalog_file, is_there, rows_file, tree_file}
use Rattle.stored.specs.CutTables.{IsHalfDone, IsTimed}
use Rattle.stored.specs.Mended.{mended_catalog}
use Rattle.stored.specs.declared.half.Half.{Half}
use Rattle.stored.specs.declared.half.Half.TheVariants.{Nothing, Emptying, Growing, LoneRows, Treeless, LoneTree, AddingRow, AddingKey}

-- ---- a catalog that is written

-- a catalog of all slots, not longer than that of version 2, in a file of its kind
pub record HasWrittenCatalog (files : Table) : Type 0 where
  pub whole : 1472 ≤ length (catalog_bytes_in files)
  pub most : length (catalog_bytes_in files) ≤ 1480
  pub kind : (id : ℕ) → id < 32 → IsNamed files id catalog_file → (file_at files id).kind ≡ Fixed 6

-- the rules 14 to 18 are kept but in one thing: the tree of the index in this slot is not there
pub record LacksTree (files : Table) (slot : ℕ) : Type 0 where
  pub known : first 32 (is_stranger files) ≡ None
  pub catalog : broken_catalog (catalog_bytes_in files) ≡ None
  pub others : (k : ℕ) → k < 16 → k ≢ 8 + slot → breaks_files files (catalog_in files).relations (catalog_in files).indexes k ≡ false
  pub tree : is_tree (get_or (catalog_in files).indexes slot None) ≡ true
  pub gone : is_there (tree_file slot) files ≡ false

-- ---- the files of a cut, while they are repaired

-- no catalog is written: no file stands but its own and that of the rows in slot 0, both empty, and not even these rows
-- once some slots were gone through
pub record IsBare (files : Table) (rows : ℕ) : Type 0 where
  pub none : catalog_bytes_in files ≡ []
  pub alone : (id : ℕ) (f : File) → place files id ≡ Some f → (f.name ≡ catalog_file) ⊎ ((f.name ≡ rows_file 0) × (f.bytes ≡ []))
  pub gone : 0 < rows → is_there (rows_file 0) files ≡ false

-- what a cut leaves, but for a catalog that was being begun
pub record IsTakenBack (files : Table) : Type 0 where
  pub known : (id : ℕ) → is_stranger files id ≡ false
  pub left : IsBare files 0 ⊎ ((half : Half) × IsHalfDone files half)

-- the catalog has the form of the version that it mends to
abbrev pub IsMarked : Table → Type 0
IsMarked files = (has_form (catalog_bytes_in files) ≡ true) × (version_of (catalog_bytes_in files) ≡ (mended_catalog files).version)

-- or it lacks the mark for the TIME of a relation, which stands in none of so many first slots
abbrev pub IsMarkedTo : Table → ℕ → Type 0
IsMarkedTo files relations = IsMarked files ⊎ ((timed : IsTimed files) × (relations ≤ timed.k))

-- no file becomes one that no database has
abbrev pub KeepsKnown : (old new : Table) → Type 0
KeepsKnown old new = (id : ℕ) → is_stranger new id ≡ is_stranger old id

-- one thing is half done, and the mark is not
pub record IsMarkedHalf (files : Table) (half : Half) : Type 0 where
  pub done : IsHalfDone files half
  pub marked : IsMarked files

-- how far a catalog and its files are repaired: so many first slots of each kind
pub record Reach : Type 0 where
  pub relations : ℕ
  pub indexes : ℕ
  pub rows : ℕ
  pub trees : ℕ

-- the slots of relations are repaired first
abbrev pub relations_below : ℕ → Reach
relations_below slot = record { relations = slot; indexes = 0; rows = 0; trees = 0 }

-- those of indexes when they all are
abbrev pub indexes_below : ℕ → Reach
indexes_below slot = record { relations = 8; indexes = slot; rows = 0; trees = 0 }

-- then files of rows that no slot asks for are removed
abbrev pub rows_below : ℕ → Reach
rows_below slot = record { relations = 8; indexes = 8; rows = slot; trees = 0 }

-- and trees at last
abbrev pub trees_below : ℕ → Reach
trees_below slot = record { relations = 8; indexes = 8; rows = 8; trees = slot }

-- what is half done lies in none of them
abbrev pub IsBeyond : Reach → Half → Type 0
IsBeyond reach (Emptying slot) = reach.relations ≤ slot
IsBeyond reach (Growing slot) = reach.relations ≤ slot
IsBeyond reach (Treeless slot) = reach.indexes ≤ slot
IsBeyond reach (LoneRows slot) = reach.rows ≤ slot
IsBeyond reach (LoneTree slot) = reach.trees ≤ slot
IsBeyond reach Nothing = ⊤
IsBeyond reach (AddingRow slot) = ⊤
IsBeyond reach (AddingKey slot) = ⊤

-- one thing at most is half done, and it lies ahead
pub record IsDoneTo (reach : Reach) (files : Table) (half : Half) : Type 0 where
  pub done : IsHalfDone files half
  pub ahead : IsBeyond reach half
  pub mark : IsMarkedTo files reach.relations

-- what a cut leaves, repaired so far
pub record IsListedTo (reach : Reach) (files : Table) : Type 0 where
  pub known : (id : ℕ) → is_stranger files id ≡ false
  pub left : IsBare files reach.rows ⊎ ((half : Half) × IsDoneTo reach files half)

-- repaired before a relation slot, and the mark stands if that relation needs it
pub record IsMarkedSlot (slot : ℕ) (files : Table) : Type 0 where
  pub listed : IsListedTo (relations_below slot) files
  pub mark : IsMarkedTo files (slot + 1)
