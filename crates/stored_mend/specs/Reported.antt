-- Which lines a report has: one exactly where something was changed.
use Rattle.std.specs.Prelude.{◌≡◌, ◌≢◌, ◌⊎◌, ⊤, ℕ, ℤ, ◌+◌, ◌-◌, ◌*◌, ◌<◌, ◌≤◌, false, List, [], ◌∷◌, ◌++◌, AllPairs, Contains, length, nat_lt, replicate, slice_get, slice_range, option_map, Option, Some, None, if◌then◌else◌}
use Rattle.afl_base.specs.Files.{File, State, Table}
use Rattle.catalog.specs.Rules.{catalog_bytes_in, is_tree}
use Rattle.db_model.specs.declared.schemas.Attribute.{Attribute}
use Rattle.db_model.specs.declared.schemas.IndexKind.TheVariants.{MaxHeap}
use Rattle.db_model.specs.declared.schemas.Schema.{Schema}
use Rattle.db_model.specs.Catalog.{Index, index_at, relation_at, relation_slot_bytes}
use Rattle.index_tree.specs.Trees.{IsTreeOf}
use Rattle.space_model.specs.FileNames.{bytes_named, catalog_file, file_named, rows_file, size_in, tree_file}
use Rattle.stored.specs.CutTables.{slot_bytes}
use Rattle.stored.specs.Mended.{whole_catalog}
use Rattle.stored_mend.specs.Complete.{HasCompleteIndex, IsSoundButTrees}
use Rattle.stored_mend.specs.Mending.{IsStrangeSlot}
use Rattle.stored_mend.specs.Rows.{whole_length}
use Rattle.stored_mend.specs.declared.report.Mended.{Mended as AnyMended}
use Rattle.stored_mend.specs.declared.report.Mended.TheVariants.{Catalog, Mark, Relation, Attribute as OneAttribute, Row, Tree, Index as OneIndex, Stray}

-- ---- what is seen in files

-- the relation, and the index, that a slot of the catalog is read as
abbrev pub relation_seen : Table → ℕ → Option Schema
relation_seen files k = relation_at (whole_catalog files) k

abbrev pub index_seen : Table → ℕ → Option Index
index_seen files i = index_at (whole_catalog files) i

-- the bytes of the file of a name, None where it is not there
abbrev pub bytes_by_name : List ℕ → Table → Option (List ℕ)
bytes_by_name name files = option_map (λ (f : File). f.bytes) (file_named name files)

-- an index and its tree
abbrev pub tree_seen : Table → ℕ → Option Index × Option (List ℕ)
tree_seen files i = (index_seen files i, bytes_by_name (tree_file i) files)

-- ---- what a line tells

-- the catalog's file was shorter than a whole one, and is gone
pub record IsCatalogGone (old new : Option ℕ) : Type 0 where
  pub size : ℕ
  pub was : old ≡ Some size
  pub some : 0 < size
  pub short : size < 1472
  pub gone : new ≡ None

-- the catalog's file is longer than before
pub record IsCatalogLonger (old new : Option ℕ) : Type 0 where
  pub before : ℕ
  pub after : ℕ
  pub was : old ≡ Some before
  pub now : new ≡ Some after
  pub more : before < after

-- a slot without a relation has other bytes, or its rows were there; and these are not there any more
pub record IsRelationGone (old new : Table) (k : ℕ) : Type 0 where
  pub below : k < 8
  pub unused : relation_seen old k ≡ None
  pub gone : bytes_by_name (rows_file k) new ≡ None
  pub changed : (slot_bytes new k ≢ slot_bytes old k) ⊎ (bytes_by_name (rows_file k) old ≢ None)

-- a slot has a relation of the name
pub record IsSlotOf (files : Table) (k : ℕ) (name : List ℕ) : Type 0 where
  pub below : k < 8
  pub schema : Schema
  pub stands : relation_seen files k ≡ Some schema
  pub named : schema.name ≡ name

-- the slot of the relation of a name has other bytes
pub record IsSlotChanged (old new : Table) (name : List ℕ) : Type 0 where
  pub k : ℕ
  pub slot : IsSlotOf old k name
  pub changed : slot_bytes new k ≢ slot_bytes old k

-- its rows have other bytes
pub record AreRowsChanged (old new : Table) (name : List ℕ) : Type 0 where
  pub k : ℕ
  pub slot : IsSlotOf old k name
  pub changed : bytes_by_name (rows_file k) new ≢ bytes_by_name (rows_file k) old

-- an index stands on the attribute of a relation, by their names
pub record IsOn (files : Table) (index : Index) (name attribute : List ℕ) : Type 0 where
  pub below : index.relation < 8
  pub schema : Schema
  pub stands : relation_seen files index.relation ≡ Some schema
  pub named : schema.name ≡ name
  pub place : Attribute
  pub placed : slice_get schema.attributes index.attribute ≡ Some place
  pub called : place.name ≡ attribute

-- so does the index in a slot
pub record IsIndexOn (files : Table) (i : ℕ) (index : Index) (name attribute : List ℕ) : Type 0 where
  pub below : i < 8
  pub stands : index_seen files i ≡ Some index
  pub on : IsOn files index name attribute

-- an index that has a tree stays, and its tree has other bytes
pub record IsTreeChanged (old new : Table) (name attribute : List ℕ) : Type 0 where
  pub i : ℕ
  pub index : Index
  pub on : IsIndexOn old i index name attribute
  pub kind : index.kind ≡ MaxHeap
  pub stays : index_seen new i ≡ Some index
  pub changed : bytes_by_name (tree_file i) new ≢ bytes_by_name (tree_file i) old

-- an index is gone
pub record IsIndexGone (old new : Table) (name attribute : List ℕ) : Type 0 where
  pub i : ℕ
  pub index : Index
  pub on : IsIndexOn old i index name attribute
  pub gone : index_seen new i ≡ None

-- the tree of a slot without an index that has one is gone
pub record IsTreeGone (old new : Table) (i : ℕ) : Type 0 where
  pub below : i < 8
  pub treeless : is_tree (index_seen old i) ≡ false
  pub was : bytes_by_name (tree_file i) old ≢ None
  pub gone : bytes_by_name (tree_file i) new ≡ None

-- what is told was done
abbrev pub IsDone : (old new : Table) → AnyMended → Type 0
IsDone old new Catalog = IsCatalogGone (size_in old catalog_file) (size_in new catalog_file)
IsDone old new Mark = IsCatalogLonger (size_in old catalog_file) (size_in new catalog_file)
IsDone old new (Relation k) = IsRelationGone old new k
IsDone old new (OneAttribute name) = IsSlotChanged old new name
IsDone old new (Row name) = AreRowsChanged old new name
IsDone old new (Tree name attribute) = IsTreeChanged old new name attribute
IsDone old new (OneIndex name attribute) = IsIndexGone old new name attribute
IsDone old new (Stray i) = IsTreeGone old new i

-- there is one line for all that was done, and none for anything else
pub record IsReported (old new : Table) (lines : List AnyMended) : Type 0 where
  pub done : (line : AnyMended) → Contains lines line → IsDone old new line
  pub told : (line : AnyMended) → IsDone old new line → Contains lines line
  pub apart : AllPairs (λ line other. line ≢ other) lines

-- no two relations have one name, and no two indexes stand on one attribute, by their names
pub record HasNamesApart (files : Table) : Type 0 where
  pub relations : (k j : ℕ) (name : List ℕ) → IsSlotOf files k name → IsSlotOf files j name → k ≡ j
  pub indexes : (i j : ℕ) (index other : Index) (name attribute : List ℕ) → IsIndexOn files i index name attribute → IsIndexOn files j other name attribute
      → i ≡ j

-- ---- a step of the work

-- a thing stays, or it was not right and is
abbrev pub StaysOrIsRight : {X : Type 0} → (X → Type 0) → (old new : X) → Type 0
StaysOrIsRight IsRight old new = (new ≡ old) ⊎ ((IsRight old → ⊥) × IsRight new)

-- no catalog, or a marked one
abbrev pub IsRightCatalog : Option ℕ → Type 0
IsRightCatalog size = (size ≡ None) ⊎ (size ≡ Some 1480)

-- an unused slot, or none, or zeros behind the attributes
abbrev pub IsRightSlot : Option Schema → List ℕ → Type 0
IsRightSlot None slot = (slot ≡ relation_slot_bytes None) ⊎ (slot ≡ [])
IsRightSlot (Some schema) slot =
    slice_range slot (16 + 18 * length schema.attributes) 160 ≡ replicate (144 - 18 * length schema.attributes) 0

-- no rows without a relation, and whole rows of one
abbrev pub AreRightRows : Option Schema → Option (List ℕ) → Type 0
AreRightRows None rows = rows ≡ None
AreRightRows (Some schema) rows = (bytes : List ℕ) → rows ≡ Some bytes → whole_length schema.attributes bytes ≡ length bytes

-- no tree, and no index that has one
abbrev pub IsRightTree : Option Index × Option (List ℕ) → Type 0
IsRightTree tree = (is_tree tree.0 ≡ false) × (tree.1 ≡ None)

-- an index stays, or is gone
abbrev pub IsKeptOrGone : (old new : Option Index) → Type 0
IsKeptOrGone old new = (new ≡ old) ⊎ (new ≡ None)

-- rows without a relation stay, or their slot is right
abbrev pub StaysOrHasSlot : (old new : Table) → (k : ℕ) → Type 0
StaysOrHasSlot old new k = (bytes_by_name (rows_file k) new ≡ bytes_by_name (rows_file k) old) ⊎ IsRightSlot None (slot_bytes new k)

-- each thing changes once at most
pub record ChangesOnce (old new : Table) : Type 0 where
  pub relations : (k : ℕ) → k < 8 → relation_seen new k ≡ relation_seen old k
  pub catalog : StaysOrIsRight IsRightCatalog (size_in old catalog_file) (size_in new catalog_file)
  pub slots : (k : ℕ) → k < 8 → StaysOrIsRight (IsRightSlot (relation_seen old k)) (slot_bytes old k) (slot_bytes new k)
  pub rows : (k : ℕ) → k < 8 → StaysOrIsRight (AreRightRows (relation_seen old k)) (bytes_by_name (rows_file k) old) (bytes_by_name (rows_file k) new)
  pub lone_rows : (k : ℕ) → k < 8 → relation_seen old k ≡ None → StaysOrHasSlot old new k
  pub indexes : (i : ℕ) → i < 8 → IsKeptOrGone (index_seen old i) (index_seen new i)
  pub trees : (i : ℕ) → i < 8 → StaysOrIsRight IsRightTree (tree_seen old i) (tree_seen new i)

-- the most lines of a report
abbrev pub most_lines : ℕ
most_lines = 66

-- a step adds these lines at most, where there is room for them, and they are those of what it changed, where names are apart
pub record Reports (most : ℕ) (old new : State) (before after : List AnyMended) : Type 0 where
  pub added : List AnyMended
  pub few : length added ≤ most
  pub behind : length before + most ≤ most_lines → after ≡ before ++ added
  pub once : ChangesOnce old.files new.files
  pub lines : HasNamesApart old.files → IsReported old.files new.files added

-- lines and one more, as far as there is room
abbrev pub with_line : List AnyMended → AnyMended → List AnyMended
with_line lines line = if nat_lt (length lines) most_lines then lines ++ line ∷ [] else lines

-- where the index in a slot has a tree, it stands on an attribute that can be read
pub record HasNames (files : Table) (slot : ℕ) : Type 0 where
  pub names : (index : Index) → index_seen files slot ≡ Some index → index.kind ≡ MaxHeap
      → (name attribute : List ℕ) × IsOn files index name attribute × (IsStrangeSlot files index.relation → ⊥)

-- of the catalog nothing but an index slot has changed
pub record SparesSlots (old new : Table) (slot : ℕ) : Type 0 where
  pub size : size_in new catalog_file ≡ size_in old catalog_file
  pub slots : (k : ℕ) → k < 8 → slot_bytes new k ≡ slot_bytes old k
  pub indexes : (i : ℕ) → i ≢ slot → index_seen new i ≡ index_seen old i

-- ---- the same of trees

-- the file of a name is not the tree of some keys
abbrev pub IsOtherTree : Table → List ℕ → List ℤ → Type 0
IsOtherTree files name keys = IsTreeOf (bytes_named name files) keys → ⊥

-- an index whose tree changes, or that is gone, was not complete and is; all else stays
pub record TreesChangeOnce (old new : Table) : Type 0 where
  pub relations : (k : ℕ) → k < 8 → relation_seen new k ≡ relation_seen old k
  pub catalog : size_in new catalog_file ≡ size_in old catalog_file
  pub slots : (k : ℕ) → k < 8 → slot_bytes new k ≡ slot_bytes old k
  pub rows : (k : ℕ) → k < 8 → bytes_by_name (rows_file k) new ≡ bytes_by_name (rows_file k) old
  pub indexes : (i : ℕ) → i < 8 → IsKeptOrGone (index_seen old i) (index_seen new i)
  pub trees : (i : ℕ) → i < 8 → (tree_seen new i ≡ tree_seen old i) ⊎ ((HasCompleteIndex old i → ⊥) × HasCompleteIndex new i)
  pub complete : (i : ℕ) → i < 8 → HasCompleteIndex old i → HasCompleteIndex new i

pub record ReportsTrees (most : ℕ) (old new : State) (before after : List AnyMended) : Type 0 where
  pub added : List AnyMended
  pub few : length added ≤ most
  pub behind : length before + most ≤ most_lines → after ≡ before ++ added
  pub once : TreesChangeOnce old.files new.files
  pub lines : HasNamesApart old.files → IsReported old.files new.files added

-- ---- one after the other

-- all but trees is put right, and then these are
pub record ReportsInTurn (most : ℕ) (old new : State) (before after : List AnyMended) : Type 0 where
  pub mid : State
  pub between : List AnyMended
  pub sound : IsSoundButTrees mid.files
  pub first : Reports most old mid before between
  pub trees : ReportsTrees 16 mid new between after
