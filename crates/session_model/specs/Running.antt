-- What is so of a session as long as its files did not fail.
use Rattle.std.specs.Prelude.{◌≡◌, ◌≢◌, ◌≤◌, ◌<◌, ◌⊎◌, ⊤, ℕ, ◌+◌, ◌*◌, true, List, [], length, get_or, map, Option, Some, None, option_map, IsTrue, slice_range}
use Rattle.std.specs.List.{AllByRecursion}
use Rattle.afl_base.specs.declared.kind.Kind.TheVariants.{Fixed}
use Rattle.afl_base.specs.Files.{AreDistinct, File, IsNamed, IsUnnamed, State, Table, bytes_at, file_at, place, size_at}
use Rattle.catalog.specs.CatalogFile.{IsCatalogSize}
use Rattle.catalog.specs.Rules.{is_of_database}
use Rattle.db_model.specs.Catalog.{catalog_of, index_at, index_slot_bytes, relation_at, relation_slot_bytes, version_mark}
use Rattle.db_model.specs.Step.{keys, slots_limit}
use Rattle.index_set.specs.declared.candidates.Search.{Search}
use Rattle.index_set.specs.declared.candidates.Search.TheVariants as by
use Rattle.index_set.specs.declared.info.Access.{Access}
use Rattle.index_set.specs.declared.info.Access.TheVariants.{Order, Tree, Table as InTable}
use Rattle.index_set.specs.declared.info.IndexInfo.{IndexInfo}
use Rattle.index_set.specs.Complete.{IsComplete, IsHeld}
use Rattle.index_set.specs.Inserts.{IsElsewhere}
use Rattle.index_set.specs.Tables.{Tables}
use Rattle.index_set.specs.Walks.{Waits}
use Rattle.space_model.specs.FileNames.{catalog_file, rows_file, tree_file}
use Rattle.tuple_file.specs.declared.tuples.Tuples.{Tuples}
use Rattle.tuple_file.specs.Tuples.{HoldsRows, rows, slots}
use Rattle.cursor.specs.declared.join.JoinCursor.{JoinCursor}
use Rattle.cursor.specs.declared.select.SelectCursor.{SelectCursor}
use Rattle.session_model.specs.declared.held.Held.{Held}
use Rattle.session_model.specs.declared.held.Indexed.{Indexed}
use Rattle.session_model.specs.declared.held.Open.{Open}
use Rattle.session_model.specs.declared.held.Open.TheVariants.{Select, Join}
use Rattle.session_model.specs.Indexed.{IsAllowed, index_known, info_of}

-- each file is the catalog, the rows of a relation or a hash tree, and of its kind
abbrev pub AreOfDatabase : Table → Type 0
AreOfDatabase files = (id : ℕ) (f : File) → place files id ≡ Some f → is_of_database f.name f.kind ≡ true

-- ---- relations

-- the relation in a slot has the file of its slot, which holds rows, as many as the version allows
pub record HoldsRelation (state : State) (version k : ℕ) (t : Tuples) : Type 0 where
  pub holds : HoldsRows state t
  pub named : IsNamed state.files t.file (rows_file k)
  pub few : slots state.files t ≤ slots_limit version

abbrev pub IsRelationSlot : State → ℕ → ℕ → Option Tuples → Type 0
IsRelationSlot state version k None = IsUnnamed state.files (rows_file k)
IsRelationSlot state version k (Some t) = HoldsRelation state version k t

-- ---- indexes

-- a hash tree has the file of its slot, and no other index has one
abbrev pub HasFile : Table → ℕ → Access → Type 0
HasFile files i Order = IsUnnamed files (tree_file i)
HasFile files i (Tree file) = IsNamed files file (tree_file i)
HasFile files i (InTable number) = IsUnnamed files (tree_file i)

-- an index of a relation in its catalog slot
pub record IsIndexed (state : State) (tables : Tables) (i : ℕ) (x : Indexed) (t : Tuples) : Type 0 where
  pub place : x.attribute < 8
  pub allowed : IsAllowed t.schema.attributes (info_of t x)
  pub held : IsHeld state tables (slots state.files t) x.access
  pub file : HasFile state.files i x.access
  pub complete : IsTrue state.tells → IsComplete state tables x.access (keys x.attribute (rows state.files t))

abbrev pub IsIndexedOn : State → Tables → ℕ → Indexed → Option Tuples → Type 0
IsIndexedOn state tables i x None = ⊥
IsIndexedOn state tables i x (Some t) = IsIndexed state tables i x t

abbrev pub IsIndexSlot : State → Tables → Held → ℕ → Option Indexed → Type 0
IsIndexSlot state tables held i None = IsUnnamed state.files (tree_file i)
IsIndexSlot state tables held i (Some x) = IsIndexedOn state tables i x (get_or held.relations x.relation None)

-- ---- cursors

-- an index of the relation in slot k with which a cursor began stands still
pub record Stands (held : Held) (k attribute : ℕ) (access : Access) : Type 0 where
  pub slot : ℕ
  pub index : Indexed
  pub there : get_or held.indexes slot None ≡ Some index
  pub relation : index.relation ≡ k
  pub place : index.attribute ≡ attribute
  pub access_is : index.access ≡ access

abbrev pub IndexStands : Held → ℕ → Search → Type 0
IndexStands held k (by.Tree attribute file key) = Stands held k attribute (Tree file)
IndexStands held k (by.Table attribute number key) = Stands held k attribute (InTable number)
IndexStands held k _ = ⊤

-- an open cursor of a relation that had slots: the relation has these slots still, and the index that it searches stands
pub record IsOpen (state : State) (held : Held) (c : SelectCursor) : Type 0 where
  pub slot : ℕ
  pub there : get_or held.relations slot None ≡ Some c.tuples
  pub few : c.candidates.slots ≤ slots state.files c.tuples
  pub waits : IsTrue state.tells → Waits c.candidates (rows state.files c.tuples)
  pub index : IndexStands held slot c.candidates.search

-- no place in a tree is kept; where the relation had no slot, nothing else is asked
pub record IsWaiting (state : State) (held : Held) (c : SelectCursor) : Type 0 where
  pub rests : c.candidates.place ≡ None
  pub goes_on : 0 < c.candidates.slots → IsOpen state held c

-- a side of a join that had slots has them still
pub record IsSide (state : State) (held : Held) (t : Tuples) (n : ℕ) : Type 0 where
  pub slot : ℕ
  pub there : get_or held.relations slot None ≡ Some t
  pub few : n ≤ slots state.files t

-- an index of the right side stands, and its column is still that of the rows
pub record StandsAs (held : Held) (k : ℕ) (t : Tuples) (info : IndexInfo) : Type 0 where
  pub slot : ℕ
  pub index : Indexed
  pub there : get_or held.indexes slot None ≡ Some index
  pub relation : index.relation ≡ k
  pub is : info ≡ info_of t index

-- and the right side has the indexes with which it began
pub record IsRightSide (state : State) (held : Held) (c : JoinCursor) : Type 0 where
  pub side : IsSide state held c.right c.right_slots
  pub indexes : AllByRecursion (StandsAs held side.slot c.right) c.right_indexes

pub record IsWaitingJoin (state : State) (held : Held) (c : JoinCursor) : Type 0 where
  pub rests : c.inner ≡ None
  pub within : c.from ≤ c.right_slots
  pub left : 0 < c.left_slots → IsSide state held c.left c.left_slots
  pub right : 0 < c.right_slots → IsRightSide state held c

-- a cursor reads rows of a relation: it began where this had slots
abbrev pub ReadsRows : Open → Tuples → Type 0
ReadsRows (Select o) t = (0 < o.cursor.candidates.slots) × (o.cursor.tuples ≡ t)
ReadsRows (Join o) t = ((0 < o.cursor.left_slots) × (o.cursor.left ≡ t)) ⊎ ((0 < o.cursor.right_slots) × (o.cursor.right ≡ t))

abbrev pub IsCursorSlot : State → Held → Option Open → Type 0
IsCursorSlot state held None = ⊤
IsCursorSlot state held (Some (Select o)) = IsWaiting state held o.cursor
IsCursorSlot state held (Some (Join o)) = IsWaitingJoin state held o.cursor

-- ---- the catalog

abbrev pub bytes_of_catalog : Table → Option ℕ → List ℕ
bytes_of_catalog files None = []
bytes_of_catalog files (Some cat) = bytes_at files cat

abbrev pub HasCatalogFile : Table → Option ℕ → Type 0
HasCatalogFile files None = IsUnnamed files catalog_file
HasCatalogFile files (Some cat) =
    IsNamed files cat catalog_file × IsCatalogSize (size_at files cat) × ((file_at files cat).kind ≡ Fixed 6)

-- the catalog that is told has the schemas and indexes that are held
abbrev pub IsListed : Table → Held → Type 0
IsListed files held = catalog_of (bytes_of_catalog files held.cat) ≡ record {
  version = held.version;
  relations = map (option_map (λ (t : Tuples). t.schema)) held.relations;
  indexes = map (option_map index_known) held.indexes;
}

-- what the bytes of a catalog are read as is what they are written for
pub record IsWritten (bytes : List ℕ) : Type 0 where
  pub relations : (k : ℕ) → k < 8 → slice_range bytes (176 * k) (176 * k + 176) ≡ relation_slot_bytes (relation_at bytes k)
  pub indexes : (i : ℕ) → i < 8 → slice_range bytes (1408 + 8 * i) (1408 + 8 * i + 8) ≡ index_slot_bytes (index_at bytes i)
  pub mark : length bytes ≡ 1480 → slice_range bytes 1472 1480 ≡ version_mark

-- an empty catalog has no slots
abbrev pub IsWrittenOrEmpty : List ℕ → Type 0
IsWrittenOrEmpty bytes = 0 < length bytes → IsWritten bytes

-- ---- the whole

pub record IsRunning (state : State) (tables : Tables) (held : Held) (opens : List (Option Open)) : Type 0 where
  pub idle : state.draft ≡ None
  pub distinct : AreDistinct state.files
  pub known : AreOfDatabase state.files
  pub version : (held.version ≡ 1) ⊎ (held.version ≡ 2)
  pub eight : length held.relations ≡ 8
  pub eight_indexes : length held.indexes ≡ 8
  pub four : length opens ≡ 4
  pub relations : (k : ℕ) → k < 8 → IsRelationSlot state held.version k (get_or held.relations k None)
  pub indexes : (i : ℕ) → i < 8 → IsIndexSlot state tables held i (get_or held.indexes i None)
  -- no two indexes have one tree or one table
  pub apart : (i j : ℕ) (x y : Indexed) → i ≢ j → get_or held.indexes i None ≡ Some x → get_or held.indexes j None ≡ Some y
      → IsElsewhere x.access y.access
  pub cursors : (n : ℕ) → n < 4 → IsCursorSlot state held (get_or opens n None)
  pub catalog : HasCatalogFile state.files held.cat
  pub listed : IsTrue state.tells → IsListed state.files held
  pub written : IsTrue state.tells → IsWrittenOrEmpty (bytes_of_catalog state.files held.cat)
