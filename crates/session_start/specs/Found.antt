-- What is held of files for the slots of a catalog, before rows and indexes are judged.
use Rattle.std.specs.Prelude.{◌≡◌, ◌≢◌, ◌<◌, ◌⊎◌, ⊤, ℕ, List, length, map, get_or, if◌then◌else◌, Option, Some, None, option_map}
use Rattle.std.specs.List.{list_any}
use Rattle.afl_base.specs.Files.{AreDistinct, IsNamed, IsUnnamed, State, Table}
use Rattle.catalog.specs.Rules.{is_table}
use Rattle.db_model.specs.declared.schemas.Schema.{Schema}
use Rattle.db_model.specs.Catalog.{Catalog as Slots, Index}
use Rattle.index_set.specs.declared.info.Access.{Access}
use Rattle.index_set.specs.declared.info.Access.TheVariants.{Order, Tree, Table as InTable}
use Rattle.index_set.specs.declared.info.TableId.{TableId}
use Rattle.index_set.specs.declared.info.TableId.TheVariants.{First, Second}
use Rattle.index_set.specs.Inserts.{IsDoublingTree, IsElsewhere}
use Rattle.index_set.specs.Tables.{HasTable}
use Rattle.space_model.specs.FileNames.{rows_file, tree_file}
use Rattle.tuple_file.specs.declared.tuples.Tuples.{Tuples}
use Rattle.tuple_file.specs.Tuples.{IsRowFile}
use Rattle.session_model.specs.declared.held.Held.{Held}
use Rattle.session_model.specs.declared.held.Indexed.{Indexed}
use Rattle.session_model.specs.Frames.{schema_in}
use Rattle.session_model.specs.Indexed.{IsAllowed, index_known, info_of}
use Rattle.session_model.specs.Running.{AreOfDatabase, HasCatalogFile, HasFile}

-- ---- what is held for a slot of the catalog

-- the schema of the slot, with the file of the slot's rows
abbrev pub IsRelationOf : Table → ℕ → Option Schema → Option Tuples → Type 0
IsRelationOf files k None None = ⊤
IsRelationOf files k (Some schema) (Some t) = (t.schema ≡ schema) × IsNamed files t.file (rows_file k)
IsRelationOf files k _ _ = ⊥

-- the second table is for an index after one with a table
abbrev pub table_behind : List (Option Index) → TableId
table_behind before = if list_any is_table before then Second else First

abbrev pub IsAccess : Table → List (Option Index) → ℕ → Access → Type 0
IsAccess files before i Order = ⊤
IsAccess files before i (Tree file) = IsNamed files file (tree_file i)
IsAccess files before i (InTable number) = number ≡ table_behind before

-- the index of the slot, with its tree or table
abbrev pub IsIndexHeld : Table → List (Option Index) → ℕ → Option Index → Option Indexed → Type 0
IsIndexHeld files before i None None = ⊤
IsIndexHeld files before i (Some index) (Some x) = (index_known x ≡ index) × IsAccess files before i x.access
IsIndexHeld files before i _ _ = ⊥

-- the catalog of what is held
abbrev pub slots_held : Held → Slots
slots_held held = record {
  version = held.version;
  relations = map (option_map schema_in) held.relations;
  indexes = map (option_map index_known) held.indexes;
}

-- ---- what files have for what is held

-- a relation has its file, and an unused slot has none
abbrev pub HasRowFile : Table → ℕ → Option Tuples → Type 0
HasRowFile files k None = IsUnnamed files (rows_file k)
HasRowFile files k (Some t) = IsRowFile files t × IsNamed files t.file (rows_file k)

-- an index is on an attribute of its relation that its kind allows, a tree has its file, and a table is there
pub record IsIndexPlaced (state : State) (i : ℕ) (x : Indexed) (t : Tuples) : Type 0 where
  pub place : x.attribute < 8
  pub allowed : IsAllowed t.schema.attributes (info_of t x)
  pub file : HasFile state.files i x.access
  pub doubling : IsDoublingTree state x.access
  pub table : HasTable x.access

abbrev pub IsPlacedOn : State → ℕ → Indexed → Option Tuples → Type 0
IsPlacedOn state i x None = ⊥
IsPlacedOn state i x (Some t) = IsIndexPlaced state i x t

abbrev pub IsPlacedSlot : State → List (Option Tuples) → ℕ → Option Indexed → Type 0
IsPlacedSlot state relations i None = IsUnnamed state.files (tree_file i)
IsPlacedSlot state relations i (Some x) = IsPlacedOn state i x (get_or relations x.relation None)

-- no two indexes have one tree or one table
abbrev pub ShareNoAccess : List (Option Indexed) → Type 0
ShareNoAccess indexes =
    (i j : ℕ) (x y : Indexed) → i ≢ j → get_or indexes i None ≡ Some x → get_or indexes j None ≡ Some y → IsElsewhere x.access y.access

-- each file has a name and a kind of its own, and what is held has its files
pub record AreFilesFound (state : State) (held : Held) : Type 0 where
  pub distinct : AreDistinct state.files
  pub known : AreOfDatabase state.files
  pub version : (held.version ≡ 1) ⊎ (held.version ≡ 2)
  pub eight : length held.relations ≡ 8
  pub eight_indexes : length held.indexes ≡ 8
  pub relations : (k : ℕ) → k < 8 → HasRowFile state.files k (get_or held.relations k None)
  pub indexes : (i : ℕ) → i < 8 → IsPlacedSlot state held.relations i (get_or held.indexes i None)
  pub apart : ShareNoAccess held.indexes
  pub catalog : HasCatalogFile state.files held.cat
