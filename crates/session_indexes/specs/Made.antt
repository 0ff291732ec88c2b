-- What the files are after an index came, and what was asked for.
use Rattle.std.specs.Prelude.{◌≡◌, ◌≢◌, ◌<◌, ◌⊎◌, ℕ, ◌+◌, ◌*◌, ℤ, List, Option, Some, None, Result, Ok, Err, IsTrue, get_or, map, option_map}
use Rattle.afl_base.specs.Asked.{asks_few}
use Rattle.afl_base.specs.Files.{AreDistinct, IsNamed, IsUnnamed, State, bytes_at, size_at}
use Rattle.afl_base.specs.Fit.{fit}
use Rattle.db_model.specs.declared.schemas.IndexKind.{IndexKind}
use Rattle.db_model.specs.declared.schemas.IndexKind.TheVariants.{Inline, MaxHeap, MemHash}
use Rattle.db_model.specs.Catalog.{Index, with_index_slot}
use Rattle.db_model.specs.declared.refusals.Refusal.{Refusal}
use Rattle.db_model.specs.Database.{Database}
use Rattle.db_model.specs.Step.{keys, refuse_kind}
use Rattle.index_set.specs.declared.info.Access.{Access}
use Rattle.index_set.specs.declared.info.Access.TheVariants.{Table}
use Rattle.index_set.specs.declared.info.TableId.{TableId}
use Rattle.index_set.specs.Complete.{IsComplete, IsHeld}
use Rattle.index_set.specs.Inserts.{IsElsewhere}
use Rattle.index_set.specs.Plans.{access_kind}
use Rattle.index_set.specs.Tables.{HasTable, Tables, entries}
use Rattle.space_model.specs.Enough.{tree_size}
use Rattle.space_model.specs.FileNames.{rows_file, tree_file}
use Rattle.space_model.specs.Wants.{room_for}
use Rattle.tuple_file.specs.declared.tuples.Tuples.{Tuples}
use Rattle.tuple_file.specs.Tuples.{HoldsRows, rows, slots}
use Rattle.session_model.specs.declared.held.Indexed.{Indexed}
use Rattle.session_model.specs.Frames.{AsksNoExtent, HasBytes, LeavesOthers}
use Rattle.session_model.specs.Indexed.{index_known}
use Rattle.session_model.specs.Running.{AreOfDatabase, HasCatalogFile, HasFile}
use Rattle.session_indexes.specs.declared.sites.Site.{Site}

-- ---- before

-- the catalog and a relation's rows stand in files of the database, the tree of an index slot in none, and no draft is begun
pub record IsReadyFor (state : State) (cat : ℕ) (t : Tuples) (site : Site) : Type 0 where
  pub slot : site.slot < 8
  pub idle : state.draft ≡ None
  pub catalog : HasCatalogFile state.files (Some cat)
  pub holds : HoldsRows state t
  pub named : IsNamed state.files t.file (rows_file site.relation)
  pub unnamed : IsUnnamed state.files (tree_file site.slot)
  pub distinct : AreDistinct state.files
  pub known : AreOfDatabase state.files

-- ---- after

-- what the catalog says of the index
abbrev pub index_for : Site → IndexKind → Index
index_for site kind = record { kind = kind; relation = site.relation; attribute = site.attribute }

abbrev pub indexed_for : Site → Access → Indexed
indexed_for site access = record { relation = site.relation; attribute = site.attribute; access = access }

abbrev pub bytes_for : State → ℕ → Site → IndexKind → List ℕ
bytes_for state cat site kind = with_index_slot (bytes_at state.files cat) site.slot (Some (index_for site kind))

abbrev pub keys_at : State → Tuples → Site → List ℤ
keys_at state t site = keys site.attribute (rows state.files t)

-- the tables that the indexes have are as before
abbrev pub KeepsTaken : Tables → Tables → List (Option Indexed) → Type 0
KeepsTaken before after xs = (j : ℕ) (y : Indexed) (number : TableId) → get_or xs j None ≡ Some y → y.access ≡ Table number → entries after number ≡ entries before number

-- and this one is none of theirs
abbrev pub IsNobodys : TableId → List (Option Indexed) → Type 0
IsNobodys number xs = (j : ℕ) (y : Indexed) → get_or xs j None ≡ Some y → IsElsewhere (Table number) y.access

-- the index is of the kind that is wanted, stands in its slot of the catalog, and is complete
pub record IsMade (wanted : IndexKind) (old new : State) (before after : Tables) (xs : List (Option Indexed)) (cat : ℕ) (t : Tuples) (site : Site) (access : Access) : Type 0 where
  pub kind : access_kind access ≡ wanted
  pub leaves : LeavesOthers old new (tree_file site.slot)
  pub bytes : HasBytes old new cat (bytes_for old cat site (access_kind access))
  pub idle : new.draft ≡ None
  pub file : HasFile new.files site.slot access
  pub held : IsHeld new after (slots new.files t) access
  pub complete : IsTrue new.tells → IsComplete new after access (keys_at new t site)
  pub tables : KeepsTaken before after xs
  pub own : (number : TableId) → access ≡ Table number → IsNobodys number xs

-- ---- what refuses it

-- the kind refuses no index of these keys beside those of a list
abbrev pub IsUnrefused : IndexKind → List (Option Indexed) → List ℤ → Type 0
IsUnrefused kind xs ks = (db : Database) → db.indexes ≡ map (option_map index_known) xs → refuse_kind kind db ks ≡ Ok tt

-- or refuses it as was answered
abbrev pub IsTried : IndexKind → List (Option Indexed) → List ℤ → Result Access Refusal → Type 0
IsTried kind xs ks (Ok access) = IsUnrefused kind xs ks
IsTried kind xs ks (Err refusal) = (db : Database) → db.indexes ≡ map (option_map index_known) xs → refuse_kind kind db ks ≡ Err refusal

-- no two indexes have one tree or one table
abbrev pub AreElsewhere : List (Option Indexed) → Type 0
AreElsewhere xs = (i j : ℕ) (x y : Indexed) → i ≢ j → get_or xs i None ≡ Some x → get_or xs j None ≡ Some y → IsElsewhere x.access y.access

-- each has a table that is there, if it has one
abbrev pub HaveTables : List (Option Indexed) → Type 0
HaveTables xs = (i : ℕ) (x : Indexed) → get_or xs i None ≡ Some x → HasTable x.access

-- ---- space

-- room for the index slot in the catalog
abbrev pub AsksIndexSlot : (ℕ → ℕ → ℕ → ℕ → Type 0) → State → ℕ → ℕ → ℕ → Type 0
AsksIndexSlot asks state cat slot need =
    asks_few asks state.files cat ((room_for (size_at state.files cat) (1408 + 8 * slot) 8).0) ((room_for (size_at state.files cat) (1408 + 8 * slot) 8).1) need

-- or an extent for a tree of the keys
abbrev pub AsksIndex : (ℕ → ℕ → ℕ → ℕ → Type 0) → State → ℕ → ℕ → IndexKind → List ℤ → ℕ → Type 0
AsksIndex asks state cat slot Inline ks need = AsksIndexSlot asks state cat slot need
AsksIndex asks state cat slot MemHash ks need = AsksIndexSlot asks state cat slot need
AsksIndex asks state cat slot MaxHeap ks need = AsksIndexSlot asks state cat slot need ⊎ (need ≡ fit (tree_size ks))

-- none is asked for: a tree always asks for one
abbrev pub AsksNoIndex : (ℕ → ℕ → ℕ → ℕ → Type 0) → State → ℕ → ℕ → IndexKind → Type 0
AsksNoIndex asks state cat slot Inline = AsksNoExtent asks state.files cat (1408 + 8 * slot) 8
AsksNoIndex asks state cat slot MemHash = AsksNoExtent asks state.files cat (1408 + 8 * slot) 8
AsksNoIndex asks state cat slot MaxHeap = ⊥
