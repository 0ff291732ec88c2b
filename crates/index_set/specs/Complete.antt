-- When an index is complete: it knows the keys of all slots of its relation, those of removed rows among them.
use Rattle.std.specs.Prelude.{◌≡◌, ◌≢◌, ◌<◌, ◌+◌, ◌*◌, ⊤, ℕ, ℤ, List, [], ◌∷◌, length, get_or, None, Some, slice_get, take}
use Rattle.std.specs.List.{AllByRecursion}
use Rattle.afl_base.specs.declared.kind.Kind.TheVariants.{Doubling}
use Rattle.afl_base.specs.Files.{State, IsLive, bytes_at, file_at}
use Rattle.afl_base.specs.KeyColumn.{HasField, IsWidth, key_of}
use Rattle.db_model.specs.Row.{Row, no_row}
use Rattle.db_model.specs.Step.{key_of as key_of_value, keys, first_fall}
use Rattle.index_set.specs.declared.info.Access.{Access}
use Rattle.index_set.specs.declared.info.Access.TheVariants.{Order, Tree, Table}
use Rattle.index_set.specs.declared.info.IndexInfo.{IndexInfo}
use Rattle.index_set.specs.Tables.{HasTable, IsTable, Tables, entries}
use Rattle.index_tree.specs.Trees.{IsTreeOf}

-- ---- complete

-- the keys, from slot 0 on, are those that the index knows
abbrev pub IsComplete : State → Tables → Access → List ℤ → Type 0
IsComplete state tables Order keys = first_fall keys ≡ None
IsComplete state tables (Tree file) keys = IsTreeOf (bytes_at state.files file) keys
IsComplete state tables (Table number) keys = entries tables number ≡ keys

-- the key of a row at an attribute's place
abbrev pub key_at_place : ℕ → Row → ℤ
key_at_place place row = key_of_value (slice_get row.tuple place)

-- the column has the keys of these rows
abbrev pub HasKeys : State → List Row → IndexInfo → Type 0
HasKeys state all info =
    (slot : ℕ) → slot < length all → key_of state info.column slot ≡ key_at_place info.attribute (get_or all slot no_row)

-- an index of these rows: its column has their keys, and it is complete
pub record IsInfoOf (state : State) (tables : Tables) (all : List Row) (info : IndexInfo) : Type 0 where
  pub column : HasKeys state all info
  pub complete : IsComplete state tables info.access (keys info.attribute all)

-- ---- what holds also where files do not tell

-- a tree's file is there
abbrev pub HasTree : State → Access → Type 0
HasTree state Order = ⊤
HasTree state (Tree file) = IsLive state.files file
HasTree state (Table number) = ⊤

-- trees and tables hold keys of at most 32 bits
abbrev pub IsNarrowFor : ℕ → Access → Type 0
IsNarrowFor width Order = ⊤
IsNarrowFor width (Tree file) = width ≢ 8
IsNarrowFor width (Table number) = width ≢ 8

-- the fields of this many slots lie in their file, and a tree's file or a table is there: what an index needs to be read
pub record IsReadable (state : State) (slots : ℕ) (info : IndexInfo) : Type 0 where
  pub place : info.attribute < 8
  pub width : IsWidth info.column.width
  pub narrow : IsNarrowFor info.column.width info.access
  pub fields : (slot : ℕ) → slot < slots → HasField state info.column slot
  pub tree : HasTree state info.access
  pub table : HasTable info.access

-- the index has its tree, which doubles, or its table with this many keys: what it needs to be written
abbrev pub IsHeld : State → Tables → ℕ → Access → Type 0
IsHeld state tables slots Order = ⊤
IsHeld state tables slots (Tree file) = IsLive state.files file × ((file_at state.files file).kind ≡ Doubling)
IsHeld state tables slots (Table number) = IsTable number × (length (entries tables number) ≡ slots)

-- ---- indexes of a list

abbrev pub AreReadable : State → ℕ → List IndexInfo → Type 0
AreReadable state slots infos = AllByRecursion (IsReadable state slots) infos

abbrev pub AreIndexesOf : State → Tables → List Row → List IndexInfo → Type 0
AreIndexesOf state tables all infos = AllByRecursion (IsInfoOf state tables all) infos

abbrev pub HaveKeysOf : State → List Row → List IndexInfo → Type 0
HaveKeysOf state all infos = AllByRecursion (HasKeys state all) infos

abbrev pub AreComplete : State → Tables → List Row → List IndexInfo → Type 0
AreComplete state tables all infos = AllByRecursion (λ info. IsComplete state tables info.access (keys info.attribute all)) infos

abbrev pub AreHeld : State → Tables → ℕ → List IndexInfo → Type 0
AreHeld state tables slots infos = AllByRecursion (λ info. IsHeld state tables slots info.access) infos

-- the most pages that a test of an index of this many slots reads
abbrev pub most_reads : ℕ → Access → ℕ
most_reads slots Order = 6 * slots
most_reads slots (Tree file) = 15 * slots + 2048
most_reads slots (Table number) = 6 * slots

-- of each index of a list
abbrev pub most_reads_of_all : ℕ → List IndexInfo → ℕ
most_reads_of_all slots [] = 0
most_reads_of_all slots (info ∷ infos) = most_reads slots info.access + most_reads_of_all slots infos

-- the first index of a list that is not complete
pub record IsFirstIncomplete (state : State) (tables : Tables) (all : List Row) (infos : List IndexInfo) (nth : ℕ) : Type 0 where
  pub within : nth < length infos
  pub before : AreComplete state tables all (take nth infos)
  pub info : IndexInfo
  pub here : slice_get infos nth ≡ Some info
  pub fails : IsComplete state tables info.access (keys info.attribute all) → ⊥
