-- What an insert needs of the indexes of a relation, and what it leaves.
use Rattle.std.specs.Prelude.{◌≡◌, ◌≢◌, ◌+◌, ◌<◌, ◌⊎◌, ⊤, ℕ, ℤ, pos, negsuc, ◌++◌, [], ◌∷◌, Bool, false, List, Option, Some, None, IsTrue, length, slice_get}
use Rattle.std.specs.List.{AllByRecursion}
use Rattle.afl_base.specs.declared.kind.Kind.TheVariants.{Doubling}
use Rattle.afl_base.specs.Files.{State, IsLive, bytes_at, file_at}
use Rattle.afl_base.specs.Frames.{SparesOthers}
use Rattle.db_model.specs.declared.values.Value.{Value}
use Rattle.db_model.specs.declared.values.Value.TheVariants.{Number, Text}
use Rattle.db_model.specs.Row.{Row, is_between}
use Rattle.db_model.specs.Step.{key_of, keys, first_fall}
use Rattle.index_set.specs.declared.info.Access.{Access}
use Rattle.index_set.specs.declared.info.Access.TheVariants.{Order, Tree, Table}
use Rattle.index_set.specs.declared.info.IndexInfo.{IndexInfo}
use Rattle.index_set.specs.declared.info.TableId.{TableId}
use Rattle.index_set.specs.declared.info.TableId.TheVariants.{First, Second}
use Rattle.index_maxheap.specs.declared.rooms.Room.{Room}
use Rattle.index_maxheap.specs.Rooms.{HasRoomFor, room_of}
use Rattle.index_set.specs.Tables.{Tables, entries}
use Rattle.index_set.specs.Complete.{AreComplete, IsComplete}
use Rattle.index_tree.specs.Places.{KeepsNumbers}
use Rattle.index_tree.specs.TreeFile.{NamesOnly}
use Rattle.index_tree.specs.Trees.{IsTreeOf}

-- some index of the list has the property
abbrev pub SomeOf : (IndexInfo → Type 0) → List IndexInfo → Type 0
SomeOf P [] = ⊥
SomeOf P (info ∷ infos) = P info ⊎ SomeOf P infos

-- ---- which files and tables the indexes of a list have

-- a tree's file is there, and doubles
abbrev pub IsDoublingTree : State → Access → Type 0
IsDoublingTree state Order = ⊤
IsDoublingTree state (Tree file) = IsLive state.files file × ((file_at state.files file).kind ≡ Doubling)
IsDoublingTree state (Table number) = ⊤

abbrev pub AreDoublingTrees : State → List IndexInfo → Type 0
AreDoublingTrees state infos = AllByRecursion (λ info. IsDoublingTree state info.access) infos

-- a tree's file is not this one
abbrev pub IsApart : ℕ → Access → Type 0
IsApart id Order = ⊤
IsApart id (Tree file) = id ≢ file
IsApart id (Table number) = ⊤

-- no tree's file is this one
abbrev pub IsNoTree : List IndexInfo → ℕ → Type 0
IsNoTree infos id = AllByRecursion (λ info. IsApart id info.access) infos

-- a table is another one
abbrev pub IsNoTable : TableId → Access → Type 0
IsNoTable number Order = ⊤
IsNoTable number (Tree file) = ⊤
IsNoTable First (Table First) = ⊥
IsNoTable Second (Table Second) = ⊥
IsNoTable number (Table other) = ⊤

-- two indexes have not the same tree or table
abbrev pub IsElsewhere : Access → Access → Type 0
IsElsewhere Order other = ⊤
IsElsewhere (Tree file) other = IsApart file other
IsElsewhere (Table number) other = IsNoTable number other

-- each has a file or a table of its own
abbrev pub AreApart : List IndexInfo → Type 0
AreApart [] = ⊤
AreApart (info ∷ infos) = AllByRecursion (λ other. IsElsewhere info.access other.access) infos × AreApart infos

-- the tables that no index of a list has stay
abbrev pub KeepsTables : Tables → Tables → List IndexInfo → Type 0
KeepsTables old new infos = (number : TableId) → AllByRecursion (λ info. IsNoTable number info.access) infos → entries new number ≡ entries old number

-- those that an index has not are the same
abbrev pub KeepsTablesBeside : Access → Tables → Tables → Type 0
KeepsTablesBeside access old new = (number : TableId) → IsNoTable number access → entries new number ≡ entries old number

-- ---- the keys of a tuple

-- a number of 32 bits
abbrev pub is_key : Option Value → Bool
is_key None = false
is_key (Some (Number z)) = is_between (negsuc 2147483647) (pos 2147483647) z
is_key (Some (Text bytes)) = false

-- an index in a tree or a table can hold the key
abbrev pub HasKeyFor : Option Value → Access → Type 0
HasKeyFor value Order = ⊤
HasKeyFor value (Tree file) = IsTrue (is_key value)
HasKeyFor value (Table number) = IsTrue (is_key value)

abbrev pub HaveKeys : List Value → List IndexInfo → Type 0
HaveKeys tuple infos = AllByRecursion (λ info. HasKeyFor (slice_get tuple info.attribute) info.access) infos

-- a tuple's key in an index
abbrev pub tuple_key : List Value → IndexInfo → ℤ
tuple_key tuple info = key_of (slice_get tuple info.attribute)

-- the next key may stand after the others
abbrev pub MayFollow : List ℤ → ℤ → Access → Type 0
MayFollow keys key Order = first_fall (keys ++ key ∷ []) ≡ None
MayFollow keys key (Tree file) = ⊤
MayFollow keys key (Table number) = ⊤

abbrev pub MayAllFollow : List Row → List Value → List IndexInfo → Type 0
MayAllFollow all tuple infos = AllByRecursion (λ info. MayFollow (keys info.attribute all) (tuple_key tuple info) info.access) infos

-- each bucket of a tree has kept its number
abbrev pub KeepsBuckets : State → State → Access → Type 0
KeepsBuckets old new Order = ⊤
KeepsBuckets old new (Tree file) = KeepsNumbers (bytes_at old.files file) (bytes_at new.files file)
KeepsBuckets old new (Table number) = ⊤

abbrev pub AllKeepBuckets : State → State → List IndexInfo → Type 0
AllKeepBuckets old new infos = AllByRecursion (λ info. KeepsBuckets old new info.access) infos

-- a table has room for the key of the next slot
abbrev pub IsOpenFor : ℕ → Access → Type 0
IsOpenFor slot Order = ⊤
IsOpenFor slot (Tree file) = ⊤
IsOpenFor slot (Table number) = slot < 2048

abbrev pub AreOpenFor : ℕ → List IndexInfo → Type 0
AreOpenFor slot infos = AllByRecursion (λ info. IsOpenFor slot info.access) infos

-- ---- rooms: each index has the one at its place

-- the file of a tree has the room
abbrev pub HasRoom : State → Room → Access → Type 0
HasRoom state room Order = ⊤
HasRoom state room (Tree file) = HasRoomFor state file room
HasRoom state room (Table number) = ⊤

abbrev pub HaveRoom : State → List Room → List IndexInfo → Type 0
HaveRoom state rooms [] = ⊤
HaveRoom state [] (info ∷ infos) = ⊥
HaveRoom state (room ∷ rooms) (info ∷ infos) = HasRoom state room info.access × HaveRoom state rooms infos

-- which is what an insert of the key needs
abbrev pub IsRoomFor : State → ℤ → Room → Access → Type 0
IsRoomFor state key room Order = ⊤
IsRoomFor state key room (Tree file) = (keys : List ℤ) → IsTreeOf (bytes_at state.files file) keys → room ≡ room_of (bytes_at state.files file) key
IsRoomFor state key room (Table number) = ⊤

abbrev pub AreRoomFor : State → List Value → List Room → List IndexInfo → Type 0
AreRoomFor state tuple rooms [] = ⊤
AreRoomFor state tuple [] (info ∷ infos) = ⊥
AreRoomFor state tuple (room ∷ rooms) (info ∷ infos) = IsRoomFor state (tuple_key tuple info) room info.access × AreRoomFor state tuple rooms infos

-- an extent of n pages is asked for by a tree
abbrev pub AsksFor : (ℕ → ℕ → ℕ → ℕ → Type 0) → State → ℤ → ℕ → Access → Type 0
AsksFor asks state key n Order = ⊥
AsksFor asks state key n (Tree file) =
    (keys : List ℤ) → IsTreeOf (bytes_at state.files file) keys
    → asks file ((room_of (bytes_at state.files file) key).overwrites) ((room_of (bytes_at state.files file) key).bytes) n
AsksFor asks state key n (Table number) = ⊥

-- by one of the trees of a list
abbrev pub OneAsksFor : (ℕ → ℕ → ℕ → ℕ → Type 0) → State → List Value → ℕ → List IndexInfo → Type 0
OneAsksFor asks state tuple n infos = SomeOf (λ info. AsksFor asks state (tuple_key tuple info) n info.access) infos

-- ---- what a cut leaves

-- the pairs of a tree name no slots after this many
abbrev pub NamesFew : State → ℕ → Access → Type 0
NamesFew state slots Order = ⊤
NamesFew state slots (Tree file) = NamesOnly slots (bytes_at state.files file)
NamesFew state slots (Table number) = ⊤

abbrev pub AllNameFew : State → ℕ → List IndexInfo → Type 0
AllNameFew state slots infos = AllByRecursion (λ info. NamesFew state slots info.access) infos

-- a key was being put into an index: no file has changed but its tree's, whose pairs name no slot after the key's
pub record MayInsertKey (old after : State) (tables : Tables) (access : Access) (room : Room) (key : ℤ) (slot : ℕ) : Type 0 where
  pub others : SparesOthers old after (λ id. IsApart id access)
  pub names : (keys : List ℤ) → length keys ≡ slot → IsComplete old tables access keys → IsRoomFor old key room access → NamesFew after (slot + 1) access

-- so with the keys of a tuple, and all indexes of a list
pub record MayInsertKeys (old after : State) (tables : Tables) (infos : List IndexInfo) (rooms : List Room) (tuple : List Value) (slot : ℕ) : Type 0 where
  pub others : SparesOthers old after (IsNoTree infos)
  pub names : (all : List Row) (row : Row) → length all ≡ slot → row.tuple ≡ tuple → AreComplete old tables all infos → AreRoomFor old tuple rooms infos
      → MayAllFollow all tuple infos → AllNameFew after (slot + 1) infos
