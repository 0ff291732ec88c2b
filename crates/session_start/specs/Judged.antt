-- The rules on rows and on indexes, for what is held.
use Rattle.std.specs.Prelude.{◌≡◌, ◌<◌, ◌≤◌, ◌⊎◌, ⊤, ℕ, ℤ, List, length, get_or, Option, Some, None, IsTrue}
use Rattle.afl_base.specs.Files.{State, Table, bytes_at}
use Rattle.db_model.specs.Step.{first_fall, keys, slots_limit}
use Rattle.index_set.specs.declared.info.Access.{Access}
use Rattle.index_set.specs.declared.info.Access.TheVariants.{Order, Tree, Table as InTable}
use Rattle.index_set.specs.Complete.{IsComplete, IsHeld}
use Rattle.index_set.specs.Tables.{Tables}
use Rattle.index_tree.specs.Trees.{IsTreeOf}
use Rattle.stored.specs.Sound.{IsFirst}
use Rattle.tuple_file.specs.declared.tuples.Tuples.{Tuples}
use Rattle.tuple_file.specs.Tuples.{AreRows, HoldsRows, rows, slots}
use Rattle.session_model.specs.declared.held.Held.{Held}
use Rattle.session_model.specs.declared.held.Indexed.{Indexed}

-- ---- rows

-- whole rows, few, and none without attributes
abbrev pub AreRowsOf : Table → ℕ → Option Tuples → Type 0
AreRowsOf files version None = ⊤
AreRowsOf files version (Some t) = AreRows version t.schema.attributes (bytes_at files t.file)

abbrev pub HasRows : Table → Held → ℕ → Type 0
HasRows files held k = AreRowsOf files held.version (get_or held.relations k None)

-- what is known of them also where bytes are not told
abbrev pub HoldsFew : State → ℕ → Option Tuples → Type 0
HoldsFew state version None = ⊤
HoldsFew state version (Some t) = HoldsRows state t × (slots state.files t ≤ slots_limit version)

abbrev pub HoldsSlot : State → Held → ℕ → Type 0
HoldsSlot state held k = HoldsFew state held.version (get_or held.relations k None)

-- ---- indexes

-- keys in order, a tree of the keys in a file, or few enough for a table
abbrev pub IsKept : Table → Access → List ℤ → Type 0
IsKept files Order keys = first_fall keys ≡ None
IsKept files (Tree file) keys = IsTreeOf (bytes_at files file) keys
IsKept files (InTable number) keys = length keys ≤ 2048

abbrev pub IsKeptOn : Table → Indexed → Option Tuples → Type 0
IsKeptOn files x None = ⊤
IsKeptOn files x (Some t) = IsKept files x.access (keys x.attribute (rows files t))

abbrev pub IsKeptOf : Table → List (Option Tuples) → Option Indexed → Type 0
IsKeptOf files relations None = ⊤
IsKeptOf files relations (Some x) = IsKeptOn files x (get_or relations x.relation None)

abbrev pub KeepsSlot : Table → Held → ℕ → Type 0
KeepsSlot files held i = IsKeptOf files held.relations (get_or held.indexes i None)

-- the index may be used: its table has as many keys as the relation has slots, and these keys, where bytes are told
pub record MayBeUsed (state : State) (tables : Tables) (x : Indexed) (t : Tuples) : Type 0 where
  pub held : IsHeld state tables (slots state.files t) x.access
  pub complete : IsTrue state.tells → IsComplete state tables x.access (keys x.attribute (rows state.files t))

abbrev pub IsReadyOn : State → Tables → Indexed → Option Tuples → Type 0
IsReadyOn state tables x None = ⊤
IsReadyOn state tables x (Some t) = MayBeUsed state tables x t

abbrev pub IsReadyOf : State → Tables → List (Option Tuples) → Option Indexed → Type 0
IsReadyOf state tables relations None = ⊤
IsReadyOf state tables relations (Some x) = IsReadyOn state tables x (get_or relations x.relation None)

abbrev pub IsReadySlot : State → Tables → Held → ℕ → Type 0
IsReadySlot state tables held i = IsReadyOf state tables held.relations (get_or held.indexes i None)

-- ---- the eight slots

abbrev pub AllEight : (ℕ → Type 0) → Type 0
AllEight Keeps = (k : ℕ) → k < 8 → Keeps k

-- the first rule that is broken, and its first slot
abbrev pub BreaksHeld : Table → Held → (rule place : ℕ) → Type 0
BreaksHeld files held rule place =
    ((rule ≡ 19) × IsFirst (HasRows files held) place)
    ⊎ ((rule ≡ 20) × AllEight (HasRows files held) × IsFirst (KeepsSlot files held) place)

-- or none
abbrev pub KeepsListing : Table → Held → Type 0
KeepsListing files held = AllEight (HasRows files held) × AllEight (KeepsSlot files held)

abbrev pub IsReadyAll : State → Tables → Held → Type 0
IsReadyAll state tables held = AllEight (HoldsSlot state held) × AllEight (IsReadySlot state tables held)
