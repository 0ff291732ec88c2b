-- Rows that are marked as removed one after the other, and the slots that are.
use Rattle.std.specs.Prelude.{◌≡◌, ◌≤◌, ◌<◌, ℕ, true, false, List, Option, [], ◌∷◌, drop, get_or, length, set, take}
use Rattle.cursor.specs.Remaining.{selected_slots}
use Rattle.db_model.specs.Cond.{Cond}
use Rattle.db_model.specs.declared.schemas.Attribute.{Attribute}
use Rattle.db_model.specs.Item.{selects}
use Rattle.db_model.specs.Row.{Row, no_row}
use Rattle.lvm.specs.declared.instruction.Instruction.{Instruction}
use Rattle.lvm.specs.Code.{IsCodeOf}
use Rattle.tuple_file.specs.declared.span.Span.{Span}
use Rattle.tuple_file.specs.declared.tuples.Tuples.{Tuples}
use Rattle.tuple_file.specs.Tuples.{is_in}
use Rattle.session_rows.specs.declared.selecting.Selected.{Selected}

abbrev pub dead : Row → Row
dead row = record row { live = false }

abbrev pub marked : List ℕ → List Row → List Row
marked [] rows = rows
marked (slot ∷ slots) rows = marked slots (set rows slot (dead (get_or rows slot no_row)))

-- each of them is less than a number
abbrev pub AreBelow : ℕ → List ℕ → Type 0
AreBelow n slots = (i : ℕ) → i < length slots → get_or slots i 0 < n

-- this many slots were selected, these are the first of them, and all lie before the end
pub record IsSelected (s : Selected) (slots : List ℕ) : Type 0 where
  pub count : s.count ≡ length slots
  pub first : s.first ≡ take 29 slots
  pub last : AreBelow s.end slots

-- of some slots those before the ones that are left
pub record IsMarkedFront (s : Selected) (slots left : List ℕ) : Type 0 where
  pub within : s.count ≤ length slots
  pub first : s.first ≡ take 29 (take s.count slots)
  pub behind : drop s.count slots ≡ left
  pub last : AreBelow s.end (take s.count slots)

-- no live row outside of these slots is selected
abbrev pub SelectsWithin : Span → List Attribute → Option Cond → List Row → Type 0
SelectsWithin span attributes condition all = (slot : ℕ) → slot < length all → is_in span slot ≡ false → (get_or all slot no_row).live ≡ true
    → selects attributes condition (get_or all slot no_row).tuple ≡ false

-- P of the condition of a code, where what was selected of the rows is what the condition selects
abbrev pub OfSelected : List Instruction → Selected → Tuples → List Row → (Option Cond → Type 0) → Type 0
OfSelected code s tuples all P = (condition : Option Cond) → IsCodeOf tuples.schema.attributes condition code
    → IsSelected s (selected_slots tuples.schema.attributes condition all) → P condition
