-- The rows that a cursor of one relation has still to answer.
use Rattle.std.specs.Prelude.{◌≡◌, ◌≤◌, ◌<◌, ℕ, ◌+◌, ◌*◌, Bool, ◌&&◌, List, [], ◌∷◌, filter, get_or, length, map, Option, None, IfNone, MatchOption, slice_get}
use Rattle.std.specs.List.{AllByRecursion, range_with_len}
use Rattle.afl_base.specs.Files.{State}
use Rattle.db_model.specs.declared.schemas.Attribute.{Attribute}
use Rattle.db_model.specs.declared.values.Value.{Value}
use Rattle.db_model.specs.Cond.{Cond}
use Rattle.db_model.specs.Answers.{selected}
use Rattle.db_model.specs.Cost.{begin_cost, chosen_cost, passed}
use Rattle.db_model.specs.Item.{selects}
use Rattle.db_model.specs.Plan.{plan, ranges_of}
use Rattle.db_model.specs.Row.{AllSuit, Row, no_row, row_length, tuple_of}
use Rattle.index_set.specs.declared.candidates.Candidates.{Candidates}
use Rattle.index_set.specs.declared.info.IndexInfo.{IndexInfo}
use Rattle.index_set.specs.Plans.{kinds, slots_passed}
use Rattle.index_set.specs.Tables.{Tables}
use Rattle.index_set.specs.Walks.{Fits, IsChosen, IsSafeBy, ahead, cost_ahead, reads_by}
use Rattle.lvm.specs.declared.instruction.Instruction.{Instruction}
use Rattle.lvm.specs.Evaluate.{evaluated, verdict}
use Rattle.tuple_file.specs.declared.tuples.Tuples.{Tuples}
use Rattle.tuple_file.specs.Column.{IsNumber}
use Rattle.tuple_file.specs.Tuples.{HoldsRows, slots}
use Rattle.cursor.specs.declared.select.SelectCursor.{SelectCursor}

-- a row is live, and its tuple passes a test
abbrev pub is_live_and : (List Value → Bool) → Row → Bool
is_live_and test row = row.live && test row.tuple

-- of some slots those whose rows are so
abbrev pub passing : (List Value → Bool) → List Row → List ℕ → List ℕ
passing test all slots = filter (λ slot. is_live_and test (get_or all slot no_row)) slots

-- the slots that are passed until one of them is so, all where none is
abbrev pub passed_until : (List Value → Bool) → List Row → List ℕ → List ℕ
passed_until test all slots = passed (slice_get (passing test all slots) 0) slots

-- what is read for this many of the slots ahead
abbrev pub cost_of_slots : Candidates → List Row → ℕ → ℕ
cost_of_slots c all k = 6 * k + reads_by c.search c.place all k

abbrev pub tuples_at : List ℕ → List Row → List (List Value)
tuples_at slots all = map (λ slot. (get_or all slot no_row).tuple) slots

-- ---- cursors

-- whether a compiled condition selects a tuple
abbrev pub passes_code : List Instruction → List Value → Bool
passes_code code tuple = verdict (evaluated code tuple [])

-- the slots that a cursor has still to answer: of those ahead the live ones that the condition selects
abbrev pub slots_to_answer : SelectCursor → List Row → List ℕ
slots_to_answer c all = passing (passes_code c.code) all (ahead c.candidates all)

-- and their tuples
abbrev pub remaining : SelectCursor → List Row → List (List Value)
remaining c all = tuples_at (slots_to_answer c all) all

-- what is read until the next is answered
abbrev pub next_cost : SelectCursor → List Row → ℕ
next_cost c all = cost_of_slots c.candidates all (length (passed_until (passes_code c.code) all (ahead c.candidates all)))

-- the slots of the live rows that a condition selects
abbrev pub selected_slots : List Attribute → Option Cond → List Row → List ℕ
selected_slots attributes condition all = passing (selects attributes condition) all (range_with_len 0 (length all))

-- ---- where a cursor begins, and its steps

-- by a condition over the rows of a relation: what remains is what the condition selects, and the plan's cost is enough
pub record BeginsBy (c : SelectCursor) (attributes : List Attribute) (condition : Option Cond) (infos : List IndexInfo) (all : List Row) : Type 0 where
  pub remaining : remaining c all ≡ selected attributes condition all
  pub slots_left : slots_to_answer c all ≡ selected_slots attributes condition all
  pub ahead : ahead c.candidates all ≡ slots_passed (kinds infos) (ranges_of attributes condition) (length all) all
  pub cost : begin_cost (length all) (plan (kinds infos) (ranges_of attributes condition)) + cost_ahead c.candidates all
      ≤ chosen_cost (kinds infos) (ranges_of attributes condition) all

-- what it is made of: it rests, over this many slots, by one of the indexes
pub record IsNewCursor (c : SelectCursor) (relation : Tuples) (condition : List Instruction) (count : ℕ) (infos : List IndexInfo) : Type 0 where
  pub tuples : c.tuples ≡ relation
  pub code : c.code ≡ condition
  pub slots : c.candidates.slots ≡ count
  pub rests : c.candidates.place ≡ None
  pub chosen : IsChosen c.candidates.search infos

-- over these rows, a step of candidates to the next row that is live and passes a test: what is ahead pays for what was read
pub record StepsToRow (found : Option ℕ) (test : List Value → Bool) (old new : Candidates) (state : State) (tables : Tables) (all : List Row) (before after : ℕ) : Type 0 where
  pub first : MatchOption found (passing test all (ahead old all) ≡ [])
      (λ slot. passing test all (ahead old all) ≡ slot ∷ passing test all (ahead new all))
  pub over : IfNone found (ahead new all ≡ [])
  pub fits : Fits new state tables all
  pub reads : after + cost_ahead new all ≤ before + cost_ahead old all

-- over these rows, a cursor has answered the first tuple that remained, or there was none
pub record Yields (found : Option ℕ) (tuple : List Value) (old new : SelectCursor) (state : State) (tables : Tables) (all : List Row) (before after : ℕ) : Type 0 where
  pub next : MatchOption found (remaining old all ≡ []) (λ _. remaining old all ≡ tuple ∷ remaining new all)
  pub slot : MatchOption found (slots_to_answer old all ≡ []) (λ slot. slots_to_answer old all ≡ slot ∷ slots_to_answer new all)
  pub over : IfNone found (remaining new all ≡ [])
  pub fits : Fits new.candidates state tables all
  pub reads : after + cost_ahead new.candidates all ≤ before + cost_ahead old.candidates all

-- it failed at a row, with no more read than for all the rows ahead, and no more than to the next one
pub record FailsRow (old : SelectCursor) (all : List Row) (before after : ℕ) : Type 0 where
  pub ahead : after ≤ before + cost_ahead old.candidates all
  pub row : after ≤ before + next_cost old all

-- ---- what holds also where files do not tell

-- the bytes of a row, whole, and its values suit their attributes
pub record IsRowOf (attributes : List Attribute) (row : List ℕ) : Type 0 where
  pub whole : length row ≡ row_length attributes
  pub suits : AllSuit attributes (tuple_of attributes row)

-- each index of a list is on an attribute of numbers
abbrev pub AreOnNumbers : List Attribute → List IndexInfo → Type 0
AreOnNumbers attributes infos = AllByRecursion (λ info. IsNumber attributes info.attribute) infos

-- the rows of the candidates may be read: their relation has its slots still. One that began without slots is free
pub record MayRead (state : State) (tuples : Tuples) (c : Candidates) : Type 0 where
  pub holds : 0 < c.slots → HoldsRows state tuples
  pub slots : 0 < c.slots → c.slots ≤ slots state.files tuples
  pub safe : 0 < c.slots → IsSafeBy c.search state
