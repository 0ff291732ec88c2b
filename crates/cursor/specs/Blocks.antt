-- Blocks of left rows, for each of which the right rows are read once.
use Rattle.std.specs.Prelude.{◌≡◌, ◌≤◌, ◌<◌, ℕ, ℤ, pos, ◌+◌, ◌*◌, ◌-◌, Bool, false, List, [], ◌∷◌, take, drop, Option, Some, None, get_or, length, slice_get, if◌then◌else◌, IsTrue, MatchBool, MatchOption}
use Rattle.afl_base.specs.Files.{State}
use Rattle.db_model.specs.declared.values.Value.{Value}
use Rattle.db_model.specs.declared.values.Value.TheVariants.{Number, Text}
use Rattle.db_model.specs.Row.{Row, no_row}
use Rattle.index_set.specs.Tables.{Tables}
use Rattle.tuple_file.specs.Column.{IsNumber}
use Rattle.tuple_file.specs.Tuples.{rows}
use Rattle.cursor.specs.declared.block.Block.{Block}
use Rattle.cursor.specs.declared.join.JoinCursor.{JoinCursor}
use Rattle.cursor.specs.Marks.{MayHave}
use Rattle.cursor.specs.Pairs.{FitsPairs, belongs, join_cost_ahead, lefts_of, pairs_left, partner_slots, right_side_cost, right_side_costs}

-- ---- numbers

abbrev pub number_of_value : Option Value → Option ℤ
number_of_value (Some (Number z)) = Some z
number_of_value (Some (Text bytes)) = None
number_of_value None = None

-- the number at a place of a live row
abbrev pub number_of_row : ℕ → Row → Option ℤ
number_of_row place row = if row.live then number_of_value (slice_get row.tuple place) else None

-- the number of the nth left row of a block, none where it is removed
abbrev pub number_held : Block → ℕ → Option ℤ
number_held b nth = if get_or b.live nth false then Some (get_or b.numbers nth (pos 0)) else None

-- ---- what a block holds

-- what is held of a left row is its number, and nothing where it is removed
pub record StandsFor (held : Option ℤ) (place : ℕ) (row : Row) : Type 0 where
  pub number : number_of_row place row ≡ held
  pub removed : held ≡ None → row.live ≡ false

abbrev pub HoldsLefts : Block → ℕ → List Row → Type 0
HoldsLefts b place lefts = (nth : ℕ) → nth < b.end - b.begin → StandsFor (number_held b nth) place (get_or lefts (b.begin + nth) no_row)

-- a right slot lies between the first and the last that the nth left row has
pub record LiesBetween (b : Block) (nth slot : ℕ) : Type 0 where
  pub first : get_or b.firsts nth 0 ≤ slot
  pub last : slot < get_or b.ends nth 0

-- each row that it holds is marked as one that may have its number
abbrev pub AreMarked : Block → Type 0
AreMarked b = (nth : ℕ) (number : ℤ) → nth < b.end - b.begin → number_held b nth ≡ Some number → MayHave b.marks nth number

-- but for the right rows that were read for it, it is the same block
abbrev pub IsSameBlock : (old new : Block) → Type 0
IsSameBlock old new = new ≡ record old { seen = new.seen; firsts = new.firsts; ends = new.ends }

-- between the first and the last lie all the right slots read so far that have its number
pub record HasMet (b : Block) (place : ℕ) (rights : List Row) : Type 0 where
  pub marked : AreMarked b
  pub lies : (nth slot : ℕ) (number : ℤ) → nth < b.end - b.begin → slot < b.seen → number_held b nth ≡ Some number
      → number_of_row place (get_or rights slot no_row) ≡ Some number → LiesBetween b nth slot

-- of the rows with a number the first from a slot on was found, or there was none
abbrev pub FindsSlot : Option ℕ → Option ℤ → ℕ → List Row → (from count : ℕ) → Type 0
FindsSlot found None place rights from count = found ≡ None
FindsSlot found (Some number) place rights from count =
    let test = belongs (Some (Number number)) place in
    MatchOption found (partner_slots test rights from count ≡ []) (λ slot. partner_slots test rights from count ≡ slot ∷ partner_slots test rights (slot + 1) count)

-- ---- a join by blocks

-- where the join stands in its block, and that a scan is the plan for its right side
pub record IsBlockFor (b : Block) (c : JoinCursor) : Type 0 where
  pub numbers : IsNumber c.left.schema.attributes c.left_on
  pub scans : (value : Option Value) (rights : List Row) → 6 * length rights ≤ right_side_cost c.right_indexes c.right_on value rights
  pub begun : b.begin ≤ c.at
  pub inside : c.at ≤ b.end
  pub within : b.end ≤ c.left_slots
  pub few : b.end ≤ b.begin + 256
  pub from : c.from ≤ b.seen
  pub seen : b.seen ≤ c.right_slots
  pub anew : c.at ≡ b.end → c.from ≡ 0
  pub rests : c.inner ≡ None

-- it holds left rows from where the join stands, for which no right row was read yet
pub record BeginsAt (b : Block) (c : JoinCursor) : Type 0 where
  pub begins : b.begin ≡ c.at
  pub anew : b.seen ≡ 0
  pub some : c.at < b.end
  pub within : b.end ≤ c.left_slots
  pub few : b.end ≤ b.begin + 256

-- a slot of the right side, which was read for the block
pub record WasRead (slot : ℕ) (b : Block) (c : JoinCursor) : Type 0 where
  pub seen : slot < b.seen
  pub below : slot < c.right_slots

abbrev pub MayReadBy : Block → JoinCursor → Type 0
MayReadBy b c = IsTrue b.serves → IsBlockFor b c

-- over these rows, it holds the left rows, and has met the right rows that were read for it
pub record HasMetRights (b : Block) (c : JoinCursor) (lefts rights : List Row) : Type 0 where
  pub holds : HoldsLefts b c.left_on lefts
  pub met : HasMet b c.right_on rights

abbrev pub IsBlockOf : Block → JoinCursor → List Row → List Row → Type 0
IsBlockOf b c lefts rights = IsTrue b.serves → HasMetRights b c lefts rights

-- it has answered the pair at a right slot
abbrev pub behind_slot : JoinCursor → ℕ → JoinCursor
behind_slot c slot = record c { from = slot + 1 }

-- it stands at the next left row
abbrev pub at_next_row : JoinCursor → JoinCursor
at_next_row c = record c { at = c.at + 1; from = 0 }

-- six pages for each left row behind the block and for each pair, and the right side of each live left row: that of the
-- one at which it stands has paid for the right slots before
abbrev pub cost_in_blocks : Block → JoinCursor → List Row → List Row → ℕ
cost_in_blocks b c lefts rights =
    6 * (c.left_slots - b.end + length (pairs_left c lefts rights))
    + (right_side_costs c rights (take 1 (drop c.at (lefts_of c lefts))) - 6 * c.from)
    + right_side_costs c rights (drop (c.at + 1) (lefts_of c lefts))

abbrev pub cost_by_block : Block → JoinCursor → List Row → List Row → ℕ
cost_by_block b c lefts rights = if b.serves then cost_in_blocks b c lefts rights else join_cost_ahead c lefts rights

-- a pair of the left row at which it stands was answered, or none of it was left
abbrev pub PairsInBlock : Option ℕ → List Value × List Value → JoinCursor → (lefts rights : List Row) → Type 0
PairsInBlock found pair c lefts rights =
    MatchOption found (pairs_left c lefts rights ≡ pairs_left (at_next_row c) lefts rights)
    (λ slot. pairs_left c lefts rights ≡ pair ∷ pairs_left (behind_slot c slot) lefts rights)

abbrev pub PaysInBlock : Option ℕ → Block → JoinCursor → (lefts rights : List Row) → (before after : ℕ) → Type 0
PaysInBlock found b c lefts rights before after =
    MatchOption found (after + cost_in_blocks b (at_next_row c) lefts rights ≤ before + cost_in_blocks b c lefts rights)
    (λ slot. after + cost_in_blocks b (behind_slot c slot) lefts rights ≤ before + cost_in_blocks b c lefts rights)

-- it has answered the first pair that was left, or there was none
pub record YieldsByBlock (found : Bool) (pair : List Value × List Value) (b_old b_new : Block) (old new : JoinCursor) (state : State) (tables : Tables) (before after : ℕ) : Type 0 where
  pub next : let lefts = rows state.files old.left in let rights = rows state.files old.right in
      MatchBool found (pairs_left old lefts rights ≡ pair ∷ pairs_left new lefts rights) (pairs_left old lefts rights ≡ [])
  pub fits : FitsPairs new state tables
  pub block : IsBlockOf b_new new (rows state.files old.left) (rows state.files old.right)
  pub reads : let lefts = rows state.files old.left in let rights = rows state.files old.right in
      after + cost_by_block b_new new lefts rights ≤ before + cost_by_block b_old old lefts rights
