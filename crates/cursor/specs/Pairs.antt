-- The pairs that a cursor of two relations has still to answer.
use Rattle.std.specs.Prelude.{◌≡◌, ◌≤◌, ◌<◌, ⊤, ℕ, ◌+◌, ◌*◌, ◌-◌, Bool, true, false, List, [], ◌++◌, filter, get_or, length, take, drop, slice_get, ◌∷◌, Option, Some, None, IfSome, MatchBool, MatchOption}
use Rattle.std.specs.List.{range_with_len}
use Rattle.afl_base.specs.Files.{State}
use Rattle.db_model.specs.declared.values.Value.{Value}
use Rattle.db_model.specs.Answers.{live_tuples, pairs, same_value}
use Rattle.db_model.specs.Cost.{chosen_cost, ranges_at, right_costs as costs_of_right}
use Rattle.db_model.specs.Row.{Row, no_row}
use Rattle.index_maxheap.specs.declared.places.Place.{Place}
use Rattle.index_set.specs.declared.candidates.Candidates.{Candidates}
use Rattle.index_set.specs.declared.info.IndexInfo.{IndexInfo}
use Rattle.index_set.specs.Complete.{AreIndexesOf, AreReadable}
use Rattle.index_set.specs.Plans.{kinds}
use Rattle.index_set.specs.Tables.{Tables}
use Rattle.index_set.specs.Walks.{Fits, IsSafeBy, ahead, cost_ahead}
use Rattle.tuple_file.specs.declared.tuples.Tuples.{Tuples}
use Rattle.tuple_file.specs.Tuples.{HoldsRows, rows, slots}
use Rattle.cursor.specs.declared.join.JoinCursor.{JoinCursor}
use Rattle.cursor.specs.declared.partner.Partnered.{Partnered}
use Rattle.cursor.specs.Remaining.{passing}

-- of the live tuples of some rows, the pairs with the same value at two places
abbrev pub matching : ℕ → ℕ → List Row → List Row → List (List Value × List Value)
matching left_on right_on lefts rights =
    filter (λ pair. same_value (slice_get pair.0 left_on) (slice_get pair.1 right_on)) (pairs (live_tuples lefts) (live_tuples rights))

-- the rows of the slots at the beginning
abbrev pub lefts_of : JoinCursor → List Row → List Row
lefts_of c lefts = take c.left_slots lefts

abbrev pub rights_of : JoinCursor → List Row → List Row
rights_of c rights = take c.right_slots rights

-- the pairs of the left row at which it stands from a right slot on, then those of the left rows after it
abbrev pub pairs_left : JoinCursor → List Row → List Row → List (List Value × List Value)
pairs_left c lefts rights =
    matching c.left_on c.right_on (take 1 (drop c.at (lefts_of c lefts))) (drop c.from (rights_of c rights))
    ++ matching c.left_on c.right_on (drop (c.at + 1) (lefts_of c lefts)) (rights_of c rights)

-- it has answered the pair at a right slot
abbrev pub behind_pair : JoinCursor → ℕ → Candidates → JoinCursor
behind_pair c slot inner = record c { from = slot + 1; inner = Some inner }

-- it stands at the next left row
abbrev pub at_next_left : JoinCursor → JoinCursor
at_next_left c = record c { at = c.at + 1; from = 0; inner = None }

-- of the left row at which it stands no pair is left
abbrev pub IsOver : JoinCursor → (lefts rights : List Row) → Type 0
IsOver c lefts rights = c.at < c.left_slots → pairs_left c lefts rights ≡ pairs_left (at_next_left c) lefts rights

-- where its right side stands in a tree
abbrev pub place_in : Option Candidates → Option Place
place_in None = None
place_in (Some inner) = inner.place

-- a slot has a live row with this tuple
abbrev pub HasLive : List Row → ℕ → List Value → Type 0
HasLive all slot tuple = get_or all slot no_row ≡ record { tuple = tuple; live = true }

-- it has answered the pair of the left row at which it stands and of the right row before the one from which it goes on
pub record HasAnswered (c : JoinCursor) (lefts rights : List Row) (left right : List Value) : Type 0 where
  pub left_row : HasLive lefts c.at left
  pub some : 0 < c.from
  pub right_row : HasLive rights (c.from - 1) right

-- ---- what holds also where files do not tell

abbrev pub IsSafeInner : Option Candidates → State → Type 0
IsSafeInner None state = ⊤
IsSafeInner (Some inner) state = IsSafeBy inner.search state

abbrev pub HasSlots : Option Candidates → ℕ → Type 0
HasSlots None slots = ⊤
HasSlots (Some inner) slots = inner.slots ≡ slots

-- it may go on reading; a relation that had no slot is free
pub record MayReadPairs (state : State) (c : JoinCursor) : Type 0 where
  pub left : 0 < c.left_slots → HoldsRows state c.left
  pub left_slots : 0 < c.left_slots → c.left_slots ≤ slots state.files c.left
  pub right : 0 < c.right_slots → HoldsRows state c.right
  pub right_slots : 0 < c.right_slots → c.right_slots ≤ slots state.files c.right
  pub readable : 0 < c.right_slots → AreReadable state c.right_slots c.right_indexes
  pub safe : 0 < c.right_slots → IsSafeInner c.inner state
  pub inner : HasSlots c.inner c.right_slots
  pub within : c.from ≤ c.right_slots

-- the same of its right side alone, from a slot on, where the right relation had slots
pub record MayReadRight (state : State) (right : Tuples) (infos : List IndexInfo) (stands : Option Candidates) (from count : ℕ) : Type 0 where
  pub holds : HoldsRows state right
  pub within : count ≤ slots state.files right
  pub order : from ≤ count
  pub readable : AreReadable state count infos
  pub safe : IsSafeInner stands state
  pub inner : HasSlots stands count

-- ---- where the right side stands

abbrev pub FitsInner : Option Candidates → State → Tables → List Row → Type 0
FitsInner None state tables rights = ⊤
FitsInner (Some inner) state tables rights = Fits inner state tables rights

-- the slots from one on, below a number, whose rows pass a test
abbrev pub partner_slots : (List Value → Bool) → List Row → (from count : ℕ) → List ℕ
partner_slots test rights from count = passing test rights (range_with_len from (count - from))

-- the rows that pass a test, from a slot on, are ahead
abbrev pub HasAhead : Option Candidates → (List Value → Bool) → List Row → ℕ → ℕ → Type 0
HasAhead None test rights from slots = ⊤
HasAhead (Some inner) test rights from slots =
    passing test rights (ahead inner rights) ≡ partner_slots test rights from slots

-- whether a right tuple belongs to a value
abbrev pub belongs : Option Value → ℕ → List Value → Bool
belongs value on tuple = same_value value (slice_get tuple on)

-- all that belongs to the left row at which it stands is ahead
abbrev pub HasAllAhead : JoinCursor → List Row → List Row → Type 0
HasAllAhead c lefts rights =
    (left : List Value) → live_tuples (take 1 (drop c.at (lefts_of c lefts))) ≡ left ∷ []
    → HasAhead c.inner (belongs (slice_get left c.left_on) c.right_on) rights c.from c.right_slots

-- its indexes are those of the right relation, and its right side stands where it should
pub record FitsPairs (c : JoinCursor) (state : State) (tables : Tables) : Type 0 where
  pub indexes : 0 < c.right_slots → AreIndexesOf state tables (rows state.files c.right) c.right_indexes
  pub inner : 0 < c.right_slots → FitsInner c.inner state tables (rows state.files c.right)
  pub ahead : 0 < c.right_slots → HasAllAhead c (rows state.files c.left) (rows state.files c.right)

-- ---- what is still read

-- the right side for a value
abbrev pub right_side_cost : List IndexInfo → ℕ → Option Value → List Row → ℕ
right_side_cost infos on value rights = chosen_cost (kinds infos) (ranges_at on value) rights

-- for each live one of some left rows
abbrev pub right_side_costs : JoinCursor → List Row → List Row → ℕ
right_side_costs c rights lefts = costs_of_right (kinds c.right_indexes) (c.left_on, c.right_on) rights lefts

-- a right side that has begun has paid for its beginning
abbrev pub inner_cost : Option Candidates → ℕ → List Row → ℕ
inner_cost None cost rights = cost
inner_cost (Some inner) cost rights = cost_ahead inner rights

-- six pages for each left slot and for each pair, and the right side of each live left row
abbrev pub join_cost_ahead : JoinCursor → List Row → List Row → ℕ
join_cost_ahead c lefts rights =
    6 * (c.left_slots - c.at + length (pairs_left c lefts rights))
    + inner_cost c.inner (right_side_costs c rights (take 1 (drop c.at (lefts_of c lefts)))) rights
    + right_side_costs c rights (drop (c.at + 1) (lefts_of c lefts))

-- the same where the left row at which it stands has been paid for, and all pairs are still to come
abbrev pub join_cost_behind : JoinCursor → List Row → List Row → ℕ
join_cost_behind c lefts rights =
    6 * (c.left_slots - (c.at + 1) + length (pairs_left c lefts rights)) + right_side_costs c rights (drop (c.at + 1) (lefts_of c lefts))

-- ---- where a cursor begins

-- what it is made of: it rests before the first pair of this many left and right slots
pub record IsBegunJoin (c : JoinCursor) (first second : Tuples) (infos : List IndexInfo) (on_first on_second lefts rights : ℕ) : Type 0 where
  pub left : c.left ≡ first
  pub right : c.right ≡ second
  pub indexes : c.right_indexes ≡ infos
  pub left_on : c.left_on ≡ on_first
  pub right_on : c.right_on ≡ on_second
  pub left_slots : c.left_slots ≡ lefts
  pub right_slots : c.right_slots ≡ rights
  pub at : c.at ≡ 0
  pub from : c.from ≡ 0
  pub rests : c.inner ≡ None

-- ---- steps of the right side

-- the first partner from a slot on was found, or there was none
abbrev pub FindsPartner : Option Partnered → (List Value → Bool) → List Row → (from count : ℕ) → Type 0
FindsPartner found test rights from count =
    MatchOption found (partner_slots test rights from count ≡ []) (λ p. partner_slots test rights from count ≡ p.slot ∷ partner_slots test rights (p.slot + 1) count)

-- and the right side stands after it
abbrev pub StandsBehind : Option Partnered → (List Value → Bool) → State → Tables → List Row → (count : ℕ) → Type 0
StandsBehind found test state tables rights count =
    IfSome found (λ p. Fits p.inner state tables rights × (passing test rights (ahead p.inner rights) ≡ partner_slots test rights (p.slot + 1) count))

-- what is ahead of it pays for what was read
abbrev pub PaysRight : Option Partnered → List Row → (before after : ℕ) → Type 0
PaysRight found rights before after = MatchOption found (after ≤ before) (λ p. after + cost_ahead p.inner rights ≤ before)

-- ---- steps at one left row: a pair of it was answered, or none of it was left

abbrev pub PairsAt : Option Partnered → List Value × List Value → JoinCursor → (lefts rights : List Row) → Type 0
PairsAt found pair c lefts rights =
    MatchOption found (pairs_left c lefts rights ≡ pairs_left (at_next_left c) lefts rights)
    (λ p. pairs_left c lefts rights ≡ pair ∷ pairs_left (behind_pair c p.slot p.inner) lefts rights)

abbrev pub PaysAt : Option Partnered → JoinCursor → (lefts rights : List Row) → (before after : ℕ) → Type 0
PaysAt found c lefts rights before after =
    MatchOption found (after + join_cost_ahead (at_next_left c) lefts rights ≤ before + join_cost_ahead c lefts rights)
    (λ p. after + join_cost_ahead (behind_pair c p.slot p.inner) lefts rights ≤ before + join_cost_ahead c lefts rights)

-- ---- steps of a cursor

-- it stands elsewhere, and not before
pub record MovesOn (old new : JoinCursor) : Type 0 where
  pub stands : new ≡ record old { at = new.at; from = new.from; inner = new.inner }
  pub later : old.at ≤ new.at

-- after a pair it stands at a left row, and after the last after all of them
pub record StopsAt (found : Bool) (old new : JoinCursor) : Type 0 where
  pub here : MatchBool found (new.at < new.left_slots) (new.left_slots ≤ new.at)
  pub at_end : found ≡ false → old.at ≤ old.left_slots → new.at ≡ new.left_slots

-- it has answered the first pair that was left, or there was none
pub record YieldsPair (found : Bool) (pair : List Value × List Value) (old new : JoinCursor) (state : State) (tables : Tables) (lefts rights : List Row) (before after : ℕ) : Type 0 where
  pub next : MatchBool found (pairs_left old lefts rights ≡ pair ∷ pairs_left new lefts rights) (pairs_left old lefts rights ≡ [])
  pub over : found ≡ false → pairs_left new lefts rights ≡ []
  pub fits : FitsPairs new state tables
  pub reads : after + join_cost_ahead new lefts rights ≤ before + join_cost_ahead old lefts rights

-- it has answered no pair, and the left row at which a fault came has been paid for
pub record FailsPair (old new : JoinCursor) (lefts rights : List Row) (before after : ℕ) : Type 0 where
  pub unanswered : pairs_left old lefts rights ≡ pairs_left new lefts rights
  pub reads : after + join_cost_behind new lefts rights ≤ before + join_cost_ahead old lefts rights
