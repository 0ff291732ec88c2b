-- The pairs of a left row, by a block, and what is read for them.
use Rattle.std.proofs.Common.{◌≡◌, ℕ, ℤ, ◌+◌, ◌-◌, ◌*◌, ◌<◌, ◌≤◌, Bool, true, false, cond, List, [], ◌∷◌, length, get_or, take, drop, Option, Some, None, refl, ap, sym, ◌∙◌, subst, arith, slice_get, ⊎_elim}
use Rattle.std.specs.Prelude.{IfSome}
use Rattle.std.proofs.lemmas.Bool.{cases_lt}
use Rattle.std.proofs.lemmas.List.{drop-drop}
use Rattle.afl_base.specs.Files.{State}
use Rattle.db_model.specs.declared.values.Value.{Value}
use Rattle.db_model.specs.declared.values.Value.TheVariants.{Number, Text}
use Rattle.db_model.specs.Answers.{live_tuples}
use Rattle.db_model.specs.Row.{Row, no_row}
use Rattle.tuple_file.specs.Tuples.{rows}
use Rattle.cursor.specs.declared.block.Block.{Block}
use Rattle.cursor.specs.declared.join.JoinCursor.{JoinCursor}
use Rattle.cursor.specs.Blocks.{FindsSlot, HasMetRights, IsBlockFor, PairsInBlock, StandsFor, at_next_row, behind_slot, cost_in_blocks, number_held, number_of_row, number_of_value}
use Rattle.cursor.specs.Pairs.{MayReadPairs, belongs, lefts_of, pairs_left, partner_slots, right_side_cost, right_side_costs}
use Rattle.cursor.proofs.Joins.{first_costs, no_live, one_cost, right_found, right_none, stands_at}
use Rattle.cursor.proofs.Suited.{count_rows}

-- ---- a left row by what is held of it

value_of : (o : Option Value) (z : ℤ) → number_of_value o ≡ Some z → o ≡ Some (Number z)
value_of None z e = absurd (cc)
value_of (Some (Text bytes)) z e = absurd (cc)
value_of (Some (Number y)) z e =
    let same : y ≡ z = cc in
    ap (λ (n : ℤ). Some (Number n)) same

is_live : (b : Bool) (o : Option ℤ) (z : ℤ) → cond b o None ≡ Some z → b ≡ true
is_live true o z e = refl
is_live false o z e = absurd (cc)

is_there : (b : Bool) (o : Option ℤ) (z : ℤ) → cond b o None ≡ Some z → o ≡ Some z
is_there true o z e = e
is_there false o z e = absurd (cc)

live_one : (r : Row) (place : ℕ) (z : ℤ) → number_of_row place r ≡ Some z → r ≡ record { tuple = r.tuple; live = true }
live_one r place z e = ap (λ (b : Bool). record { tuple = r.tuple; live = b }) (is_live r.live (number_of_value (slice_get r.tuple place)) z e)

value_there : (r : Row) (place : ℕ) (z : ℤ) → number_of_row place r ≡ Some z → slice_get r.tuple place ≡ Some (Number z)
value_there r place z e = value_of (slice_get r.tuple place) z (is_there r.live (number_of_value (slice_get r.tuple place)) z e)

no_slot : (slot : ℕ) → Some slot ≡ None → ⊥
no_slot slot e = absurd (cc)

module _ (b : Block) (c : JoinCursor) (lefts rights : List Row) (for : IsBlockFor b c) (read : HasMetRights b c lefts rights) (here : c.at < c.left_slots) (inside : c.at < b.end)
    (many : c.left_slots ≤ length lefts) (few : c.right_slots ≤ length rights) where
  -- what the right side of the left row costs
  abbrev cost_here : ℕ
  cost_here = right_side_costs c rights (take 1 (drop c.at (lefts_of c lefts)))

  pub row_held : StandsFor (number_held b (c.at - b.begin)) c.left_on (get_or lefts c.at no_row)
  row_held =
      let begun = for.begun in
      let there : b.begin + (c.at - b.begin) ≡ c.at = omega (arith, begun) in
      subst (λ (n : ℕ). StandsFor (number_held b (c.at - b.begin)) c.left_on (get_or lefts n no_row)) there (read.holds (c.at - b.begin) (omega (arith, begun, inside)))

  order : c.from ≤ c.right_slots
  order = omega (arith, for.from, for.seen)

  removed : StandsFor None c.left_on (get_or lefts c.at no_row) → live_tuples (take 1 (drop c.at (lefts_of c lefts))) ≡ []
  removed is =
      let t = (get_or lefts c.at no_row).tuple in
      stands_at c lefts rights t false here many (ap (λ (l : Bool). record { tuple = t; live = l }) (is.removed refl))

  alive : (z : ℤ) → StandsFor (Some z) c.left_on (get_or lefts c.at no_row) → live_tuples (take 1 (drop c.at (lefts_of c lefts))) ≡ (get_or lefts c.at no_row).tuple ∷ []
  alive z is = stands_at c lefts rights (get_or lefts c.at no_row).tuple true here many (live_one (get_or lefts c.at no_row) c.left_on z is.number)

  value_held : (z : ℤ) → StandsFor (Some z) c.left_on (get_or lefts c.at no_row) → slice_get (get_or lefts c.at no_row).tuple c.left_on ≡ Some (Number z)
  value_held z is = value_there (get_or lefts c.at no_row) c.left_on z is.number

  pairs_by : (held : Option ℤ) → StandsFor held c.left_on (get_or lefts c.at no_row) → (found : Option ℕ) (left right : List Value) → FindsSlot found held c.right_on rights c.from c.right_slots
      → IfSome found (λ slot. slot < c.right_slots) → IfSome found (λ slot. get_or rights slot no_row ≡ record { tuple = right; live = true })
      → IfSome found (λ _. get_or lefts c.at no_row ≡ record { tuple = left; live = true }) → PairsInBlock found (left, right) c lefts rights
  pairs_by None is None left right finds below there row = no_live c lefts rights (removed is)
  pairs_by None is (Some slot) left right finds below there row = absurd (no_slot slot finds)
  pairs_by (Some z) is None left right finds below there row =
      let t = (get_or lefts c.at no_row).tuple in
      right_none c lefts rights t (alive z is) order few
      (subst (λ (v : Option Value). partner_slots (belongs v c.right_on) rights c.from c.right_slots ≡ []) (sym (value_held z is)) finds)
  pairs_by (Some z) is (Some slot) left right finds below there row =
      let t = (get_or lefts c.at no_row).tuple in
      let same : t ≡ left = ap (λ (r : Row). r.tuple) row in
      subst (λ (x : List Value). pairs_left c lefts rights ≡ (x, right) ∷ pairs_left (behind_slot c slot) lefts rights) same
      (right_found c lefts rights t (alive z is) order few slot right c.inner
      (subst (λ (v : Option Value). partner_slots (belongs v c.right_on) rights c.from c.right_slots ≡ slot ∷ partner_slots (belongs v c.right_on) rights (slot + 1) c.right_slots) (sym (value_held z is)) finds)
      below there)

  pub block_pairs : (found : Option ℕ) (left right : List Value) → FindsSlot found (number_held b (c.at - b.begin)) c.right_on rights c.from c.right_slots
      → IfSome found (λ slot. slot < c.right_slots) → IfSome found (λ slot. get_or rights slot no_row ≡ record { tuple = right; live = true })
      → IfSome found (λ _. get_or lefts c.at no_row ≡ record { tuple = left; live = true }) → PairsInBlock found (left, right) c lefts rights
  block_pairs found left right = pairs_by (number_held b (c.at - b.begin)) row_held found left right

  -- a left row that has a partner is live
  live_by : (held : Option ℤ) → StandsFor held c.left_on (get_or lefts c.at no_row) → (slot : ℕ) → FindsSlot (Some slot) held c.right_on rights c.from c.right_slots
      → (found : Option ℤ) → found ≡ number_of_row c.left_on (get_or lefts c.at no_row) → (left : List Value) → IfSome found (λ _. get_or lefts c.at no_row ≡ record { tuple = left; live = true })
      → get_or lefts c.at no_row ≡ record { tuple = left; live = true }
  live_by None is slot finds found e left row = absurd (no_slot slot finds)
  live_by (Some z) is slot finds None e left row = let no : None ≡ Some z = e ∙ is.number in absurd (cc)
  live_by (Some z) is slot finds (Some y) e left row = row

  live_row : (held : Option ℤ) → StandsFor held c.left_on (get_or lefts c.at no_row) → (slot : ℕ) → FindsSlot (Some slot) held c.right_on rights c.from c.right_slots
      → get_or lefts c.at no_row ≡ record { tuple = (get_or lefts c.at no_row).tuple; live = true }
  live_row None is slot finds = absurd (no_slot slot finds)
  live_row (Some z) is slot finds = live_one (get_or lefts c.at no_row) c.left_on z is.number

  pub left_read : (slot : ℕ) → FindsSlot (Some slot) (number_held b (c.at - b.begin)) c.right_on rights c.from c.right_slots
      → (found : Option ℤ) → found ≡ number_of_row c.left_on (get_or lefts c.at no_row) → (left : List Value) → IfSome found (λ _. get_or lefts c.at no_row ≡ record { tuple = left; live = true })
      → get_or lefts c.at no_row ≡ record { tuple = left; live = true }
  left_read slot finds found e left row = live_by (number_held b (c.at - b.begin)) row_held slot finds found e left row

  -- ---- what is read

  scanned : (z : ℤ) → StandsFor (Some z) c.left_on (get_or lefts c.at no_row) → 6 * c.right_slots ≤ cost_here
  scanned z is =
      let t = (get_or lefts c.at no_row).tuple in
      let one = one_cost c lefts rights t (alive z is) order few in
      omega (arith, one, few, for.scans (slice_get t c.left_on) rights)

  module _ (r0 r1 : ℕ) where
    paid_by : (held : Option ℤ) → StandsFor held c.left_on (get_or lefts c.at no_row) → (held ≡ None → r1 ≤ r0) → r1 + 6 * c.from ≤ r0 + 6 * c.right_slots → r1 ≤ r0 + (cost_here - 6 * c.from)
    paid_by None is unread paid = let same = unread refl in omega (arith, same)
    paid_by (Some z) is unread paid = omega (arith, scanned z is, paid)

    -- the left row is done
    pub row_paid : (number_held b (c.at - b.begin) ≡ None → r1 ≤ r0) → r1 + 6 * c.from ≤ r0 + 6 * c.right_slots → r1 ≤ r0 + (cost_here - 6 * c.from)
    row_paid unread paid = paid_by (number_held b (c.at - b.begin)) row_held unread paid

    pub none_paid : pairs_left c lefts rights ≡ pairs_left (at_next_row c) lefts rights → r1 ≤ r0 + (cost_here - 6 * c.from)
        → r1 + cost_in_blocks b (at_next_row c) lefts rights ≤ r0 + cost_in_blocks b c lefts rights
    none_paid same paid =
        let long : length (pairs_left c lefts rights) ≡ length (pairs_left (at_next_row c) lefts rights) = ap length same in
        let behind : right_side_costs c rights (drop (c.at + 1) (lefts_of c lefts))
        ≡ right_side_costs c rights (take 1 (drop (c.at + 1) (lefts_of c lefts))) + right_side_costs c rights (drop (c.at + 1 + 1) (lefts_of c lefts)) =
        first_costs c rights (drop (c.at + 1) (lefts_of c lefts))
        ∙ ap (λ (l : List Row). right_side_costs c rights (take 1 (drop (c.at + 1) (lefts_of c lefts))) + right_side_costs c rights l) (drop-drop 1 (c.at + 1) (lefts_of c lefts)) in
        omega (arith, long, behind, paid)

    -- a pair of it was found, and its left row was read
    some_by : (held : Option ℤ) → StandsFor held c.left_on (get_or lefts c.at no_row) → (slot : ℕ) → FindsSlot (Some slot) held c.right_on rights c.from c.right_slots → slot < c.right_slots
        → r1 + 6 * c.from ≤ r0 + 6 * (slot + 1) → r1 + (cost_here - 6 * (slot + 1)) ≤ r0 + (cost_here - 6 * c.from)
    some_by None is slot finds below paid = absurd (no_slot slot finds)
    some_by (Some z) is slot finds below paid = omega (arith, scanned z is, below, paid)

    pub some_paid : (r2 slot : ℕ) (pair : List Value × List Value) → FindsSlot (Some slot) (number_held b (c.at - b.begin)) c.right_on rights c.from c.right_slots → slot < c.right_slots
        → pairs_left c lefts rights ≡ pair ∷ pairs_left (behind_slot c slot) lefts rights
        → r1 + 6 * c.from ≤ r0 + 6 * (slot + 1) → r2 ≤ r1 + 6 → r2 + cost_in_blocks b (behind_slot c slot) lefts rights ≤ r0 + cost_in_blocks b c lefts rights
    some_paid r2 slot pair finds below same paid read =
        let long : length (pairs_left c lefts rights) ≡ length (pairs_left (behind_slot c slot) lefts rights) + 1 = ap length same ∙ omega arith in
        let right = some_by (number_held b (c.at - b.begin)) row_held slot finds below paid in
        omega (arith, long, right, read)

    -- a fault came while the left row of a pair was read: that pair was to come
    pub left_fault : (r2 slot : ℕ) → FindsSlot (Some slot) (number_held b (c.at - b.begin)) c.right_on rights c.from c.right_slots → slot < c.right_slots
        → (right : List Value) → get_or rights slot no_row ≡ record { tuple = right; live = true }
        → r1 + 6 * c.from ≤ r0 + 6 * (slot + 1) → r2 ≤ r1 + 6 → r2 ≤ r0 + cost_in_blocks b c lefts rights
    left_fault r2 slot finds below right there paid read =
        let t = (get_or lefts c.at no_row).tuple in
        let row = live_row (number_held b (c.at - b.begin)) row_held slot finds in
        let pairs = block_pairs (Some slot) t right finds below there row in
        let most = some_paid r2 slot (t, right) finds below pairs paid read in
        omega (arith, most)

    -- a fault came while its right side was read
    pub fault_paid : r1 ≤ r0 + (cost_here - 6 * c.from) → r1 ≤ r0 + cost_in_blocks b c lefts rights
    fault_paid paid = omega (arith, paid)

-- ---- both relations have the slots that they had when the join began

pub lefts_there : (state : State) (c : JoinCursor) → MayReadPairs state c → c.left_slots ≤ length (rows state.files c.left)
lefts_there state c may =
    ⊎_elim (λ (some : 0 < c.left_slots). omega (arith, may.left_slots some, count_rows state c.left)) (λ (none : c.left_slots ≤ 0). omega (arith, none)) (cases_lt 0 c.left_slots)

pub rights_there : (state : State) (c : JoinCursor) → MayReadPairs state c → c.right_slots ≤ length (rows state.files c.right)
rights_there state c may =
    ⊎_elim (λ (some : 0 < c.right_slots). omega (arith, may.right_slots some, count_rows state c.right)) (λ (none : c.right_slots ≤ 0). omega (arith, none)) (cases_lt 0 c.right_slots)
