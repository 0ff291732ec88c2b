-- A left row of which the right side has no more.
use Rattle.std.proofs.Common.{◌≡◌, ◌∙◌, ℕ, ◌-◌, ◌<◌, ◌≤◌, Bool, true, false, cond, List, [], ◌∷◌, length, get_or, take, drop, slice_get, Option, Some, ap, arith, refl, subst, sym, ⊎_elim}
use Rattle.std.specs.List.{range_with_len}
use Rattle.std.proofs.lemmas.Bool.{cases_lt}
use Rattle.afl_base.specs.Files.{State}
use Rattle.db_model.specs.declared.values.Value.{Value}
use Rattle.db_model.specs.Answers.{live_tuples}
use Rattle.db_model.specs.Row.{Row, no_row}
use Rattle.index_set.specs.declared.candidates.Candidates.{Candidates}
use Rattle.index_set.specs.Tables.{Tables}
use Rattle.index_set.specs.Walks.{Fits, ahead}
use Rattle.tuple_file.specs.Tuples.{rows}
use Rattle.cursor.specs.declared.join.JoinCursor.{JoinCursor}
use Rattle.cursor.specs.Pairs.{FitsInner, FitsPairs, HasAhead, IsOver, MayReadPairs, at_next_left, belongs, lefts_of, pairs_left, partner_slots}
use Rattle.cursor.specs.Remaining.{passing}
use Rattle.cursor.proofs.BlockPairs.{lefts_there, rights_there}
use Rattle.cursor.proofs.Joins.{no_live, right_none, stands_at}

module _ (c : JoinCursor) (lefts rights : List Row) (inside : c.at < c.left_slots) (many : c.left_slots ≤ length lefts) (order : c.from ≤ c.right_slots) (few : c.right_slots ≤ length rights)
    (none : (left : List Value) → live_tuples (take 1 (drop c.at (lefts_of c lefts))) ≡ left ∷ [] → partner_slots (belongs (slice_get left c.left_on) c.right_on) rights c.from c.right_slots ≡ []) where
  by_row : (left : List Value) (live : Bool) → live_tuples (take 1 (drop c.at (lefts_of c lefts))) ≡ cond live (left ∷ []) [] → pairs_left c lefts rights ≡ pairs_left (at_next_left c) lefts rights
  by_row left true e = right_none c lefts rights left e order few (none left e)
  by_row left false e = no_live c lefts rights e

  pub none_left : pairs_left c lefts rights ≡ pairs_left (at_next_left c) lefts rights
  none_left =
      let r = get_or lefts c.at no_row in
      by_row r.tuple r.live (stands_at c lefts rights r.tuple r.live inside many refl)

-- nothing is ahead of where the right side stands
pub inner_over : (state : State) (tables : Tables) (c : JoinCursor) (inner : Candidates) → c.inner ≡ Some inner → MayReadPairs state c → FitsPairs c state tables
    → (Fits inner state tables (rows state.files c.right) → ahead inner (rows state.files c.right) ≡ []) → IsOver c (rows state.files c.left) (rows state.files c.right)
inner_over state tables c inner is may fits over inside =
    none_left c (rows state.files c.left) rights inside (lefts_there state c may) may.within (rights_there state c may)
    (λ left here. ⊎_elim (some left here) (nothing left) (cases_lt 0 c.right_slots))
  where
    rights : List Row
    rights = rows state.files c.right

    some : (left : List Value) → live_tuples (take 1 (drop c.at (lefts_of c (rows state.files c.left)))) ≡ left ∷ [] → 0 < c.right_slots
        → partner_slots (belongs (slice_get left c.left_on) c.right_on) rights c.from c.right_slots ≡ []
    some left here any =
        let test = belongs (slice_get left c.left_on) c.right_on in
        let there = subst (λ (o : Option Candidates). FitsInner o state tables rights) is (fits.inner any) in
        let left_ahead = subst (λ (o : Option Candidates). HasAhead o test rights c.from c.right_slots) is (fits.ahead any left here) in
        sym left_ahead ∙ ap (passing test rights) (over there)

    nothing : (left : List Value) → c.right_slots ≤ 0 → partner_slots (belongs (slice_get left c.left_on) c.right_on) rights c.from c.right_slots ≡ []
    nothing left none =
        let empty : c.right_slots - c.from ≡ 0 = omega (arith, none) in
        ap (λ (n : ℕ). passing (belongs (slice_get left c.left_on) c.right_on) rights (range_with_len c.from n)) empty
