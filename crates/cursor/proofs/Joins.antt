-- Pairs of a join: one left row after the other, and the right rows that belong to each.
use Rattle.std.proofs.Common.{◌≡◌, ℕ, ◌+◌, ◌-◌, ◌*◌, ◌<◌, ◌≤◌, Bool, true, false, cond, List, [], ◌∷◌, ◌++◌, length, map, get_or, filter, take, drop, Option, Some, None, refl, ap, sym, ◌∙◌, subst, arith, slice_get, append-nil}
use Rattle.std.specs.Prelude.{IfSome, MatchOption, flat_map}
use Rattle.std.specs.List.{range_with_len}
use Rattle.std.proofs.lemmas.Grind.{flat_map-append}
use Rattle.std.proofs.lemmas.List.{drop-drop, drop-take, get_or-take, length-take, length-take-le, take_all, take-append-drop}
use Rattle.std.proofs.Math.ListN.{drop_of_length-le}
use Rattle.std.proofs.lemmas.List.Concat.{flat_map-cons}
use Rattle.std.proofs.lemmas.List.Elements.{filter-append}
use Rattle.afl_base.specs.Files.{State, bytes_at}
use Rattle.db_model.specs.declared.values.Value.{Value}
use Rattle.db_model.specs.Answers.{live_tuples, same_value}
use Rattle.db_model.specs.Cost.{sum}
use Rattle.db_model.specs.Row.{Row, no_row}
use Rattle.index_set.specs.declared.candidates.Candidates.{Candidates}
use Rattle.index_set.specs.Tables.{Tables}
use Rattle.index_set.specs.Walks.{Fits, ahead, cost_ahead}
use Rattle.tuple_file.specs.Tuples.{row, rows, slots}
use Rattle.cursor.specs.declared.join.JoinCursor.{JoinCursor}
use Rattle.cursor.specs.declared.partner.Partnered.{Partnered}
use Rattle.cursor.specs.Pairs.{FitsPairs, HasAnswered, MayReadPairs, at_next_left, behind_pair, belongs, inner_cost, join_cost_ahead, join_cost_behind, lefts_of, matching, pairs_left, right_side_cost, right_side_costs, rights_of}
use Rattle.cursor.specs.Remaining.{passing, tuples_at}
use Rattle.cursor.proofs.Lists.{at_front, live_at}
use Rattle.cursor.proofs.Suited.{count_rows}
use Rattle.cursor.proofs.Walking.{row_there}

-- ---- left rows

live_step : (b : Bool) (t : List Value) (xs ys zs : List (List Value)) → xs ≡ ys ++ zs → cond b (t ∷ xs) xs ≡ cond b (t ∷ ys) ys ++ zs
live_step true t xs ys zs e = ap (λ (l : List (List Value)). t ∷ l) e
live_step false t xs ys zs e = e

live_append : (xs ys : List Row) → live_tuples (xs ++ ys) ≡ live_tuples xs ++ live_tuples ys
live_append [] ys = refl
live_append (x ∷ xs) ys = live_step x.live x.tuple (live_tuples (xs ++ ys)) (live_tuples xs) (live_tuples ys) (live_append xs ys)

matching_append : (left_on right_on : ℕ) (xs ys rights : List Row) → matching left_on right_on (xs ++ ys) rights ≡ matching left_on right_on xs rights ++ matching left_on right_on ys rights
matching_append left_on right_on xs ys rights =
    let g = λ (x : List Value). map (λ (y : List Value). (x, y)) (live_tuples rights) in
    let f = λ (pair : List Value × List Value). same_value (slice_get pair.0 left_on) (slice_get pair.1 right_on) in
    ap (λ (l : List (List Value)). filter f (flat_map g l)) (live_append xs ys)
    ∙ ap (filter f) (flat_map-append g (live_tuples xs) (live_tuples ys))
    ∙ filter-append f (flat_map g (live_tuples xs)) (flat_map g (live_tuples ys))

-- the pairs of some left rows are those of the first, and those of the others
first_matching : (left_on right_on : ℕ) (xs rights : List Row) → matching left_on right_on xs rights ≡ matching left_on right_on (take 1 xs) rights ++ matching left_on right_on (drop 1 xs) rights
first_matching left_on right_on xs rights = ap (λ (l : List Row). matching left_on right_on l rights) (sym (take-append-drop 1 xs)) ∙ matching_append left_on right_on (take 1 xs) (drop 1 xs) rights

sum_append : (f : List Value → ℕ) (xs ys : List (List Value)) → sum (map f (xs ++ ys)) ≡ sum (map f xs) + sum (map f ys)
sum_append f [] ys = omega arith
sum_append f (x ∷ xs) ys = omega (arith, sum_append f xs ys)

pub first_costs : (c : JoinCursor) (rights xs : List Row) → right_side_costs c rights xs ≡ right_side_costs c rights (take 1 xs) + right_side_costs c rights (drop 1 xs)
first_costs c rights xs =
    ap (right_side_costs c rights) (sym (take-append-drop 1 xs))
    ∙ ap (λ (l : List (List Value)). sum (map (λ left. right_side_cost c.right_indexes c.right_on (slice_get left c.left_on) rights) l)) (live_append (take 1 xs) (drop 1 xs))
    ∙ sum_append (λ left. right_side_cost c.right_indexes c.right_on (slice_get left c.left_on) rights) (live_tuples (take 1 xs)) (live_tuples (drop 1 xs))

-- ---- the right rows of a left tuple

one_step : (t : List Value) (b : Bool) (y : List Value) (xs ys : List (List Value)) (zs : List (List Value × List Value)) → zs ≡ map (λ (x : List Value). (t, x)) ys
    → cond b ((t, y) ∷ zs) zs ≡ map (λ (x : List Value). (t, x)) (cond b (y ∷ ys) ys)
one_step t true y xs ys zs e = ap (λ (l : List (List Value × List Value)). (t, y) ∷ l) e
one_step t false y xs ys zs e = e

matched : (left_on right_on : ℕ) (t : List Value) (ys : List (List Value))
    → filter (λ (pair : List Value × List Value). same_value (slice_get pair.0 left_on) (slice_get pair.1 right_on)) (map (λ (y : List Value). (t, y)) ys)
    ≡ map (λ (y : List Value). (t, y)) (filter (belongs (slice_get t left_on) right_on) ys)
matched left_on right_on t [] = refl
matched left_on right_on t (y ∷ ys) =
    one_step t (same_value (slice_get t left_on) (slice_get y right_on)) y ys (filter (belongs (slice_get t left_on) right_on) ys)
    (filter (λ (pair : List Value × List Value). same_value (slice_get pair.0 left_on) (slice_get pair.1 right_on)) (map (λ (y : List Value). (t, y)) ys)) (matched left_on right_on t ys)

-- the pairs of one live left row, from a right slot on
pub one_left : (left_on right_on : ℕ) (lefts rights : List Row) (t : List Value) (from n : ℕ) → live_tuples lefts ≡ t ∷ [] → from ≤ n → n ≤ length rights
    → matching left_on right_on lefts (drop from (take n rights)) ≡ map (λ (y : List Value). (t, y)) (tuples_at (passing (belongs (slice_get t left_on) right_on) rights (range_with_len from (n - from))) rights)
one_left left_on right_on lefts rights t from n live order few =
    let f = λ (pair : List Value × List Value). same_value (slice_get pair.0 left_on) (slice_get pair.1 right_on) in
    let part = drop from (take n rights) in
    let g = λ (x : List Value). map (λ (y : List Value). (x, y)) (live_tuples part) in
    let whole : n ≡ from + (n - from) = omega arith in
    let parts : part ≡ take (n - from) (drop from rights) = ap (λ (m : ℕ). drop from (take m rights)) whole ∙ drop-take from (n - from) rights in
    ap (λ (l : List (List Value)). filter f (flat_map g l)) live
    ∙ ap (filter f) (flat_map-cons g t [] ∙ append-nil (g t))
    ∙ matched left_on right_on t (live_tuples part)
    ∙ ap (map (λ (y : List Value). (t, y)))
    (ap (λ (l : List Row). filter (belongs (slice_get t left_on) right_on) (live_tuples l)) parts
    ∙ sym (live_at (belongs (slice_get t left_on) right_on) rights from (n - from) (omega arith)))

no_left : (left_on right_on : ℕ) (lefts rights : List Row) → live_tuples lefts ≡ [] → matching left_on right_on lefts rights ≡ []
no_left left_on right_on lefts rights none =
    ap (λ (l : List (List Value)). filter (λ (pair : List Value × List Value). same_value (slice_get pair.0 left_on) (slice_get pair.1 right_on))
    (flat_map (λ (x : List Value). map (λ (y : List Value). (x, y)) (live_tuples rights)) l)) none

-- ---- one step of a cursor

module _ (c : JoinCursor) (lefts rights : List Row) where
  -- the left row at which it stands
  abbrev here : List Row
  here = take 1 (drop c.at (lefts_of c lefts))

  -- it stands at a live tuple, or at a removed one
  pub stands_at : (t : List Value) (live : Bool) → c.at < c.left_slots → c.left_slots ≤ length lefts → get_or lefts c.at no_row ≡ record { tuple = t; live = live }
      → live_tuples (take 1 (drop c.at (lefts_of c lefts))) ≡ cond live (t ∷ []) []
  stands_at t live inside few is =
      let long : c.at + 1 ≤ length (take c.left_slots lefts) = omega (arith, length-take-le c.left_slots lefts few) in
      ap live_tuples
      (at_front (take c.left_slots lefts) c.at 0 no_row long
      ∙ ap (λ (r : Row). r ∷ []) (get_or-take c.left_slots lefts c.at no_row inside ∙ is))

  -- no pair of the left row is left
  pub passes_left : matching c.left_on c.right_on (take 1 (drop c.at (lefts_of c lefts))) (drop c.from (rights_of c rights)) ≡ [] → pairs_left c lefts rights ≡ pairs_left (at_next_left c) lefts rights
  passes_left none =
      ap (λ (l : List (List Value × List Value)). l ++ matching c.left_on c.right_on (drop (c.at + 1) (lefts_of c lefts)) (rights_of c rights)) none
      ∙ first_matching c.left_on c.right_on (drop (c.at + 1) (lefts_of c lefts)) (rights_of c rights)
      ∙ ap (λ (l : List Row). matching c.left_on c.right_on (take 1 (drop (c.at + 1) (lefts_of c lefts))) (rights_of c rights) ++ matching c.left_on c.right_on l (rights_of c rights)) (drop-drop 1 (c.at + 1) (lefts_of c lefts))

  pub no_live : live_tuples (take 1 (drop c.at (lefts_of c lefts))) ≡ [] → pairs_left c lefts rights ≡ pairs_left (at_next_left c) lefts rights
  no_live none = passes_left (no_left c.left_on c.right_on here (drop c.from (rights_of c rights)) none)

  module _ (t : List Value) (live : live_tuples (take 1 (drop c.at (lefts_of c lefts))) ≡ t ∷ []) (order : c.from ≤ c.right_slots) (few : c.right_slots ≤ length rights) where
    -- no right row belongs to it any more
    pub right_none : passing (belongs (slice_get t c.left_on) c.right_on) rights (range_with_len c.from (c.right_slots - c.from)) ≡ [] → pairs_left c lefts rights ≡ pairs_left (at_next_left c) lefts rights
    right_none none =
        passes_left
        (one_left c.left_on c.right_on here rights t c.from c.right_slots live order few
        ∙ ap (λ (l : List ℕ). map (λ (y : List Value). (t, y)) (tuples_at l rights)) none)

    -- the next that does
    pub right_found : (slot : ℕ) (right : List Value) (inner : Option Candidates)
        → passing (belongs (slice_get t c.left_on) c.right_on) rights (range_with_len c.from (c.right_slots - c.from))
        ≡ slot ∷ passing (belongs (slice_get t c.left_on) c.right_on) rights (range_with_len (slot + 1) (c.right_slots - (slot + 1)))
        → slot < c.right_slots → get_or rights slot no_row ≡ record { tuple = right; live = true }
        → pairs_left c lefts rights ≡ (t, right) ∷ pairs_left (record c { from = slot + 1; inner = inner }) lefts rights
    right_found slot right inner e below is =
        let behind = matching c.left_on c.right_on (drop (c.at + 1) (lefts_of c lefts)) (rights_of c rights) in
        let rest = passing (belongs (slice_get t c.left_on) c.right_on) rights (range_with_len (slot + 1) (c.right_slots - (slot + 1))) in
        let next = one_left c.left_on c.right_on here rights t (slot + 1) c.right_slots live (omega arith) few in
        ap (λ (l : List (List Value × List Value)). l ++ behind)
        (one_left c.left_on c.right_on here rights t c.from c.right_slots live order few
        ∙ ap (λ (l : List ℕ). map (λ (y : List Value). (t, y)) (tuples_at l rights)) e)
        ∙ ap (λ (r : Row). (t, r.tuple) ∷ (map (λ (y : List Value). (t, y)) (tuples_at rest rights) ++ behind)) is
        ∙ ap (λ (l : List (List Value × List Value)). (t, right) ∷ (l ++ behind)) (sym next)

    pub one_cost : right_side_costs c rights (take 1 (drop c.at (lefts_of c lefts))) ≡ right_side_cost c.right_indexes c.right_on (slice_get t c.left_on) rights
    one_cost =
        let whole : right_side_cost c.right_indexes c.right_on (slice_get t c.left_on) rights + 0 ≡ right_side_cost c.right_indexes c.right_on (slice_get t c.left_on) rights = omega arith in
        ap (λ (l : List (List Value)). sum (map (λ left. right_side_cost c.right_indexes c.right_on (slice_get left c.left_on) rights) l)) live ∙ whole

  -- ---- what the step costs: the left row, and what the right side was to cost

  module _ (r0 r1 : ℕ) (inside : c.at < c.left_slots) where
    pub left_cost : pairs_left c lefts rights ≡ pairs_left (at_next_left c) lefts rights
        → r1 ≤ r0 + 6 + inner_cost c.inner (right_side_costs c rights (take 1 (drop c.at (lefts_of c lefts)))) rights
        → r1 + join_cost_ahead (at_next_left c) lefts rights ≤ r0 + join_cost_ahead c lefts rights
    left_cost same paid =
        let long : length (pairs_left c lefts rights) ≡ length (pairs_left (at_next_left c) lefts rights) = ap length same in
        let behind : right_side_costs c rights (drop (c.at + 1) (lefts_of c lefts))
        ≡ right_side_costs c rights (take 1 (drop (c.at + 1) (lefts_of c lefts))) + right_side_costs c rights (drop (c.at + 1 + 1) (lefts_of c lefts)) =
        first_costs c rights (drop (c.at + 1) (lefts_of c lefts))
        ∙ ap (λ (l : List Row). right_side_costs c rights (take 1 (drop (c.at + 1) (lefts_of c lefts))) + right_side_costs c rights l) (drop-drop 1 (c.at + 1) (lefts_of c lefts)) in
        omega (arith, long, behind, paid)

    pub pair_cost : (pair : List Value × List Value) (slot : ℕ) (inner : Candidates) → pairs_left c lefts rights ≡ pair ∷ pairs_left (behind_pair c slot inner) lefts rights
        → r1 + cost_ahead inner rights ≤ r0 + 6 + inner_cost c.inner (right_side_costs c rights (take 1 (drop c.at (lefts_of c lefts)))) rights
        → r1 + join_cost_ahead (behind_pair c slot inner) lefts rights ≤ r0 + join_cost_ahead c lefts rights
    pair_cost pair slot inner same paid =
        let long : length (pairs_left c lefts rights) ≡ length (pairs_left (behind_pair c slot inner) lefts rights) + 1 = ap length same ∙ omega arith in
        omega (arith, long, paid)

    pub fault_cost : r1 ≤ r0 + 6 + inner_cost c.inner (right_side_costs c rights (take 1 (drop c.at (lefts_of c lefts)))) rights → r1 + join_cost_behind c lefts rights ≤ r0 + join_cost_ahead c lefts rights
    fault_cost paid = omega (arith, paid)

-- ---- walks over the left rows

-- the walk has come to another place and has passed no pair
pub record Joining (state : State) (tables : Tables) (before now : JoinCursor) (reads reads_now : ℕ) : Type 0 where
  pub fits : FitsPairs now state tables
  pub left : pairs_left before (rows state.files before.left) (rows state.files before.right) ≡ pairs_left now (rows state.files before.left) (rows state.files before.right)
  pub few : reads_now + join_cost_ahead now (rows state.files before.left) (rows state.files before.right) ≤ reads + join_cost_ahead before (rows state.files before.left) (rows state.files before.right)

pub next_fits : (c : JoinCursor) (state : State) (tables : Tables) → FitsPairs c state tables → FitsPairs (at_next_left c) state tables
next_fits c state tables f = record { indexes = f.indexes; inner = λ some. tt; ahead = λ some left is. tt }

pub joining_more : (state : State) (tables : Tables) (before now : JoinCursor) (reads r1 r2 : ℕ) → Joining state tables before now reads r1 → now.left ≡ before.left → now.right ≡ before.right
    → pairs_left now (rows state.files now.left) (rows state.files now.right) ≡ pairs_left (at_next_left now) (rows state.files now.left) (rows state.files now.right)
    → r2 + join_cost_ahead (at_next_left now) (rows state.files now.left) (rows state.files now.right) ≤ r1 + join_cost_ahead now (rows state.files now.left) (rows state.files now.right)
    → Joining state tables before (at_next_left now) reads r2
joining_more state tables before now reads r1 r2 j le re same paid =
    let same_now : pairs_left now (rows state.files before.left) (rows state.files before.right) ≡ pairs_left (at_next_left now) (rows state.files before.left) (rows state.files before.right) =
    subst (λ t. pairs_left now (rows state.files t) (rows state.files before.right) ≡ pairs_left (at_next_left now) (rows state.files t) (rows state.files before.right)) le
    (subst (λ t. pairs_left now (rows state.files now.left) (rows state.files t) ≡ pairs_left (at_next_left now) (rows state.files now.left) (rows state.files t)) re same) in
    let paid_now : r2 + join_cost_ahead (at_next_left now) (rows state.files before.left) (rows state.files before.right) ≤ r1 + join_cost_ahead now (rows state.files before.left) (rows state.files before.right) =
    subst (λ t. r2 + join_cost_ahead (at_next_left now) (rows state.files t) (rows state.files before.right) ≤ r1 + join_cost_ahead now (rows state.files t) (rows state.files before.right)) le
    (subst (λ t. r2 + join_cost_ahead (at_next_left now) (rows state.files now.left) (rows state.files t) ≤ r1 + join_cost_ahead now (rows state.files now.left) (rows state.files t)) re paid) in
    record { fits = next_fits now state tables j.fits; left = j.left ∙ same_now; few = omega (arith, j.few, paid_now) }

-- behind the last left row nothing is left
pub all_passed : (c : JoinCursor) (lefts rights : List Row) → c.left_slots ≤ c.at → pairs_left c lefts rights ≡ []
all_passed c lefts rights h =
    let none : drop c.at (lefts_of c lefts) ≡ [] = drop_of_length-le (lefts_of c lefts) (omega (arith, length-take c.left_slots lefts, h)) in
    let none_behind : drop (c.at + 1) (lefts_of c lefts) ≡ [] = drop_of_length-le (lefts_of c lefts) (omega (arith, length-take c.left_slots lefts, h)) in
    λ i. matching c.left_on c.right_on (take 1 (none i)) (drop c.from (rights_of c rights)) ++ matching c.left_on c.right_on (none_behind i) (rights_of c rights)

-- ---- the beginning

pub pairs_begin : (c : JoinCursor) (lefts rights : List Row) → c.at ≡ 0 → c.from ≡ 0 → c.left_slots ≡ length lefts → c.right_slots ≡ length rights → pairs_left c lefts rights ≡ matching c.left_on c.right_on lefts rights
pairs_begin c lefts rights at from ln rn =
    let l : lefts_of c lefts ≡ lefts = ap (λ (n : ℕ). take n lefts) ln ∙ take_all (length lefts) lefts (omega arith) in
    let r : rights_of c rights ≡ rights = ap (λ (n : ℕ). take n rights) rn ∙ take_all (length rights) rights (omega arith) in
    let e : pairs_left c lefts rights ≡ matching c.left_on c.right_on (take 1 lefts) rights ++ matching c.left_on c.right_on (drop 1 lefts) rights =
    λ i. matching c.left_on c.right_on (take 1 (drop (at i) (l i))) (drop (from i) (r i)) ++ matching c.left_on c.right_on (drop (at i + 1) (l i)) (r i) in
    e ∙ sym (first_matching c.left_on c.right_on lefts rights)

pub cost_begin : (c : JoinCursor) (lefts rights : List Row) → c.at ≡ 0 → c.from ≡ 0 → c.left_slots ≡ length lefts → c.right_slots ≡ length rights → c.inner ≡ None
    → join_cost_ahead c lefts rights ≡ 6 * (length lefts + length (matching c.left_on c.right_on lefts rights)) + right_side_costs c rights lefts
cost_begin c lefts rights at from ln rn none =
    let l : lefts_of c lefts ≡ lefts = ap (λ (n : ℕ). take n lefts) ln ∙ take_all (length lefts) lefts (omega arith) in
    let e : join_cost_ahead c lefts rights ≡ 6 * (c.left_slots - c.at + length (pairs_left c lefts rights)) + right_side_costs c rights (take 1 lefts) + right_side_costs c rights (drop 1 lefts) =
    λ i. 6 * (c.left_slots - c.at + length (pairs_left c lefts rights)) + inner_cost (none i) (right_side_costs c rights (take 1 (drop (at i) (l i)))) rights + right_side_costs c rights (drop (at i + 1) (l i)) in
    omega (arith, e, ap length (pairs_begin c lefts rights at from ln rn), first_costs c rights lefts)

-- ---- what the left row and the right side give

-- a slot has the number that it was made of
pub slot_made : (n slot : ℕ) (b : Bool) → Some slot ≡ cond b (Some n) None → slot ≡ n
slot_made n slot true e = cc
slot_made n slot false e = absurd (cc)

-- the left row that was read is the one at which it stands
pub row_stands : (state : State) (c : JoinCursor) (left : List Value) (live : Bool) → MayReadPairs state c → c.at < c.left_slots → row state.files c.left c.at ≡ record { tuple = left; live = live }
    → live_tuples (take 1 (drop c.at (lefts_of c (rows state.files c.left)))) ≡ cond live (left ∷ []) []
row_stands state c left live may inside is =
    let some : 0 < c.left_slots = omega (arith, inside) in
    let few : c.left_slots ≤ length (rows state.files c.left) = omega (arith, may.left_slots some, count_rows state c.left) in
    let there : c.at < slots state.files c.left = omega (arith, inside, may.left_slots some) in
    stands_at c (rows state.files c.left) [] left live inside few (row_there c.left.schema.attributes (bytes_at state.files c.left.file) c.at there ∙ is)

pub left_there : (state : State) (c : JoinCursor) (left : List Value) (live : Bool) → MayReadPairs state c → c.at < c.left_slots → row state.files c.left c.at ≡ record { tuple = left; live = live } → live ≡ true
    → (found : Option Partnered) → IfSome found (λ _. get_or (rows state.files c.left) c.at no_row ≡ record { tuple = left; live = true })
left_there state c left live may inside is alive None = tt
left_there state c left live may inside is alive (Some p) =
    let some : 0 < c.left_slots = omega (arith, inside) in
    let there : c.at < slots state.files c.left = omega (arith, inside, may.left_slots some) in
    row_there c.left.schema.attributes (bytes_at state.files c.left.file) c.at there ∙ is ∙ ap (λ (b : Bool). record { tuple = left; live = b }) alive

pub no_right : (c : JoinCursor) (lefts rights : List Row) (t : List Value) → live_tuples (take 1 (drop c.at (lefts_of c lefts))) ≡ t ∷ [] → c.right_slots ≡ 0 → c.from ≤ c.right_slots → pairs_left c lefts rights ≡ pairs_left (at_next_left c) lefts rights
no_right c lefts rights t live none order =
    let nothing : c.right_slots - c.from ≡ 0 = omega (arith, none) in
    right_none c lefts rights t live order (omega (arith, none)) (ap (λ (n : ℕ). passing (belongs (slice_get t c.left_on) c.right_on) rights (range_with_len c.from n)) nothing)

module _ (c : JoinCursor) (lefts rights : List Row) (t : List Value) (live : live_tuples (take 1 (drop c.at (lefts_of c lefts))) ≡ t ∷ []) (order : c.from ≤ c.right_slots) (few : c.right_slots ≤ length rights) where
  pub partner_pairs : (found : Option Partnered) (right : List Value)
      → MatchOption found (passing (belongs (slice_get t c.left_on) c.right_on) rights (range_with_len c.from (c.right_slots - c.from)) ≡ [])
      (λ p. passing (belongs (slice_get t c.left_on) c.right_on) rights (range_with_len c.from (c.right_slots - c.from))
      ≡ p.slot ∷ passing (belongs (slice_get t c.left_on) c.right_on) rights (range_with_len (p.slot + 1) (c.right_slots - (p.slot + 1))))
      → IfSome found (λ p. get_or rights p.slot no_row ≡ record { tuple = right; live = true }) → IfSome found (λ p. p.slot < c.right_slots)
      → MatchOption found (pairs_left c lefts rights ≡ pairs_left (at_next_left c) lefts rights) (λ p. pairs_left c lefts rights ≡ (t, right) ∷ pairs_left (behind_pair c p.slot p.inner) lefts rights)
  partner_pairs None right e is below = right_none c lefts rights t live order few e
  partner_pairs (Some p) right e is below = right_found c lefts rights t live order few p.slot right (Some p.inner) e below is

  pub partner_costs : (found : Option Partnered) (right : List Value) (r0 rr r1 : ℕ) → c.at < c.left_slots → rr ≤ r0 + 6
      → MatchOption found (pairs_left c lefts rights ≡ pairs_left (at_next_left c) lefts rights) (λ p. pairs_left c lefts rights ≡ (t, right) ∷ pairs_left (behind_pair c p.slot p.inner) lefts rights)
      → MatchOption found (r1 ≤ rr + inner_cost c.inner (right_side_cost c.right_indexes c.right_on (slice_get t c.left_on) rights) rights)
      (λ p. r1 + cost_ahead p.inner rights ≤ rr + inner_cost c.inner (right_side_cost c.right_indexes c.right_on (slice_get t c.left_on) rights) rights)
      → MatchOption found (r1 + join_cost_ahead (at_next_left c) lefts rights ≤ r0 + join_cost_ahead c lefts rights) (λ p. r1 + join_cost_ahead (behind_pair c p.slot p.inner) lefts rights ≤ r0 + join_cost_ahead c lefts rights)
  partner_costs None right r0 rr r1 inside read same paid =
      let e : inner_cost c.inner (right_side_costs c rights (take 1 (drop c.at (lefts_of c lefts)))) rights ≡ inner_cost c.inner (right_side_cost c.right_indexes c.right_on (slice_get t c.left_on) rights) rights =
      ap (λ (n : ℕ). inner_cost c.inner n rights) (one_cost c lefts rights t live order few) in
      left_cost c lefts rights r0 r1 inside same (omega (arith, read, paid, e))
  partner_costs (Some p) right r0 rr r1 inside read same paid =
      let e : inner_cost c.inner (right_side_costs c rights (take 1 (drop c.at (lefts_of c lefts)))) rights ≡ inner_cost c.inner (right_side_cost c.right_indexes c.right_on (slice_get t c.left_on) rights) rights =
      ap (λ (n : ℕ). inner_cost c.inner n rights) (one_cost c lefts rights t live order few) in
      pair_cost c lefts rights r0 r1 inside (t, right) p.slot p.inner same (omega (arith, read, paid, e))

  pub partner_fault : (r0 rr r1 : ℕ) → c.at < c.left_slots → rr ≤ r0 + 6 → r1 ≤ rr + inner_cost c.inner (right_side_cost c.right_indexes c.right_on (slice_get t c.left_on) rights) rights
      → r1 + join_cost_behind c lefts rights ≤ r0 + join_cost_ahead c lefts rights
  partner_fault r0 rr r1 inside read paid =
      let e : inner_cost c.inner (right_side_costs c rights (take 1 (drop c.at (lefts_of c lefts)))) rights ≡ inner_cost c.inner (right_side_cost c.right_indexes c.right_on (slice_get t c.left_on) rights) rights =
      ap (λ (n : ℕ). inner_cost c.inner n rights) (one_cost c lefts rights t live order few) in
      fault_cost c lefts rights r0 r1 inside (omega (arith, read, paid, e))

pub partner_fits : (c : JoinCursor) (state : State) (tables : Tables) (t : List Value) → FitsPairs c state tables → live_tuples (take 1 (drop c.at (lefts_of c (rows state.files c.left)))) ≡ t ∷ []
    → (found : Option Partnered)
    → IfSome found (λ p. Fits p.inner state tables (rows state.files c.right)
    × (passing (belongs (slice_get t c.left_on) c.right_on) (rows state.files c.right) (ahead p.inner (rows state.files c.right)) ≡ passing (belongs (slice_get t c.left_on) c.right_on) (rows state.files c.right) (range_with_len (p.slot + 1) (c.right_slots - (p.slot + 1)))))
    → IfSome found (λ p. FitsPairs (behind_pair c p.slot p.inner) state tables)
partner_fits c state tables t f live None e = tt
partner_fits c state tables t f live (Some p) e = record {
  indexes = f.indexes;
  inner = λ some. e.0;
  ahead = λ some left is.
      let both : t ∷ [] ≡ left ∷ [] = sym live ∙ is in
      let same : t ≡ left = cc in
      subst (λ (x : List Value). passing (belongs (slice_get x c.left_on) c.right_on) (rows state.files c.right) (ahead p.inner (rows state.files c.right)) ≡ passing (belongs (slice_get x c.left_on) c.right_on) (rows state.files c.right) (range_with_len (p.slot + 1) (c.right_slots - (p.slot + 1)))) same e.1;
}

pub next_may : (state : State) (c : JoinCursor) → MayReadPairs state c → MayReadPairs state (at_next_left c)
next_may state c m = record {
  left = m.left;
  left_slots = m.left_slots;
  right = m.right;
  right_slots = m.right_slots;
  readable = m.readable;
  safe = λ some. tt;
  inner = tt;
  within = omega arith;
}

-- ---- a walk ends with a pair, with none, or by a fault

pub has_answered : (state : State) (before now : JoinCursor) → now.left ≡ before.left → now.right ≡ before.right → (slot : ℕ) (inner : Candidates) (left right : List Value)
    → get_or (rows state.files now.left) now.at no_row ≡ record { tuple = left; live = true } → get_or (rows state.files now.right) slot no_row ≡ record { tuple = right; live = true }
    → HasAnswered (behind_pair now slot inner) (rows state.files before.left) (rows state.files before.right) left right
has_answered state before now le re slot inner left right l r =
    let back : slot + 1 - 1 ≡ slot = omega arith in
    record {
      left_row = subst (λ t. get_or (rows state.files t) now.at no_row ≡ record { tuple = left; live = true }) le l;
      some = omega arith;
      right_row = ap (λ (n : ℕ). get_or (rows state.files before.right) n no_row) back ∙ subst (λ t. get_or (rows state.files t) slot no_row ≡ record { tuple = right; live = true }) re r;
    }

module _ (state : State) (tables : Tables) (before now : JoinCursor) (reads r1 r2 : ℕ) (j : Joining state tables before now reads r1) (le : now.left ≡ before.left) (re : now.right ≡ before.right) where
  pub joining_fault : r2 + join_cost_behind now (rows state.files now.left) (rows state.files now.right) ≤ r1 + join_cost_ahead now (rows state.files now.left) (rows state.files now.right)
      → r2 + join_cost_behind now (rows state.files before.left) (rows state.files before.right) ≤ reads + join_cost_ahead before (rows state.files before.left) (rows state.files before.right)
  joining_fault paid =
      let same : join_cost_ahead now (rows state.files now.left) (rows state.files now.right) ≡ join_cost_ahead now (rows state.files before.left) (rows state.files before.right) =
      λ i. join_cost_ahead now (rows state.files (le i)) (rows state.files (re i)) in
      let same_behind : join_cost_behind now (rows state.files now.left) (rows state.files now.right) ≡ join_cost_behind now (rows state.files before.left) (rows state.files before.right) =
      λ i. join_cost_behind now (rows state.files (le i)) (rows state.files (re i)) in
      omega (arith, j.few, same, same_behind, paid)

  pub joining_cost : (after : JoinCursor) → r2 + join_cost_ahead after (rows state.files now.left) (rows state.files now.right) ≤ r1 + join_cost_ahead now (rows state.files now.left) (rows state.files now.right)
      → r2 + join_cost_ahead after (rows state.files before.left) (rows state.files before.right) ≤ reads + join_cost_ahead before (rows state.files before.left) (rows state.files before.right)
  joining_cost after paid =
      let same : join_cost_ahead now (rows state.files now.left) (rows state.files now.right) ≡ join_cost_ahead now (rows state.files before.left) (rows state.files before.right) =
      λ i. join_cost_ahead now (rows state.files (le i)) (rows state.files (re i)) in
      let same_after : join_cost_ahead after (rows state.files now.left) (rows state.files now.right) ≡ join_cost_ahead after (rows state.files before.left) (rows state.files before.right) =
      λ i. join_cost_ahead after (rows state.files (le i)) (rows state.files (re i)) in
      omega (arith, j.few, same, same_after, paid)

  pub joining_pair : (after : JoinCursor) (pair : List Value × List Value) → pairs_left now (rows state.files now.left) (rows state.files now.right) ≡ pair ∷ pairs_left after (rows state.files now.left) (rows state.files now.right)
      → pairs_left before (rows state.files before.left) (rows state.files before.right) ≡ pair ∷ pairs_left after (rows state.files before.left) (rows state.files before.right)
  joining_pair after pair e =
      let same : pairs_left now (rows state.files now.left) (rows state.files now.right) ≡ pairs_left now (rows state.files before.left) (rows state.files before.right) =
      λ i. pairs_left now (rows state.files (le i)) (rows state.files (re i)) in
      let same_after : pair ∷ pairs_left after (rows state.files now.left) (rows state.files now.right) ≡ pair ∷ pairs_left after (rows state.files before.left) (rows state.files before.right) =
      λ i. pair ∷ pairs_left after (rows state.files (le i)) (rows state.files (re i)) in
      j.left ∙ sym same ∙ e ∙ same_after
