-- A FETCH of a JOIN: the left slots that it passes, and what was read for them.
use Rattle.std.proofs.Common.{◌≡◌, ℕ, zero, suc, ◌+◌, ◌-◌, ◌*◌, ◌<◌, ◌≤◌, Bool, true, false, cond, ◌==◌, List, [], ◌∷◌, ◌++◌, length, map, take, drop, get_or, slice_get, Option, Some, None, refl, ap, sym, ◌∙◌, subst, arith, eqb-true}
use Rattle.std.specs.List.{range_with_len}
use Rattle.std.proofs.lemmas.Bool.Decides.{nat_tests}
use Rattle.std.proofs.Math.Logic.{⊎_elim}
use Rattle.std.proofs.Math.ListN.{drop_of_length-le}
use Rattle.std.proofs.lemmas.Bool.{cases_lt}
use Rattle.std.proofs.lemmas.List.{drop-drop, drop-take, length-drop, length-take-le, take-append-drop, take_all}
use Rattle.std.proofs.lemmas.List.FromFn.{length-range_with_len, take-map-range_with_len}
use Rattle.afl_base.specs.Files.{Table}
use Rattle.db_model.specs.declared.values.Value.{Value}
use Rattle.db_model.specs.Ahead.{OfJoin, fetched, slots_left}
use Rattle.db_model.specs.Answers.{live_tuples}
use Rattle.db_model.specs.Cost.{fetch_join_cost, passed, rows_at, sum}
use Rattle.db_model.specs.Row.{Row, no_row}
use Rattle.index_set.specs.declared.candidates.Candidates.{Candidates}
use Rattle.index_set.specs.Plans.{kinds}
use Rattle.cursor.specs.declared.join.JoinCursor.{JoinCursor}
use Rattle.cursor.specs.Pairs.{inner_cost, join_cost_ahead, join_cost_behind, lefts_of, pairs_left, right_side_cost, right_side_costs}
use Rattle.tuple_file.specs.Tuples.{rows}
use Rattle.session_model.specs.declared.held.OpenJoin.{OpenJoin}
use Rattle.session_model.specs.Aheads.{ahead_of_join, join_stops}
use Rattle.session_cursors.proofs.JoinCounts.{drop_range}
use Rattle.session_cursors.proofs.JoinSteps.{over, rows_from}

-- ---- the slots that are passed

by_first : (a b m : ℕ) (t : Bool) (xs : List ℕ) → (a == b) ≡ t → a ≤ b → (a + 1 ≤ b → xs ≡ range_with_len (a + 1) (b - (a + 1) + 1))
    → cond t (a ∷ []) (a ∷ xs) ≡ range_with_len a (b - a + 1)
by_first a b m true xs e order later =
    let same : a ≡ b = eqb-true a b e in
    let one : 1 ≡ b - a + 1 = omega (arith, same) in
    ap (range_with_len a) one
by_first a b m false xs e order later =
    let other : a + 1 ≤ b = grind (arith, nat_tests, e, order) in
    let n : suc (b - (a + 1) + 1) ≡ b - a + 1 = omega (arith, other) in
    ap (λ (l : List ℕ). a ∷ l) (later other) ∙ ap (range_with_len a) n

pub passed_range : (a n b : ℕ) → a ≤ b → b < a + n → passed (Some b) (range_with_len a n) ≡ range_with_len a (b - a + 1)
passed_range a zero b order below = absurd (omega (arith, order, below))
passed_range a (suc n) b order below =
    by_first a b n (a == b) (passed (Some b) (range_with_len (a + 1) n)) refl order (λ later. passed_range (a + 1) n b later (omega (arith, below)))

-- ---- what is ahead

module _ (files : Table) (o : OpenJoin) (at from : ℕ) where
  abbrev was : JoinCursor
  was = o.cursor

  abbrev now : JoinCursor
  now = record o.cursor { at = at; from = from; inner = None }

  abbrev before : List ℕ
  before = range_with_len o.cursor.at (o.cursor.left_slots - o.cursor.at)

  abbrev after : List ℕ → List ℕ
  after stops = slots_left (ahead_of_join files o).source stops before

  ahead_by : range_with_len at (o.cursor.left_slots - at) ≡ after (join_stops was (rows files was.left) (rows files was.right))
      → join_stops now (rows files was.left) (rows files was.right) ≡ drop 1 (join_stops was (rows files was.left) (rows files was.right))
      → ahead_of_join files (record { cursor = now; places = o.places }) ≡ fetched (ahead_of_join files o)
  ahead_by ss ts = λ i. record {
    source = OfJoin o.cursor.left.schema.name o.cursor.right.schema.name (o.cursor.left_on, o.cursor.right_on) (kinds o.cursor.right_indexes);
    slots = ss i;
    stops = ts i;
  }

  pub ahead_found : o.cursor.at ≤ at → at < o.cursor.left_slots
      → join_stops was (rows files was.left) (rows files was.right) ≡ at ∷ join_stops now (rows files was.left) (rows files was.right)
      → ahead_of_join files (record { cursor = now; places = o.places }) ≡ fetched (ahead_of_join files o)
  ahead_found later below e =
      let n : ℕ = o.cursor.left_slots - o.cursor.at in
      let go : at - o.cursor.at + 1 - 1 ≡ at - o.cursor.at = omega arith in
      let there : o.cursor.at + (at - o.cursor.at) ≡ at = omega (arith, later) in
      let left : n - (at - o.cursor.at) ≡ o.cursor.left_slots - at = omega (arith, later) in
      let many : length (passed (Some at) before) - 1 ≡ at - o.cursor.at =
      ap (λ (l : List ℕ). length l - 1) (passed_range o.cursor.at n at later (omega (arith, later, below)))
      ∙ ap (λ (m : ℕ). m - 1) (length-range_with_len o.cursor.at (at - o.cursor.at + 1)) ∙ go in
      let dropped : drop (length (passed (Some at) before) - 1) before ≡ range_with_len at (o.cursor.left_slots - at) =
      ap (λ (m : ℕ). drop m before) many ∙ drop_range (at - o.cursor.at) o.cursor.at n
      ∙ ap (λ (m : ℕ). range_with_len m (n - (at - o.cursor.at))) there ∙ ap (range_with_len at) left in
      ahead_by (sym dropped ∙ sym (ap after e)) (sym (ap (drop 1) e))

  pub ahead_none : o.cursor.left_slots ≤ at → join_stops was (rows files was.left) (rows files was.right) ≡ [] → ahead_of_join files (record { cursor = now; places = o.places }) ≡ fetched (ahead_of_join files o)
  ahead_none end e =
      let none : o.cursor.left_slots - at ≡ 0 = omega (arith, end) in
      ahead_by (ap (range_with_len at) none ∙ sym (ap after e)) (over now (rows files was.left) (rows files was.right) end ∙ sym (ap (drop 1) e))

-- ---- costs of left rows

take_less : (i j : ℕ) (xs : List Row) → i ≤ j → take i (take j xs) ≡ take i xs
take_less zero j xs h = refl
take_less (suc i) zero xs h = absurd (omega (arith, h))
take_less (suc i) (suc j) [] h = refl
take_less (suc i) (suc j) (x ∷ xs) h = ap (λ (l : List Row). x ∷ l) (take_less i j xs (omega (arith, h)))

live_costs : (f : List Value → ℕ) (b : Bool) (t : List Value) (xs ys zs : List (List Value)) → sum (map f zs) ≡ sum (map f xs) + sum (map f ys)
    → sum (map f (cond b (t ∷ zs) zs)) ≡ sum (map f (cond b (t ∷ xs) xs)) + sum (map f ys)
live_costs f true t xs ys zs e = omega (arith, e)
live_costs f false t xs ys zs e = e

costs_append : (f : List Value → ℕ) (xs ys : List Row) → sum (map f (live_tuples (xs ++ ys))) ≡ sum (map f (live_tuples xs)) + sum (map f (live_tuples ys))
costs_append f [] ys = omega arith
costs_append f (x ∷ xs) ys = live_costs f x.live x.tuple (live_tuples xs) (live_tuples ys) (live_tuples (xs ++ ys)) (costs_append f xs ys)

module _ (c : JoinCursor) (lefts rights : List Row) where
  abbrev costs : List Row → ℕ
  costs = right_side_costs c rights

  split : (m : ℕ) (xs : List Row) → costs xs ≡ costs (take m xs) + costs (drop m xs)
  split m xs =
      ap costs (sym (take-append-drop m xs))
      ∙ costs_append (λ left. right_side_cost c.right_indexes c.right_on (slice_get left c.left_on) rights) (take m xs) (drop m xs)

  -- the cost of all left rows from the one at which it stands
  whole_cost : c.inner ≡ None → join_cost_ahead c lefts rights ≡ 6 * (c.left_slots - c.at + length (pairs_left c lefts rights)) + costs (drop c.at (lefts_of c lefts))
  whole_cost rests =
      let first = split 1 (drop c.at (lefts_of c lefts)) in
      let behind : costs (drop 1 (drop c.at (lefts_of c lefts))) ≡ costs (drop (c.at + 1) (lefts_of c lefts)) = ap costs (drop-drop 1 c.at (lefts_of c lefts)) in
      let inner : inner_cost c.inner (costs (take 1 (drop c.at (lefts_of c lefts)))) rights ≡ costs (take 1 (drop c.at (lefts_of c lefts))) =
      ap (λ (o : Option Candidates). inner_cost o (costs (take 1 (drop c.at (lefts_of c lefts)))) rights) rests in
      omega (arith, first, behind, inner)

  module _ (long : c.left_slots ≤ length lefts) where
    -- the rows of some slots
    rows_passed : (a m : ℕ) → a + m ≤ c.left_slots → rows_at (range_with_len a m) lefts ≡ take m (drop a (lefts_of c lefts))
    rows_passed a m within =
        let rest : c.left_slots ≡ a + (c.left_slots - a) = omega (arith, within) in
        let few : m ≤ length lefts - a = omega (arith, within, long) in
        let least : m ≤ c.left_slots - a = omega (arith, within) in
        sym (take-map-range_with_len (λ slot. get_or lefts slot no_row) a (length lefts - a) m few)
        ∙ ap (take m) (sym (rows_from lefts a))
        ∙ sym (take_less m (c.left_slots - a) (drop a lefts) least)
        ∙ ap (take m) (sym (ap (λ (n : ℕ). drop a (take n lefts)) rest ∙ drop-take a (c.left_slots - a) lefts))

    price_of : (a m : ℕ) → a + m ≤ c.left_slots → fetch_join_cost (kinds c.right_indexes) (c.left_on, c.right_on) lefts rights (range_with_len a m) ≡ 6 * m + costs (take m (drop a (lefts_of c lefts)))
    price_of a m within =
        ap (λ (n : ℕ). 6 * n + costs (rows_at (range_with_len a m) lefts)) (length-range_with_len a m)
        ∙ ap (λ (l : List Row). 6 * m + costs l) (rows_passed a m within)

    abbrev price : List ℕ → ℕ
    price stops = fetch_join_cost (kinds c.right_indexes) (c.left_on, c.right_on) lefts rights (passed (slice_get stops 0) (range_with_len c.at (c.left_slots - c.at)))

    pub read_found : (at from : ℕ) (inner : Option Candidates) (reads reads_now : ℕ) (rest : List ℕ) (pair : List Value × List Value) → c.inner ≡ None → c.at ≤ at → at < c.left_slots
        → join_stops c lefts rights ≡ at ∷ rest → pairs_left c lefts rights ≡ pair ∷ pairs_left (record c { at = at; from = from; inner = inner }) lefts rights
        → reads_now + join_cost_ahead (record c { at = at; from = from; inner = inner }) lefts rights ≤ reads + join_cost_ahead c lefts rights
        → reads_now ≤ reads + price (join_stops c lefts rights)
    read_found at from inner reads reads_now rest pair rests later below e counted h =
        let m : ℕ = at - c.at + 1 in
        let there : c.at + m ≡ at + 1 = omega (arith, later) in
        let within : c.at + m ≤ c.left_slots = omega (arith, there, below) in
        let slots : passed (Some at) (range_with_len c.at (c.left_slots - c.at)) ≡ range_with_len c.at m = passed_range c.at (c.left_slots - c.at) at later (omega (arith, later, below)) in
        let paid : price (join_stops c lefts rights) ≡ 6 * m + costs (take m (drop c.at (lefts_of c lefts))) =
        ap price e ∙ ap (fetch_join_cost (kinds c.right_indexes) (c.left_on, c.right_on) lefts rights) slots ∙ price_of c.at m within in
        let parts = split m (drop c.at (lefts_of c lefts)) in
        let behind : costs (drop m (drop c.at (lefts_of c lefts))) ≡ costs (drop (at + 1) (lefts_of c lefts)) =
        ap costs (drop-drop m c.at (lefts_of c lefts) ∙ ap (λ (n : ℕ). drop n (lefts_of c lefts)) there) in
        omega (arith, paid, parts, behind, whole_cost rests, ap length counted, h)

    pub read_none : (reads reads_now : ℕ) → c.inner ≡ None → join_stops c lefts rights ≡ [] → pairs_left c lefts rights ≡ [] → reads_now ≤ reads + join_cost_ahead c lefts rights
        → reads_now ≤ reads + price (join_stops c lefts rights)
    read_none reads reads_now rests e counted h =
        let m : ℕ = c.left_slots - c.at in
        ⊎_elim
        (λ (inside : c.at < c.left_slots).
        let within : c.at + m ≤ c.left_slots = omega (arith, inside) in
        let paid : price (join_stops c lefts rights) ≡ 6 * m + costs (take m (drop c.at (lefts_of c lefts))) = ap price e ∙ price_of c.at m within in
        let few : length (drop c.at (lefts_of c lefts)) ≤ m = omega (arith, length-drop c.at (lefts_of c lefts), length-take-le c.left_slots lefts long) in
        let all : costs (take m (drop c.at (lefts_of c lefts))) ≡ costs (drop c.at (lefts_of c lefts)) = ap costs (take_all m (drop c.at (lefts_of c lefts)) few) in
        omega (arith, paid, all, whole_cost rests, ap length counted, h))
        (λ (past : c.left_slots ≤ c.at).
        let nothing : costs (drop c.at (lefts_of c lefts)) ≡ 0 = ap costs (drop_of_length-le (lefts_of c lefts) (omega (arith, past, length-take-le c.left_slots lefts long))) in
        omega (arith, nothing, past, whole_cost rests, ap length counted, h))
        (cases_lt c.at c.left_slots)

    -- costs of more left rows are no less
    more_costs : (m n : ℕ) (xs : List Row) → m ≤ n → costs (take m xs) ≤ costs (take n xs)
    more_costs m n xs h =
        let parts = split m (take n xs) in
        let same : costs (take m (take n xs)) ≡ costs (take m xs) = ap costs (take_less m n xs h) in
        omega (arith, parts, same)

    -- it failed at a left slot, with no pair before
    pub read_failed : (at from : ℕ) (inner : Option Candidates) (reads reads_now : ℕ) (stops : List ℕ) → c.inner ≡ None → c.at ≤ at → at < c.left_slots → join_stops c lefts rights ≡ stops
        → pairs_left c lefts rights ≡ pairs_left (record c { at = at; from = from; inner = inner }) lefts rights
        → ((stop : ℕ) (rest : List ℕ) → stops ≡ stop ∷ rest → (at ≤ stop) × (stop < c.left_slots))
        → reads_now + join_cost_behind (record c { at = at; from = from; inner = inner }) lefts rights ≤ reads + join_cost_ahead c lefts rights
        → reads_now ≤ reads + price stops
    read_failed at from inner reads reads_now stops rests later below e same beyond h = by_stops stops beyond
      where
        within_read : (n : ℕ) → at - c.at + 1 ≤ n → c.at + n ≤ c.left_slots → reads_now ≤ reads + fetch_join_cost (kinds c.right_indexes) (c.left_on, c.right_on) lefts rights (range_with_len c.at n)
        within_read n more within =
            let m : ℕ = at - c.at + 1 in
            let there : c.at + m ≡ at + 1 = omega (arith, later) in
            let parts = split m (drop c.at (lefts_of c lefts)) in
            let behind : costs (drop m (drop c.at (lefts_of c lefts))) ≡ costs (drop (at + 1) (lefts_of c lefts)) =
            ap costs (drop-drop m c.at (lefts_of c lefts) ∙ ap (λ (k : ℕ). drop k (lefts_of c lefts)) there) in
            omega (arith, parts, behind, whole_cost rests, ap length same, h, price_of c.at n within, more_costs m n (drop c.at (lefts_of c lefts)) more)

        by_stops : (l : List ℕ) → ((stop : ℕ) (rest : List ℕ) → l ≡ stop ∷ rest → (at ≤ stop) × (stop < c.left_slots)) → reads_now ≤ reads + price l
        by_stops [] b = within_read (c.left_slots - c.at) (omega (arith, later, below)) (omega (arith, later, below))
        by_stops (stop ∷ rest) b =
            let w = b stop rest refl in
            let slots : passed (Some stop) (range_with_len c.at (c.left_slots - c.at)) ≡ range_with_len c.at (stop - c.at + 1) =
            passed_range c.at (c.left_slots - c.at) stop (omega (arith, later, w.0)) (omega (arith, later, w.0, w.1)) in
            subst (λ (l : List ℕ). reads_now ≤ reads + fetch_join_cost (kinds c.right_indexes) (c.left_on, c.right_on) lefts rights l) (sym slots)
            (within_read (stop - c.at + 1) (omega (arith, later, w.0)) (omega (arith, later, w.0, w.1)))
