-- A FETCH of a JOIN: the left slots at which the coming ones stop, and what is ahead then.
use Rattle.std.proofs.Common.{◌≡◌, ℕ, suc, ◌+◌, ◌-◌, ◌<◌, ◌≤◌, Bool, true, List, [], ◌∷◌, ◌++◌, length, map, take, drop, filter, get_or, replicate, slice_get, Option, refl, ap, sym, ◌∙◌, arith, length-append}
use Rattle.std.specs.List.{range_with_len}
use Rattle.std.proofs.Math.Logic.{⊎_elim}
use Rattle.std.proofs.Math.ListN.{drop_of_length-le}
use Rattle.std.proofs.lemmas.Bool.{cases_eq}
use Rattle.std.proofs.lemmas.List.{get_or-drop, get_or-take, length-drop, length-take, length-take-le}
use Rattle.db_model.specs.declared.values.Value.{Value}
use Rattle.db_model.specs.Ahead.{partners}
use Rattle.db_model.specs.Answers.{live_tuples, pairs, same_value}
use Rattle.db_model.specs.Cost.{sum}
use Rattle.db_model.specs.Row.{Row, no_row}
use Rattle.index_set.specs.declared.candidates.Candidates.{Candidates}
use Rattle.cursor.specs.declared.join.JoinCursor.{JoinCursor}
use Rattle.cursor.specs.Pairs.{lefts_of, matching, pairs_left, rights_of}
use Rattle.cursor.proofs.Lists.{at_front}
use Rattle.session_model.specs.Aheads.{join_stops}
use Rattle.db_model.proofs.Moves.{many_pairs}
use Rattle.session_cursors.proofs.JoinCounts.{head_passes, many_from, no_stops, one_more, partners_behind, rows_behind, stop_behind, stop_beyond, stops_from}

-- ---- lists

mapped_twice : (f : ℕ → Row) (p : Row → ℕ) (xs : List ℕ) → map p (map f xs) ≡ map (λ x. p (f x)) xs
mapped_twice f p [] = refl
mapped_twice f p (x ∷ xs) = ap (λ (l : List ℕ). p (f x) ∷ l) (mapped_twice f p xs)

-- the rows from a slot on
pub rows_from : (xs : List Row) (a : ℕ) → drop a xs ≡ map (λ slot. get_or xs slot no_row) (range_with_len a (length xs - a))
rows_from xs a =
    rows_behind (drop a xs) (λ slot. get_or xs slot no_row) a (λ i. sym (get_or-drop a xs i no_row))
    ∙ ap (λ (n : ℕ). map (λ slot. get_or xs slot no_row) (range_with_len a n)) (length-drop a xs)

-- ---- the stops of a cursor

module _ (c : JoinCursor) (lefts rights : List Row) where
  -- the partners of a left slot
  abbrev of_slot : ℕ → ℕ
  of_slot slot = partners (c.left_on, c.right_on) (rights_of c rights) (get_or (lefts_of c lefts) slot no_row)

  -- the pairs of a left slot from a right slot on
  abbrev of_place : ℕ → ℕ → ℕ
  of_place at from = length (matching c.left_on c.right_on (take 1 (drop at (lefts_of c lefts))) (drop from (rights_of c rights)))

  module _ (long : length (lefts_of c lefts) ≡ c.left_slots) where
    count_behind : (a : ℕ) → length (matching c.left_on c.right_on (drop a (lefts_of c lefts)) (rights_of c rights)) ≡ many_from of_slot a (c.left_slots - a)
    count_behind a =
        let on : ℕ × ℕ = (c.left_on, c.right_on) in
        sym (many_pairs on (rights_of c rights) (drop a (lefts_of c lefts)))
        ∙ ap (λ (l : List Row). sum (map (partners on (rights_of c rights)) l)) (rows_from (lefts_of c lefts) a)
        ∙ ap sum (mapped_twice (λ slot. get_or (lefts_of c lefts) slot no_row) (partners on (rights_of c rights)) (range_with_len a (length (lefts_of c lefts) - a)))
        ∙ ap (λ (n : ℕ). many_from of_slot a (n - a)) long

    -- how many pairs are to come
    pub count_left : (at from : ℕ) (inner : Option Candidates)
        → length (pairs_left (record c { at = at; from = from; inner = inner }) lefts rights) ≡ of_place at from + many_from of_slot (at + 1) (c.left_slots - (at + 1))
    count_left at from inner =
        length-append (matching c.left_on c.right_on (take 1 (drop at (lefts_of c lefts))) (drop from (rights_of c rights)))
        (matching c.left_on c.right_on (drop (at + 1) (lefts_of c lefts)) (rights_of c rights))
        ∙ ap (λ (n : ℕ). of_place at from + n) (count_behind (at + 1))

    -- a pair has been answered at a right slot
    more_here : (at from : ℕ) (left right : List Value) → at < c.left_slots → 0 < from → from ≤ c.right_slots → c.right_slots ≤ length rights
        → get_or lefts at no_row ≡ record { tuple = left; live = true } → get_or rights (from - 1) no_row ≡ record { tuple = right; live = true }
        → same_value (slice_get left c.left_on) (slice_get right c.right_on) ≡ true → 1 + of_place at from ≤ of_slot at
    more_here at from left right below some within few is_left is_right same =
        let on : ℕ × ℕ = (c.left_on, c.right_on) in
        let test : List Value → Bool = λ r. same_value (slice_get left c.left_on) (slice_get r c.right_on) in
        let there : get_or (lefts_of c lefts) at no_row ≡ record { tuple = left; live = true } = get_or-take c.left_slots lefts at no_row below ∙ is_left in
        let inside : at + 1 ≤ length (lefts_of c lefts) = omega (arith, long, below) in
        let here : take 1 (drop at (lefts_of c lefts)) ≡ record { tuple = left; live = true } ∷ [] = at_front (lefts_of c lefts) at 0 no_row inside ∙ ap (λ (r : Row). r ∷ []) there in
        let one : of_place at from ≡ length (filter test (live_tuples (drop from (rights_of c rights)))) + 0 =
        ap (λ (l : List Row). length (matching c.left_on c.right_on l (drop from (rights_of c rights)))) here
        ∙ sym (many_pairs on (drop from (rights_of c rights)) (record { tuple = left; live = true } ∷ [])) in
        let all : of_slot at ≡ length (filter test (live_tuples (rights_of c rights))) = ap (partners on (rights_of c rights)) there in
        let last : from - 1 < c.right_slots = omega (arith, some, within) in
        let again : (from - 1) + 1 ≡ from = omega (arith, some) in
        let in_rights : from - 1 < length (rights_of c rights) = omega (arith, last, length-take-le c.right_slots rights few) in
        let fewer = one_more test (rights_of c rights) (from - 1) right in_rights (get_or-take c.right_slots rights (from - 1) no_row last ∙ is_right) same in
        let same_rest : length (filter test (live_tuples (drop ((from - 1) + 1) (rights_of c rights)))) ≡ length (filter test (live_tuples (drop from (rights_of c rights)))) =
        ap (λ (n : ℕ). length (filter test (live_tuples (drop n (rights_of c rights))))) again in
        omega (arith, one, all, fewer, same_rest)

    -- the first stop is the left slot of the pair
    pub next_stop : (at from : ℕ) (inner : Option Candidates) (left right : List Value) → c.at ≤ at → at < c.left_slots → 0 < from → from ≤ c.right_slots → c.right_slots ≤ length rights
        → get_or lefts at no_row ≡ record { tuple = left; live = true } → get_or rights (from - 1) no_row ≡ record { tuple = right; live = true }
        → pairs_left c lefts rights ≡ (left, right) ∷ pairs_left (record c { at = at; from = from; inner = inner }) lefts rights
        → join_stops c lefts rights ≡ at ∷ join_stops (record c { at = at; from = from; inner = inner }) lefts rights
    next_stop at from inner left right later below some within few is_left is_right e =
        let test : List Value × List Value → Bool = λ pair. same_value (slice_get pair.0 c.left_on) (slice_get pair.1 c.right_on) in
        let same : same_value (slice_get left c.left_on) (slice_get right c.right_on) ≡ true =
        head_passes test (left, right) (pairs (live_tuples (take 1 (drop c.at (lefts_of c lefts)))) (live_tuples (drop c.from (rights_of c rights))))
        (pairs (live_tuples (drop (c.at + 1) (lefts_of c lefts))) (live_tuples (rights_of c rights))) (pairs_left (record c { at = at; from = from; inner = inner }) lefts rights) e in
        let more = more_here at from left right below some within few is_left is_right same in
        let counted : of_place c.at c.from + many_from of_slot (c.at + 1) (c.left_slots - (c.at + 1)) ≡ 1 + (of_place at from + many_from of_slot (at + 1) (c.left_slots - (at + 1))) =
        (let was = count_left c.at c.from c.inner in let is = count_left at from inner in omega (arith, was, is, ap length e)) in
        ⊎_elim
        (λ (same_at : at ≡ c.at).
        let many : of_place c.at c.from ≡ suc (of_place at from) =
        omega (arith, counted, ap (λ (n : ℕ). many_from of_slot (n + 1) (c.left_slots - (n + 1))) same_at) in
        ap (λ (n : ℕ). replicate n c.at ++ stops_from of_slot (c.at + 1) (c.left_slots - (c.at + 1))) many
        ∙ ap (λ (n : ℕ). n ∷ (replicate (of_place at from) n ++ stops_from of_slot (n + 1) (c.left_slots - (n + 1)))) (sym same_at))
        (λ other. stop_behind of_slot c.at c.left_slots at (of_place c.at c.from) (of_place at from) (omega (arith, later, other)) below counted more)
        (cases_eq at c.at)

    -- no more pairs of a left slot than it has partners
    fewer_here : (at from : ℕ) → at < c.left_slots → of_place at from ≤ of_slot at
    fewer_here at from below =
        let on : ℕ × ℕ = (c.left_on, c.right_on) in
        let inside : at + 1 ≤ length (lefts_of c lefts) = omega (arith, long, below) in
        let here : take 1 (drop at (lefts_of c lefts)) ≡ get_or (lefts_of c lefts) at no_row ∷ [] = at_front (lefts_of c lefts) at 0 no_row inside in
        let one : of_place at from ≡ partners on (drop from (rights_of c rights)) (get_or (lefts_of c lefts) at no_row) + 0 =
        ap (λ (l : List Row). length (matching c.left_on c.right_on l (drop from (rights_of c rights)))) here
        ∙ sym (many_pairs on (drop from (rights_of c rights)) (get_or (lefts_of c lefts) at no_row ∷ [])) in
        omega (arith, one, partners_behind on from (rights_of c rights) (get_or (lefts_of c lefts) at no_row))

    -- where no pair was passed, the next stop is at the left slot or behind it
    pub later_stop : (at from : ℕ) (inner : Option Candidates) (stop : ℕ) (rest : List ℕ) → c.at ≤ at → at < c.left_slots
        → pairs_left c lefts rights ≡ pairs_left (record c { at = at; from = from; inner = inner }) lefts rights → join_stops c lefts rights ≡ stop ∷ rest → (at ≤ stop) × (stop < c.left_slots)
    later_stop at from inner stop rest later below e is =
        let counted : of_place c.at c.from + many_from of_slot (c.at + 1) (c.left_slots - (c.at + 1)) ≡ of_place at from + many_from of_slot (at + 1) (c.left_slots - (at + 1)) =
        sym (count_left c.at c.from c.inner) ∙ ap length e ∙ count_left at from inner in
        stop_beyond of_slot c.at c.left_slots at (of_place c.at c.from) (of_place at from) stop rest later below counted (fewer_here at from below) is

    pub no_stop : pairs_left c lefts rights ≡ [] → join_stops c lefts rights ≡ []
    no_stop e =
        let counted : of_place c.at c.from + many_from of_slot (c.at + 1) (c.left_slots - (c.at + 1)) ≡ 0 = sym (count_left c.at c.from c.inner) ∙ ap length e in
        let here : of_place c.at c.from ≡ 0 = omega (arith, counted) in
        let behind : many_from of_slot (c.at + 1) (c.left_slots - (c.at + 1)) ≡ 0 = omega (arith, counted) in
        ap (λ (n : ℕ). replicate n c.at ++ stops_from of_slot (c.at + 1) (c.left_slots - (c.at + 1))) here
        ∙ no_stops of_slot (c.at + 1) (c.left_slots - (c.at + 1)) behind

  -- behind the last left slot there is none
  pub over : c.left_slots ≤ c.at → join_stops c lefts rights ≡ []
  over h =
      let none : drop c.at (lefts_of c lefts) ≡ [] = drop_of_length-le (lefts_of c lefts) (omega (arith, length-take c.left_slots lefts, h)) in
      let few : c.left_slots - (c.at + 1) ≡ 0 = omega (arith, h) in
      ap (λ (l : List Row). replicate (length (matching c.left_on c.right_on (take 1 l) (drop c.from (rights_of c rights)))) c.at
      ++ stops_from of_slot (c.at + 1) (c.left_slots - (c.at + 1))) none
      ∙ ap (λ (n : ℕ). stops_from of_slot (c.at + 1) n) few
