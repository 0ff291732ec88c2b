-- The right rows of a value: those that the plan passes from a slot on, and what they cost.
use Rattle.std.proofs.Common.{◌≡◌, ℕ, ℤ, zero, suc, ◌+◌, ◌-◌, ◌*◌, ◌/◌, ◌<◌, ◌≤◌, Bool, true, false, cond, not, ◌==◌, List, [], ◌∷◌, length, map, get_or, filter, Option, Some, None, refl, ap, sym, ◌∙◌, subst, arith, IsTrue, slice_get, nat_le, eqb-true}
use Rattle.std.specs.Prelude.{max, if◌then◌else◌}
use Rattle.std.specs.List.{AllByRecursion, range_with_len}
use Rattle.std.specs.Ordering.{int_eq}
use Rattle.std.proofs.Math.Logic.{⊎_elim}
use Rattle.std.proofs.lemmas.Bool.{cases_lt}
use Rattle.std.proofs.lemmas.Bool.Decides.{nat_tests}
use Rattle.std.proofs.lemmas.Int.{ints}
use Rattle.std.proofs.lemmas.List.Filters.{length-filter_both}
use Rattle.std.proofs.lemmas.List.FromFn.{get_or-map-range_with_len}
use Rattle.afl_base.specs.Files.{State}
use Rattle.db_model.specs.declared.schemas.Attribute.{Attribute}
use Rattle.db_model.specs.declared.schemas.Range.{Range}
use Rattle.db_model.specs.declared.schemas.Range.TheVariants.{Between}
use Rattle.db_model.specs.declared.values.Value.{Value}
use Rattle.db_model.specs.declared.values.Value.TheVariants.{Number, Text}
use Rattle.db_model.specs.Answers.{same_value}
use Rattle.db_model.specs.Cost.{begin_cost, bits, halvings, plan_cost, ranges_at}
use Rattle.db_model.specs.Plan.{Plan, Nothing, Scan, ByOrder, ByTree, ByTable, Kinds, lies_in, range_at}
use Rattle.db_model.specs.Ranges.{everything}
use Rattle.db_model.specs.Row.{AllSuit, Row, no_row}
use Rattle.db_model.specs.Step.{key_of}
use Rattle.index_set.specs.declared.candidates.Candidates.{Candidates}
use Rattle.index_set.specs.declared.candidates.Search.{Search}
use Rattle.index_set.specs.declared.candidates.Search.TheVariants as by
use Rattle.index_set.specs.declared.info.IndexInfo.{IndexInfo}
use Rattle.index_maxheap.specs.declared.places.Place.{Place}
use Rattle.index_set.specs.Complete.{key_at_place}
use Rattle.index_set.specs.Plans.{is_passed, kinds, slots_passed}
use Rattle.index_set.specs.Walks.{ahead, cost_ahead, reads_by, slots_searched, search_takes}
use Rattle.tuple_file.specs.declared.tuples.Tuples.{Tuples}
use Rattle.tuple_file.specs.Tuples.{HoldsRows, rows, slots}
use Rattle.cursor.specs.Pairs.{belongs}
use Rattle.cursor.specs.Remaining.{is_live_and, passing}
use Rattle.cursor.proofs.Lists.{filter_swap, filter_weaker, kept, passed_over}
use Rattle.cursor.proofs.Planned.{AllLie, plan_passes}
use Rattle.cursor.proofs.Selected.{at_slots, lies}
use Rattle.cursor.proofs.Suited.{count_rows, key_bounds, rows_suit}
use Rattle.padded.proofs.Facts.{le_true, both_parts}

-- ---- slots from one on

is_before : (from s : ℕ) → s < from → nat_le from s ≡ false
is_before from s h = grind (arith, nat_tests)

from_step : (from a k n : ℕ) → suc k ≡ n - a → filter (λ s. nat_le from s) (range_with_len (a + 1) k) ≡ range_with_len (max (a + 1) from) (n - max (a + 1) from)
    → filter (λ s. nat_le from s) (range_with_len a (suc k)) ≡ range_with_len (max a from) (n - max a from)
from_step from a k n e rest =
    ⊎_elim
    (λ (below : a < from).
    let same : max (a + 1) from ≡ max a from = omega arith in
    passed_over (nat_le from a) a (filter (λ s. nat_le from s) (range_with_len (a + 1) k)) (is_before from a below) ∙ rest ∙ ap (λ (m : ℕ). range_with_len m (n - m)) same)
    (λ (above : from ≤ a).
    let next : max (a + 1) from ≡ a + 1 = omega arith in
    let here : a ≡ max a from = omega arith in
    let left : n - (a + 1) ≡ k = omega arith in
    kept (nat_le from a) a (filter (λ s. nat_le from s) (range_with_len (a + 1) k)) (le_true from a above)
    ∙ ap (λ (l : List ℕ). a ∷ l) (rest ∙ ap (λ (m : ℕ). range_with_len m (n - m)) next ∙ ap (λ (j : ℕ). range_with_len (a + 1) j) left)
    ∙ ap (λ (j : ℕ). range_with_len a j) e
    ∙ ap (λ (m : ℕ). range_with_len m (n - m)) here)
    (cases_lt a from)

pub slots_from : (from a k n : ℕ) → k ≡ n - a → filter (λ s. nat_le from s) (range_with_len a k) ≡ range_with_len (max a from) (n - max a from)
slots_from from a zero n e = let none : 0 ≡ n - max a from = omega arith in ap (λ (j : ℕ). range_with_len (max a from) j) none
slots_from from a (suc k) n e = from_step from a k n e (slots_from from (a + 1) k n (omega arith))

-- candidates that have passed the slots below one
module _ (old new : Candidates) (from : ℕ) (all : List Row) (moved : new.from ≡ max old.from from) (slots : new.slots ≡ old.slots) (search : new.search ≡ old.search) where
  pub skipped : ahead new all ≡ filter (λ s. nat_le from s) (ahead old all)
  skipped =
      let e : ahead new all ≡ slots_searched old.search all (max old.from from) old.slots = λ i. slots_searched (search i) all (moved i) (slots i) in
      e
      ∙ ap (filter (λ slot. search_takes old.search (get_or all slot no_row))) (sym (slots_from from old.from (old.slots - old.from) old.slots refl))
      ∙ filter_swap (λ slot. search_takes old.search (get_or all slot no_row)) (λ s. nat_le from s) (range_with_len old.from (old.slots - old.from))

fewer : (p : ℕ → Bool) (xs : List ℕ) → length (filter p xs) ≤ length xs
fewer p xs = omega (arith, length-filter_both p (λ x. not (p x)) (λ x. refl) xs)

fewer_cost : (s : Search) (place : Option Place) (all : List Row) (k m : ℕ) → m ≤ k → 6 * m + reads_by s place all m ≤ 6 * k + reads_by s place all k
fewer_cost by.Nothing place all k m h = omega arith
fewer_cost by.Scan place all k m h = omega arith
fewer_cost (by.Order attribute range) place all k m h = omega arith
fewer_cost (by.Tree attribute file key) place all k m h = omega arith
fewer_cost (by.Table attribute number key) place all k m h = omega arith

pub skip_cost : (old new : Candidates) (from : ℕ) (all : List Row) → new.from ≡ max old.from from → new.slots ≡ old.slots → new.search ≡ old.search → new.place ≡ old.place → cost_ahead new all ≤ cost_ahead old all
skip_cost old new from all moved slots search place =
    let few : length (ahead new all) ≤ length (ahead old all) =
    subst (λ (l : List ℕ). length l ≤ length (ahead old all)) (sym (skipped old new from all moved slots search)) (fewer (λ s. nat_le from s) (ahead old all)) in
    let e : cost_ahead new all ≡ 6 * length (ahead new all) + reads_by old.search old.place all (length (ahead new all)) =
    λ i. 6 * length (ahead new all) + reads_by (search i) (place i) all (length (ahead new all)) in
    subst (λ (n : ℕ). n ≤ cost_ahead old all) (sym e) (fewer_cost old.search old.place all (length (ahead old all)) (length (ahead new all)) few)

-- ---- the plan for a value

pub range_eight : (f : ℕ → Range) (place : ℕ) → place < 8 → range_at (map f (range_with_len 0 8)) place ≡ f place
range_eight f place h = let e : 0 + place ≡ place = omega arith in get_or-map-range_with_len f 0 8 place place everything h e

number_same : (z : ℤ) (o : Option Value) → same_value (Some (Number z)) o ≡ true → int_eq z (key_of o) ≡ true
number_same z None e = absurd (cc)
number_same z (Some (Number y)) e = e
number_same z (Some (Text bytes)) e = absurd (cc)

one_number : (z key : ℤ) → int_eq z key ≡ true → lies_in (Between z z) key ≡ true
one_number z key e = grind (arith, ints)

module _ (attributes : List Attribute) (tuple : List Value) (suit : AllSuit attributes tuple) where
  lies_anywhere : (place : ℕ) → lies_in everything (key_of (slice_get tuple place)) ≡ true
  lies_anywhere place = lies everything (key_of (slice_get tuple place)) (key_bounds attributes tuple place suit)

  value_lies : (value : Option Value) (on : ℕ) → belongs value on tuple ≡ true → (place : ℕ) → place < 8 → lies_in (range_at (ranges_at on value) place) (key_of (slice_get tuple place)) ≡ true
  value_lies None on same place h =
      subst (λ (r : Range). lies_in r (key_of (slice_get tuple place)) ≡ true) (sym (range_eight (λ p. everything) place h)) (lies_anywhere place)
  value_lies (Some (Text bytes)) on same place h =
      subst (λ (r : Range). lies_in r (key_of (slice_get tuple place)) ≡ true) (sym (range_eight (λ p. everything) place h)) (lies_anywhere place)
  value_lies (Some (Number z)) on same place h =
      subst (λ (r : Range). lies_in r (key_of (slice_get tuple place)) ≡ true) (sym (range_eight (λ p. if p == on then Between z z else everything) place h)) (by_place (place == on) refl)
    where
      by_place : (b : Bool) → (place == on) ≡ b → lies_in (cond b (Between z z) everything) (key_of (slice_get tuple place)) ≡ true
      by_place true e = one_number z (key_of (slice_get tuple place)) (subst (λ (p : ℕ). int_eq z (key_of (slice_get tuple p)) ≡ true) (sym (eqb-true place on e)) (number_same z (slice_get tuple on) same))
      by_place false e = lies_anywhere place

  all_lie : (value : Option Value) (on : ℕ) → belongs value on tuple ≡ true → (infos : List IndexInfo) → AllByRecursion (λ info. info.attribute < 8) infos
      → AllLie (ranges_at on value) (λ place. key_of (slice_get tuple place)) (kinds infos)
  all_lie value on same [] places = tt
  all_lie value on same (info ∷ infos) places = (value_lies value on same info.attribute places.0, all_lie value on same infos places.1)

module _ (state : State) (t : Tuples) (told : IsTrue state.tells) (holds : HoldsRows state t) (infos : List IndexInfo) (places : AllByRecursion (λ info. info.attribute < 8) infos) (value : Option Value) (on : ℕ) where
  passed : (slot : ℕ) → is_live_and (belongs value on) (get_or (rows state.files t) slot no_row) ≡ true → is_passed (kinds infos) (ranges_at on value) (get_or (rows state.files t) slot no_row) ≡ true
  passed = at_slots (belongs value on) (λ r. is_passed (kinds infos) (ranges_at on value) r ≡ true) (rows state.files t)
      (λ slot below live.
      let r = get_or (rows state.files t) slot no_row in
      plan_passes (ranges_at on value) (λ place. key_at_place place r) (kinds infos)
      (all_lie t.schema.attributes r.tuple (rows_suit state t told holds slot (omega (arith, below, count_rows state t))) value on ((both_parts r.live (belongs value on r.tuple) live).1) infos places))

  -- all that belongs to the value, from a slot on, is ahead
  pub partners_ahead : (begun new : Candidates) (ranges : List Range) (from n : ℕ) → ranges ≡ ranges_at on value → ahead begun (rows state.files t) ≡ slots_passed (kinds infos) ranges n (rows state.files t)
      → new.from ≡ max begun.from from → new.slots ≡ begun.slots → new.search ≡ begun.search
      → passing (belongs value on) (rows state.files t) (ahead new (rows state.files t)) ≡ passing (belongs value on) (rows state.files t) (range_with_len from (n - from))
  partners_ahead begun new ranges from n r c moved slots search =
      let all = rows state.files t in
      let m = λ (slot : ℕ). is_live_and (belongs value on) (get_or all slot no_row) in
      let p = λ (slot : ℕ). is_passed (kinds infos) (ranges_at on value) (get_or all slot no_row) in
      let b = λ (s : ℕ). nat_le from s in
      let begins : max 0 from ≡ from = omega arith in
      let whole : n ≡ n - 0 = omega arith in
      ap (passing (belongs value on) all) (skipped begun new from all moved slots search ∙ ap (filter b) (c ∙ ap (λ (l : List Range). slots_passed (kinds infos) l n all) r))
      ∙ filter_swap m b (filter p (range_with_len 0 n))
      ∙ ap (filter b) (filter_weaker m p (range_with_len 0 n) passed)
      ∙ filter_swap b m (range_with_len 0 n)
      ∙ ap (filter m) (slots_from from 0 n n whole ∙ ap (λ (a : ℕ). range_with_len a (n - a)) begins)

-- ---- behind a slot that passes

rest_step : (m : ℕ → Bool) (a k s : ℕ) (rest : List ℕ) (b : Bool) → cond b (a ∷ filter m (range_with_len (a + 1) k)) (filter m (range_with_len (a + 1) k)) ≡ s ∷ rest
    → (filter m (range_with_len (a + 1) k) ≡ s ∷ rest → rest ≡ filter m (range_with_len (s + 1) (a + 1 + k - (s + 1)))) → rest ≡ filter m (range_with_len (s + 1) (a + suc k - (s + 1)))
rest_step m a k s rest true e later =
    let here : a ≡ s = cc in
    let same : filter m (range_with_len (a + 1) k) ≡ rest = cc in
    let n : k ≡ a + suc k - (a + 1) = omega arith in
    sym same ∙ ap (λ (j : ℕ). filter m (range_with_len (a + 1) j)) n ∙ ap (λ (x : ℕ). filter m (range_with_len (x + 1) (a + suc k - (x + 1)))) here
rest_step m a k s rest false e later =
    let n : a + 1 + k - (s + 1) ≡ a + suc k - (s + 1) = omega arith in
    later e ∙ ap (λ (j : ℕ). filter m (range_with_len (s + 1) j)) n

rest_of : (m : ℕ → Bool) (a k s : ℕ) (rest : List ℕ) → filter m (range_with_len a k) ≡ s ∷ rest → rest ≡ filter m (range_with_len (s + 1) (a + k - (s + 1)))
rest_of m a zero s rest e = absurd (cc)
rest_of m a (suc k) s rest e = rest_step m a k s rest (m a) e (rest_of m (a + 1) k s rest)

pub partners_behind : (test : List Value → Bool) (all : List Row) (from n s : ℕ) (rest : List ℕ) → from ≤ n → passing test all (range_with_len from (n - from)) ≡ s ∷ rest → rest ≡ passing test all (range_with_len (s + 1) (n - (s + 1)))
partners_behind test all from n s rest h e =
    let m : from + (n - from) - (s + 1) ≡ n - (s + 1) = omega arith in
    rest_of (λ slot. is_live_and test (get_or all slot no_row)) from (n - from) s rest e ∙ ap (λ (j : ℕ). passing test all (range_with_len (s + 1) j)) m

-- ---- costs

halvings_less : (t n m : ℕ) → n ≤ m → halvings t n ≤ halvings t m
halvings_less zero n m h = omega arith
halvings_less (suc t) zero m h = omega arith
halvings_less (suc t) (suc n) zero h = absurd (omega arith)
halvings_less (suc t) (suc n) (suc m) h = omega (arith, halvings_less t (suc n / 2) (suc m / 2) (omega arith))

halvings_more : (t u n : ℕ) → t ≤ u → halvings t n ≤ halvings u n
halvings_more zero u n h = omega arith
halvings_more (suc t) zero n h = absurd (omega arith)
halvings_more (suc t) (suc u) zero h = omega arith
halvings_more (suc t) (suc u) (suc n) h = omega (arith, halvings_more t u (suc n / 2) (omega arith))

pub bits_more : (n m : ℕ) → n ≤ m → bits n ≤ bits m
unfolding bits
bits_more n m h = omega (arith, halvings_less n n m h, halvings_more n m m h)

-- what is read to begin is within the plan's cost
pub beginning : (indexes : Kinds) (ranges : List Range) (all : List Row) (n : ℕ) (p : Plan) → n ≤ length all → begin_cost n p ≤ plan_cost indexes ranges all p
beginning indexes ranges all n Nothing h = omega arith
beginning indexes ranges all n Scan h = omega arith
beginning indexes ranges all n (ByOrder nth) h = omega (arith, bits_more n (length all) h)
beginning indexes ranges all n (ByTree nth key) h = omega arith
beginning indexes ranges all n (ByTable nth key) h = omega arith
