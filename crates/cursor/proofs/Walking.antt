-- Walks over candidates, whose rows are read one after the other.
use Rattle.std.proofs.Common.{◌≡◌, ℕ, ◌+◌, ◌-◌, ◌*◌, ◌<◌, ◌≤◌, Bool, true, false, cond, ◌==◌, List, [], ◌∷◌, length, get_or, slice_get, Option, Some, None, refl, ap, sym, ◌∙◌, subst, arith, eqb-true}
use Rattle.std.proofs.lemmas.Bool.{false≢true}
use Rattle.std.proofs.lemmas.List.FromFn.{get_or-map-range_with_len}
use Rattle.afl_base.specs.Files.{State}
use Rattle.db_model.specs.declared.schemas.Attribute.{Attribute}
use Rattle.db_model.specs.declared.values.Value.{Value}
use Rattle.db_model.specs.Cost.{passed}
use Rattle.std.specs.Prelude.{slice_index, slice_range}
use Rattle.db_model.specs.Row.{Row, fields_length, no_row, row_at, row_length, row_of, rows_of, slots_in_bytes, tuple_of}
use Rattle.index_set.specs.declared.candidates.Candidates.{Candidates}
use Rattle.index_set.specs.declared.candidates.Search.{Search}
use Rattle.index_set.specs.declared.candidates.Search.TheVariants as by
use Rattle.index_set.specs.Tables.{Tables}
use Rattle.index_set.specs.Walks.{Advances, Fits, ahead, cost_ahead, reads_ahead, reads_by, reads_next}
use Rattle.cursor.specs.Remaining.{cost_of_slots, is_live_and, passed_until, passing}
use Rattle.cursor.proofs.Lists.{kept, passed_over}

-- the row of a slot is in its place
pub row_there : (attributes : List Attribute) (bytes : List ℕ) (slot : ℕ) → slot < slots_in_bytes attributes bytes → get_or (rows_of attributes bytes) slot no_row ≡ row_at attributes bytes slot
row_there attributes bytes slot below =
    let e : 0 + slot ≡ slot = omega arith in
    get_or-map-range_with_len (row_at attributes bytes) 0 (slots_in_bytes attributes bytes) slot slot no_row below e

-- the row of a slot, of its bytes
pub row_of_bytes : (attributes : List Attribute) (bytes row : List ℕ) (slot : ℕ) (live : Bool) → slot < slots_in_bytes attributes bytes
    → row ≡ slice_range bytes (row_length attributes * slot) (row_length attributes * slot + row_length attributes) → length row ≡ row_length attributes
    → live ≡ (slice_index row (length row - 1) == 1) → get_or (rows_of attributes bytes) slot no_row ≡ record { tuple = tuple_of attributes row; live = live }
row_of_bytes attributes bytes row slot live below same long is =
    let last : fields_length attributes ≡ length row - 1 = omega (arith, long) in
    row_there attributes bytes slot below
    ∙ ap (row_of attributes) (sym same)
    ∙ ap (λ (b : Bool). record { tuple = tuple_of attributes row; live = b }) (ap (λ (n : ℕ). slice_index row n == 1) last ∙ sym is)

-- the row is removed
pub not_live : (test : List Value → Bool) (r : Row) (tuple : List Value) (live : Bool) → r ≡ record { tuple = tuple; live = live } → live ≡ false → false ≡ is_live_and test r
not_live test r tuple live e f = sym (ap (is_live_and test) (e ∙ ap (λ (b : Bool). record { tuple = tuple; live = b }) f))

-- the row is live, and its tuple passes a test or not
pub live_answer : (test : List Value → Bool) (r : Row) (tuple : List Value) (live answer : Bool) → r ≡ record { tuple = tuple; live = live } → live ≡ true → answer ≡ test tuple → answer ≡ is_live_and test r
live_answer test r tuple live answer e f h = h ∙ sym (ap (is_live_and test) (e ∙ ap (λ (b : Bool). record { tuple = tuple; live = b }) f))

-- the walk has come from some candidates to others and has passed no row that is answered
pub record Walking (state : State) (tables : Tables) (all : List Row) (test : List Value → Bool) (before now : Candidates) (reads reads_now : ℕ) : Type 0 where
  pub fits : Fits now state tables all
  pub left : passing test all (ahead before all) ≡ passing test all (ahead now all)
  pub few : reads_now + cost_ahead now all ≤ reads + cost_ahead before all
  -- as many slots as it has passed lie before the next that is answered
  pub passed : length (passed_until test all (ahead before all)) + length (ahead now all) ≡ length (ahead before all) + length (passed_until test all (ahead now all))

-- a step behind slots that were passed
pub advances_then : (found : Option ℕ) (before now after : Candidates) → Advances None before now → before.from ≤ now.from → Advances found now after → Advances found before after
advances_then None before now after first later then_ = record {
  search = then_.search ∙ first.search;
  slots = then_.slots ∙ first.slots;
  below = tt;
  forward = tt;
  waits = λ all w. then_.waits all (first.waits all w);
}
advances_then (Some slot) before now after first later then_ =
    let below = then_.below in
    let slots = first.slots in
    let forward = then_.forward in
    let order = forward.0 in
    record {
      search = then_.search ∙ first.search;
      slots = then_.slots ∙ first.slots;
      below = omega (arith, below, slots);
      forward = (omega (arith, later, order), forward.1);
      waits = λ all w. then_.waits all (first.waits all w);
    }

-- a slot that is passed
pub passes_by : (slot : ℕ) (before after : Candidates) → Advances (Some slot) before after → Advances None before after
passes_by slot before after a = record { search = a.search; slots = a.slots; below = tt; forward = tt; waits = a.waits }

-- ---- the slots up to the next that is answered

module _ (test : List Value → Bool) (all : List Row) where
  answers : ℕ → Bool
  answers slot = is_live_and test (get_or all slot no_row)

  head_answers : (slots : List ℕ) (s : ℕ) (rest : List ℕ) → passing test all slots ≡ s ∷ rest → is_live_and test (get_or all s no_row) ≡ true
  head_answers [] s rest e = absurd (cc)
  head_answers (x ∷ slots) s rest e = by_test (is_live_and test (get_or all x no_row)) refl e (λ h. head_answers slots s rest h)
    where
      by_test : (b : Bool) → is_live_and test (get_or all x no_row) ≡ b → cond b (x ∷ passing test all slots) (passing test all slots) ≡ s ∷ rest
          → (passing test all slots ≡ s ∷ rest → is_live_and test (get_or all s no_row) ≡ true) → is_live_and test (get_or all s no_row) ≡ true
      by_test true h is later = let same : x ≡ s = cc in ap (λ (n : ℕ). is_live_and test (get_or all n no_row)) (sym same) ∙ h
      by_test false h is later = later is

  later_stop : (slot s : ℕ) (xs : List ℕ) (b : Bool) → (slot == s) ≡ b → is_live_and test (get_or all slot no_row) ≡ false → is_live_and test (get_or all s no_row) ≡ true
      → length (cond b (slot ∷ []) (slot ∷ passed (Some s) xs)) ≡ 1 + length (passed (Some s) xs)
  later_stop slot s xs true e unlike alike =
      let same : slot ≡ s = eqb-true slot s e in
      absurd (false≢true (sym unlike ∙ ap (λ (n : ℕ). is_live_and test (get_or all n no_row)) same ∙ alike))
  later_stop slot s xs false e unlike alike = omega arith

  by_rest : (slot : ℕ) (xs left : List ℕ) → passing test all xs ≡ left → is_live_and test (get_or all slot no_row) ≡ false → length (passed (slice_get left 0) (slot ∷ xs)) ≡ 1 + length (passed (slice_get left 0) xs)
  by_rest slot xs [] e unlike = omega arith
  by_rest slot xs (s ∷ rest) e unlike = later_stop slot s xs (slot == s) refl unlike (head_answers xs s rest e)

  -- a slot that is not answered is passed
  one_passed : (slot : ℕ) (xs : List ℕ) → is_live_and test (get_or all slot no_row) ≡ false → length (passed_until test all (slot ∷ xs)) ≡ 1 + length (passed_until test all xs)
  one_passed slot xs unlike =
      ap (λ (l : List ℕ). length (passed (slice_get l 0) (slot ∷ xs))) (passed_over (is_live_and test (get_or all slot no_row)) slot (passing test all xs) unlike)
      ∙ by_rest slot xs (passing test all xs) refl unlike

  -- where one is ahead, at least it is passed
  by_stop : (slot : ℕ) (xs : List ℕ) (stop : Option ℕ) → 1 ≤ length (passed stop (slot ∷ xs))
  by_stop slot xs None = omega arith
  by_stop slot xs (Some s) = first (slot == s)
    where
      first : (b : Bool) → 1 ≤ length (cond b (slot ∷ []) (slot ∷ passed (Some s) xs))
      first true = omega arith
      first false = omega arith

  some_passed : (slot : ℕ) (xs : List ℕ) → 1 ≤ length (passed_until test all (slot ∷ xs))
  some_passed slot xs = by_stop slot xs (slice_get (passing test all (slot ∷ xs)) 0)

-- ---- where a walk fails

next_fails : (s : Search) (c d : Candidates) (all : List Row) (p nb nw pw reads r1 r2 : ℕ) → p + nw ≡ nb + pw → r1 + (6 * nw + reads_by s d.place all nw) ≤ reads + (6 * nb + reads_by s c.place all nb)
    → r2 ≤ r1 + reads_by s d.place all 0 → r2 ≤ reads + (6 * p + reads_by s c.place all p)
next_fails by.Nothing c d all p nb nw pw reads r1 r2 e few h = omega (arith, e, few, h)
next_fails by.Scan c d all p nb nw pw reads r1 r2 e few h = omega (arith, e, few, h)
next_fails (by.Order attribute range) c d all p nb nw pw reads r1 r2 e few h = omega (arith, e, few, h)
next_fails (by.Tree attribute file key) c d all p nb nw pw reads r1 r2 e few h = omega (arith, e, few, h)
next_fails (by.Table attribute number key) c d all p nb nw pw reads r1 r2 e few h = omega (arith, e, few, h)

row_fails : (s : Search) (c a : Candidates) (all : List Row) (p nb na reads r1 : ℕ) → nb ≤ p + na → r1 + (6 * na + reads_by s a.place all na) ≤ reads + (6 * nb + reads_by s c.place all nb)
    → r1 ≤ reads + (6 * p + reads_by s c.place all p)
row_fails by.Nothing c a all p nb na reads r1 e few = omega (arith, e, few)
row_fails by.Scan c a all p nb na reads r1 e few = omega (arith, e, few)
row_fails (by.Order attribute range) c a all p nb na reads r1 e few = omega (arith, e, few)
row_fails (by.Tree attribute file key) c a all p nb na reads r1 e few = omega (arith, e, few)
row_fails (by.Table attribute number key) c a all p nb na reads r1 e few = omega (arith, e, few)

module _ (state : State) (tables : Tables) (all : List Row) (test : List Value → Bool) (before now : Candidates) (reads r1 r2 : ℕ) (w : Walking state tables all test before now reads r1) (search : now.search ≡ before.search) where
  pub walk_fails : r2 ≤ r1 + reads_next now all → r2 ≤ reads + cost_of_slots before all (length (passed_until test all (ahead before all)))
  walk_fails h =
      let is : cost_ahead now all ≡ 6 * length (ahead now all) + reads_by before.search now.place all (length (ahead now all)) =
      ap (λ (s : Search). 6 * length (ahead now all) + reads_by s now.place all (length (ahead now all))) search in
      let next : reads_next now all ≡ reads_by before.search now.place all 0 = ap (λ (s : Search). reads_by s now.place all 0) search in
      next_fails before.search before now all (length (passed_until test all (ahead before all))) (length (ahead before all)) (length (ahead now all)) (length (passed_until test all (ahead now all)))
      reads r1 r2 w.passed (omega (arith, w.few, is)) (omega (arith, h, next))

module _ (state : State) (tables : Tables) (all : List Row) (test : List Value → Bool) (before now after : Candidates) (reads r1 r2 r3 slot : ℕ)
    (w : Walking state tables all test before now reads r1) (here : ahead now all ≡ slot ∷ ahead after all)
    (walked : r2 + reads_ahead after all ≤ r1 + reads_ahead now all) (read : r3 ≤ r2 + 6) where
  paid : r3 + cost_ahead after all ≤ reads + cost_ahead before all
  paid = let long : length (ahead now all) ≡ length (ahead after all) + 1 = ap length here ∙ omega arith in omega (arith, w.few, walked, read, long)

  first : passing test all (ahead before all) ≡ passing test all (slot ∷ ahead after all)
  first = w.left ∙ ap (passing test all) here

  -- a row that is not answered
  pub walk_more : is_live_and test (get_or all slot no_row) ≡ false → Fits after state tables all → Walking state tables all test before after reads r3
  walk_more unlike fits = record {
    fits = fits;
    left = first ∙ passed_over (is_live_and test (get_or all slot no_row)) slot (passing test all (ahead after all)) unlike;
    few = paid;
    passed =
        let long : length (ahead now all) ≡ length (ahead after all) + 1 = ap length here ∙ omega arith in
        let one : length (passed_until test all (ahead now all)) ≡ 1 + length (passed_until test all (ahead after all)) =
        ap (λ (l : List ℕ). length (passed_until test all l)) here ∙ one_passed test all slot (ahead after all) unlike in
        omega (arith, w.passed, long, one);
  }

  -- a row that could not be read
  pub walk_stops : after.search ≡ before.search → r3 ≤ reads + cost_of_slots before all (length (passed_until test all (ahead before all)))
  walk_stops search =
      let long : length (ahead now all) ≡ length (ahead after all) + 1 = ap length here ∙ omega arith in
      let some : 1 ≤ length (passed_until test all (ahead now all)) = subst (λ (l : List ℕ). 1 ≤ length (passed_until test all l)) (sym here) (some_passed test all slot (ahead after all)) in
      let is : cost_ahead after all ≡ 6 * length (ahead after all) + reads_by before.search after.place all (length (ahead after all)) =
      ap (λ (s : Search). 6 * length (ahead after all) + reads_by s after.place all (length (ahead after all))) search in
      row_fails before.search before after all (length (passed_until test all (ahead before all))) (length (ahead before all)) (length (ahead after all)) reads r3
      (omega (arith, w.passed, long, some)) (omega (arith, paid, is))

  -- and one that is
  pub walk_finds : is_live_and test (get_or all slot no_row) ≡ true → passing test all (ahead before all) ≡ slot ∷ passing test all (ahead after all)
  walk_finds alike = first ∙ kept (is_live_and test (get_or all slot no_row)) slot (passing test all (ahead after all)) alike

  pub walk_paid : r3 + cost_ahead after all ≤ reads + cost_ahead before all
  walk_paid = paid
