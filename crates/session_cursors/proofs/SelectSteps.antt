-- A FETCH of a SELECT: the head of the answer, what is ahead then, and what was read.
use Rattle.std.proofs.Common.{◌≡◌, ℕ, ◌+◌, ◌-◌, ◌*◌, ◌≤◌, List, [], ◌∷◌, length, map, drop, filter, get_or, slice_get, Option, Some, None, MatchOption, refl, ap, sym, ◌∙◌, subst, arith, length-drop}
use Rattle.std.specs.Prelude.{IfNone, IfSome}
use Rattle.std.specs.List.{range_with_len}
use Rattle.afl_base.specs.Files.{Table}
use Rattle.db_model.specs.declared.values.Value.{Value}
use Rattle.db_model.specs.Ahead.{OfSelect, fetched}
use Rattle.db_model.specs.Cost.{fetch_select_cost, passed}
use Rattle.db_model.specs.Row.{Row, no_row}
use Rattle.index_set.specs.declared.candidates.Candidates.{Candidates}
use Rattle.index_set.specs.declared.candidates.Search.{Search}
use Rattle.index_set.specs.declared.candidates.Search.TheVariants as by
use Rattle.index_set.specs.Walks.{ahead, cost_ahead, reads_by, search_takes, walk_of_search}
use Rattle.cursor.specs.declared.select.SelectCursor.{SelectCursor}
use Rattle.cursor.specs.Remaining.{is_live_and, next_cost, passes_code, slots_to_answer}
use Rattle.tuple_file.specs.declared.tuples.Tuples.{Tuples}
use Rattle.tuple_file.specs.Tuples.{rows}
use Rattle.session_model.specs.declared.held.OpenSelect.{OpenSelect}
use Rattle.session_model.specs.Aheads.{ahead_of_select}
use Rattle.session_model.specs.View.{project}
use Rattle.session_cursors.proofs.Passed.{passed_few, stops}

-- ---- the head of the answer

pub left_rows : (places : List ℕ) (found : Option ℕ) (tuple : List Value) (old now : List (List Value)) → MatchOption found (old ≡ []) (λ _. old ≡ tuple ∷ now) → (found ≡ None → now ≡ [])
    → map (project places) now ≡ drop 1 (map (project places) old)
left_rows places None tuple old now e ended = ap (map (project places)) (ended refl) ∙ sym (ap (λ (l : List (List Value)). drop 1 (map (project places) l)) e)
left_rows places (Some slot) tuple old now e ended = sym (ap (λ (l : List (List Value)). drop 1 (map (project places) l)) e)

-- where a cursor rests
abbrev pub at_root : SelectCursor → SelectCursor
at_root c = record c { candidates = record c.candidates { place = None; hint = c.candidates.place } }

pub ended_rows : (found : Option ℕ) (now : List (List Value)) → IfNone found (now ≡ []) → found ≡ None → now ≡ []
ended_rows None now h e = h
ended_rows (Some slot) now h e = absurd (cc)

-- ---- what is ahead

module _ (c d : SelectCursor) (all : List Row) (search : d.candidates.search ≡ c.candidates.search) (slots : d.candidates.slots ≡ c.candidates.slots) where
  -- the slots from one on
  from_slot : (from : ℕ) → d.candidates.from ≡ from → ahead d.candidates all ≡ filter (λ slot. search_takes c.candidates.search (get_or all slot no_row)) (range_with_len from (c.candidates.slots - from))
  from_slot from e = λ i. filter (λ slot. search_takes (search i) (get_or all slot no_row)) (range_with_len (e i) (slots i - e i))

  pub behind_stop : (slot : ℕ) (rest : List ℕ) → d.candidates.from ≡ slot + 1 → slots_to_answer c all ≡ slot ∷ rest
      → drop (length (passed (Some slot) (ahead c.candidates all))) (ahead c.candidates all) ≡ ahead d.candidates all
  behind_stop slot rest from e =
      (stops (λ slot. search_takes c.candidates.search (get_or all slot no_row)) (λ slot. is_live_and (passes_code c.code) (get_or all slot no_row))
      c.candidates.from (c.candidates.slots - c.candidates.from) c.candidates.slots slot rest refl e).behind
      ∙ sym (from_slot (slot + 1) from)

  pub behind_all : d.candidates.from ≡ d.candidates.slots → ahead d.candidates all ≡ []
  behind_all from =
      let none : c.candidates.slots - c.candidates.slots ≡ 0 = omega arith in
      from_slot c.candidates.slots (from ∙ slots)
      ∙ ap (λ (n : ℕ). filter (λ slot. search_takes c.candidates.search (get_or all slot no_row)) (range_with_len c.candidates.slots n)) none

module _ (files : Table) (o : OpenSelect) (d : SelectCursor) (tuples : d.tuples ≡ o.cursor.tuples) (search : d.candidates.search ≡ o.cursor.candidates.search)
    (slots : d.candidates.slots ≡ o.cursor.candidates.slots) where
  -- the same with the rows of its own relation
  own_slots : ahead d.candidates (rows files d.tuples) ≡ ahead d.candidates (rows files o.cursor.tuples)
  own_slots = ap (λ (t : Tuples). ahead d.candidates (rows files t)) tuples

  own_stops : slots_to_answer d (rows files d.tuples) ≡ slots_to_answer d (rows files o.cursor.tuples)
  own_stops = ap (λ (t : Tuples). slots_to_answer d (rows files t)) tuples

  abbrev before : List ℕ
  before = ahead o.cursor.candidates (rows files o.cursor.tuples)

  abbrev after : List ℕ → List ℕ → List ℕ
  after [] slots = []
  after (stop ∷ stops) slots = drop (length (passed (Some stop) slots)) slots

  pub ahead_then : (found : Option ℕ)
      → MatchOption found (slots_to_answer o.cursor (rows files o.cursor.tuples) ≡ []) (λ slot. slots_to_answer o.cursor (rows files o.cursor.tuples) ≡ slot ∷ slots_to_answer d (rows files o.cursor.tuples))
      → MatchOption found (d.candidates.from ≡ d.candidates.slots) (λ slot. d.candidates.from ≡ slot + 1)
      → ahead_of_select files (record { cursor = d; places = o.places }) ≡ fetched (ahead_of_select files o)
  ahead_then None e from =
      let none : ahead d.candidates (rows files d.tuples) ≡ [] = own_slots ∙ behind_all o.cursor d (rows files o.cursor.tuples) search slots from in
      let ss : ahead d.candidates (rows files d.tuples) ≡ after (slots_to_answer o.cursor (rows files o.cursor.tuples)) before = none ∙ sym (ap (λ (l : List ℕ). after l before) e) in
      let ts : slots_to_answer d (rows files d.tuples) ≡ drop 1 (slots_to_answer o.cursor (rows files o.cursor.tuples)) =
      ap (filter (λ slot. is_live_and (passes_code d.code) (get_or (rows files d.tuples) slot no_row))) none ∙ sym (ap (drop 1) e) in
      λ i. record { source = OfSelect (tuples i).schema.name (walk_of_search (search i)); slots = ss i; stops = ts i }
  ahead_then (Some slot) e from =
      let ss : ahead d.candidates (rows files d.tuples) ≡ after (slots_to_answer o.cursor (rows files o.cursor.tuples)) before =
      own_slots ∙ sym (behind_stop o.cursor d (rows files o.cursor.tuples) search slots slot (slots_to_answer d (rows files o.cursor.tuples)) from e) ∙ sym (ap (λ (l : List ℕ). after l before) e) in
      let ts : slots_to_answer d (rows files d.tuples) ≡ drop 1 (slots_to_answer o.cursor (rows files o.cursor.tuples)) = own_stops ∙ sym (ap (drop 1) e) in
      λ i. record { source = OfSelect (tuples i).schema.name (walk_of_search (search i)); slots = ss i; stops = ts i }

-- ---- what is read

-- a walk that has passed so many of its slots
within_price : (s : Search) (d : Candidates) (all : List Row) (k m n reads reads_now : ℕ) → n ≡ k + m
    → reads_now + (6 * m + reads_by s d.place all m) ≤ reads + (6 * n + reads_by s None all n) → reads_now ≤ reads + fetch_select_cost (walk_of_search s) all k
within_price by.Nothing d all k m n reads reads_now e h = omega (arith, e, h)
within_price by.Scan d all k m n reads reads_now e h = omega (arith, e, h)
within_price (by.Order attribute range) d all k m n reads reads_now e h = omega (arith, e, h)
within_price (by.Tree attribute file key) d all k m n reads reads_now e h = omega (arith, e, h)
within_price (by.Table attribute number key) d all k m n reads reads_now e h = omega (arith, e, h)

-- a walk that failed before its next slot
failed_price : (s : Search) (c : Candidates) (all : List Row) (k reads reads_now : ℕ) → c.place ≡ None → reads_now ≤ reads + (6 * k + reads_by s c.place all k) → reads_now ≤ reads + fetch_select_cost (walk_of_search s) all k
failed_price s c all k reads reads_now rests h = by_search s (subst (λ p. reads_now ≤ reads + (6 * k + reads_by s p all k)) rests h)
  where
    by_search : (t : Search) → reads_now ≤ reads + (6 * k + reads_by t None all k) → reads_now ≤ reads + fetch_select_cost (walk_of_search t) all k
    by_search by.Nothing g = omega (arith, g)
    by_search by.Scan g = omega (arith, g)
    by_search (by.Order attribute range) g = omega (arith, g)
    by_search (by.Tree attribute file key) g = omega (arith, g)
    by_search (by.Table attribute number key) g = omega (arith, g)

pub read_failed : (c : SelectCursor) (all : List Row) (reads reads_now : ℕ) → c.candidates.place ≡ None → reads_now ≤ reads + next_cost c all
    → reads_now ≤ reads + fetch_select_cost (walk_of_search c.candidates.search) all (length (passed (slice_get (slots_to_answer c all) 0) (ahead c.candidates all)))
read_failed c all reads reads_now rests h =
    failed_price c.candidates.search c.candidates all (length (passed (slice_get (slots_to_answer c all) 0) (ahead c.candidates all))) reads reads_now rests h

module _ (c d : SelectCursor) (all : List Row) (search : d.candidates.search ≡ c.candidates.search) (slots : d.candidates.slots ≡ c.candidates.slots) (rests : c.candidates.place ≡ None) where
  -- what is ahead is what was passed and what is ahead then
  counted : (found : Option ℕ) → MatchOption found (slots_to_answer c all ≡ []) (λ slot. slots_to_answer c all ≡ slot ∷ slots_to_answer d all)
      → MatchOption found (d.candidates.from ≡ d.candidates.slots) (λ slot. d.candidates.from ≡ slot + 1)
      → length (ahead c.candidates all) ≡ length (passed (slice_get (slots_to_answer c all) 0) (ahead c.candidates all)) + length (ahead d.candidates all)
  counted None e from =
      let stop : passed (slice_get (slots_to_answer c all) 0) (ahead c.candidates all) ≡ ahead c.candidates all = ap (λ (l : List ℕ). passed (slice_get l 0) (ahead c.candidates all)) e in
      let none : length (ahead d.candidates all) ≡ 0 = ap length (behind_all c d all search slots from) in
      omega (arith, ap length stop, none)
  counted (Some slot) e from =
      let stop : passed (slice_get (slots_to_answer c all) 0) (ahead c.candidates all) ≡ passed (Some slot) (ahead c.candidates all) = ap (λ (l : List ℕ). passed (slice_get l 0) (ahead c.candidates all)) e in
      let rest : length (drop (length (passed (Some slot) (ahead c.candidates all))) (ahead c.candidates all)) ≡ length (ahead d.candidates all) =
      ap length (behind_stop c d all search slots slot (slots_to_answer d all) from e) in
      let few = passed_few (Some slot) (ahead c.candidates all) in
      omega (arith, ap length stop, rest, few, length-drop (length (passed (Some slot) (ahead c.candidates all))) (ahead c.candidates all))

  pub read_few : (found : Option ℕ) (reads reads_now : ℕ) → MatchOption found (slots_to_answer c all ≡ []) (λ slot. slots_to_answer c all ≡ slot ∷ slots_to_answer d all)
      → MatchOption found (d.candidates.from ≡ d.candidates.slots) (λ slot. d.candidates.from ≡ slot + 1)
      → reads_now + cost_ahead d.candidates all ≤ reads + cost_ahead c.candidates all
      → reads_now ≤ reads + fetch_select_cost (walk_of_search c.candidates.search) all (length (passed (slice_get (slots_to_answer c all) 0) (ahead c.candidates all)))
  read_few found reads reads_now e from h =
      let is : cost_ahead d.candidates all ≡ 6 * length (ahead d.candidates all) + reads_by c.candidates.search d.candidates.place all (length (ahead d.candidates all)) =
      ap (λ (s : Search). 6 * length (ahead d.candidates all) + reads_by s d.candidates.place all (length (ahead d.candidates all))) search in
      let was : cost_ahead c.candidates all ≡ 6 * length (ahead c.candidates all) + reads_by c.candidates.search None all (length (ahead c.candidates all)) =
      ap (λ p. 6 * length (ahead c.candidates all) + reads_by c.candidates.search p all (length (ahead c.candidates all))) rests in
      within_price c.candidates.search d.candidates all (length (passed (slice_get (slots_to_answer c all) 0) (ahead c.candidates all))) (length (ahead d.candidates all)) (length (ahead c.candidates all)) reads reads_now
      (counted found e from) (omega (arith, is, was, h))

-- ---- it rests where it has come to

module _ (found : Option ℕ) where
  pub rested_at : (A : ℕ → Type 0) (from from_now slots slots_now : ℕ) → from_now ≡ from → slots_now ≡ slots → IfNone found (from ≡ slots) → IfSome found (λ slot. A slot × (from ≡ slot + 1))
      → MatchOption found (from_now ≡ slots_now) (λ slot. from_now ≡ slot + 1)
  rested_at A from from_now slots slots_now e f ended forward =
      subst (λ (n : ℕ). MatchOption found (n ≡ slots_now) (λ slot. n ≡ slot + 1)) (sym e) (subst (λ (n : ℕ). MatchOption found (from ≡ n) (λ slot. from ≡ slot + 1)) (sym f) (joined found ended forward))
    where
      joined : (o : Option ℕ) → IfNone o (from ≡ slots) → IfSome o (λ slot. A slot × (from ≡ slot + 1)) → MatchOption o (from ≡ slots) (λ slot. from ≡ slot + 1)
      joined None n g = n
      joined (Some slot) n g = g.1

  pub rested_on : (old rest rest_now : List ℕ) → rest_now ≡ rest → MatchOption found (old ≡ []) (λ slot. old ≡ slot ∷ rest) → MatchOption found (old ≡ []) (λ slot. old ≡ slot ∷ rest_now)
  rested_on old rest rest_now e h = subst (λ (l : List ℕ). MatchOption found (old ≡ []) (λ slot. old ≡ slot ∷ l)) (sym e) h
