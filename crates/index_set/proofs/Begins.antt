-- Where candidates begin, by each plan.
use Rattle.std.proofs.Common.{◌≡◌, ◌≤◌, ◌<◌, ◌+◌, ◌-◌, ◌*◌, ℕ, ℤ, zero, suc, List, [], ◌∷◌, length, get_or, true, false, Option, None, refl, arith, ap, ◌∙◌, sym, subst}
use Rattle.std.specs.Prelude.{int_le}
use Rattle.index_maxheap.specs.declared.places.Place.{Place}
use Rattle.std.specs.List.{filter, range_with_len}
use Rattle.std.specs.Ordering.{int_eq}
use Rattle.std.proofs.lemmas.Int.{ints}
use Rattle.afl_base.specs.Files.{State, IsLive}
use Rattle.afl_base.specs.KeyColumn.{key_of}
use Rattle.db_model.specs.declared.schemas.Range.{Range}
use Rattle.db_model.specs.declared.schemas.Range.TheVariants.{Empty, Between}
use Rattle.db_model.specs.Cost.{begin_cost, chosen_cost, keys_beside, keys_equal, keys_in, plan_cost}
use Rattle.db_model.specs.Plan as model
use Rattle.db_model.specs.Plan.{ByOrder, ByTable, ByTree, Nothing, Scan, lies_in, passes, place_at, plan, range_at}
use Rattle.db_model.specs.Row.{Row, no_row}
use Rattle.db_model.specs.Step.{first_fall, keys}
use Rattle.index_inline.specs.Keys.{keys_of}
use Rattle.index_inline.specs.Span.{IsSpan, is_above, is_below}
use Rattle.index_inline.proofs.Digits.{bits_grow}
use Rattle.index_set.specs.declared.candidates.Candidates.{Candidates}
use Rattle.index_set.specs.declared.candidates.Search.{Search}
use Rattle.index_set.specs.declared.candidates.Search.TheVariants as by
use Rattle.index_set.specs.declared.info.Access.{Access}
use Rattle.index_set.specs.declared.info.Access.TheVariants.{Order, Tree, Table as InTable}
use Rattle.index_set.specs.declared.info.IndexInfo.{IndexInfo}
use Rattle.index_set.specs.declared.info.TableId.{TableId}
use Rattle.index_set.specs.Complete.{AreIndexesOf, AreReadable, HasKeys, HasTree, IsComplete, IsInfoOf, IsReadable, key_at_place}
use Rattle.index_set.specs.Plans.{kinds, slots_passed}
use Rattle.index_set.specs.Tables.{Tables}
use Rattle.index_set.specs.Walks.{BeginsWalk, Fits, IsChosen, KnowsRows, Waits, ahead, cost_ahead, reads_by, slots_searched, search_takes}
use Rattle.index_set.proofs.Costs.{all_counted, few_counted}
use Rattle.index_set.proofs.Fronts.{keys_front, level_front}
use Rattle.index_set.proofs.Lists.{here_of, some_of}
use Rattle.index_set.proofs.Slots.{between_pass, between_same}
use Rattle.padded.proofs.Facts.{false_right}

-- the attribute's place of the index with a number
place_of : (xs : List IndexInfo) (n : ℕ) (y : IndexInfo) → n < length xs → y ≡ get_or xs n y → place_at (kinds xs) n ≡ y.attribute
place_of [] n y h e = absurd (omega (arith, h))
place_of (x ∷ xs) zero y h e = ap (λ (i : IndexInfo). i.attribute) (sym e)
place_of (x ∷ xs) (suc n) y h e = place_of xs n y (omega (arith, h)) e

module _ (infos : List IndexInfo) (ranges : List Range) (slots : ℕ) where
  -- what a search answers is what its plan passes
  passed_by : (s : Search) (p : model.Plan) → plan (kinds infos) ranges ≡ p → ((row : Row) → search_takes s row ≡ passes (kinds infos) ranges p (λ place. key_at_place place row)) → (all : List Row)
      → slots_searched s all 0 slots ≡ slots_passed (kinds infos) ranges slots all
  passed_by s p is same all =
      let none : slots - 0 ≡ slots = omega arith in
      let P : model.Plan → Type 0 = λ q. slots_searched s all 0 slots ≡ filter (λ slot. passes (kinds infos) ranges q (λ place. key_at_place place (get_or all slot no_row))) (range_with_len 0 slots) in
      subst P (sym is)
      (between_same (λ slot. search_takes s (get_or all slot no_row)) (λ slot. passes (kinds infos) ranges p (λ place. key_at_place place (get_or all slot no_row))) 0 slots (λ i a b. same (get_or all i no_row))
      ∙ ap (λ (n : ℕ). filter (λ slot. passes (kinds infos) ranges p (λ place. key_at_place place (get_or all slot no_row))) (range_with_len 0 n)) none)

  begun_ahead : (c : Candidates) (s : Search) (p : model.Plan) → c.search ≡ s → c.from ≡ 0 → c.slots ≡ slots → plan (kinds infos) ranges ≡ p
      → ((row : Row) → search_takes s row ≡ passes (kinds infos) ranges p (λ place. key_at_place place row)) → (all : List Row) → ahead c all ≡ slots_passed (kinds infos) ranges slots all
  begun_ahead c s p searched from count is same all = rw (searched, from, count) (passed_by s p is same all)

  begun_waits : (c : Candidates) (s : Search) → c.search ≡ s → ((rows : List Row) (from end slots : ℕ) → KnowsRows s rows from end slots) → c.slots ≡ slots → (all : List Row) → slots ≤ length all → Waits c all
  begun_waits c s searched free count all few = record {
    few = omega (arith, count, few);
    knows = subst (λ (t : Search). KnowsRows t all c.from c.end c.slots) (sym searched) (free all c.from c.end c.slots);
  }

  -- the cost of what is ahead, by the count
  ahead_cost : (c : Candidates) (s : Search) (k : ℕ) (all : List Row) → c.search ≡ s → c.place ≡ None → length (ahead c all) ≡ k → cost_ahead c all ≡ 6 * k + reads_by s None all k
  ahead_cost c s k all searched rests count =
      ap (λ (n : ℕ). 6 * n + reads_by c.search c.place all n) count ∙ ap (λ (t : Search). 6 * k + reads_by t c.place all k) searched ∙ ap (λ (p : Option Place). 6 * k + reads_by s p all k) rests

  cost_by : (p : model.Plan) (all : List Row) (n : ℕ) → plan (kinds infos) ranges ≡ p → begin_cost slots p + n ≤ plan_cost (kinds infos) ranges all p → begin_cost slots (plan (kinds infos) ranges) + n ≤ chosen_cost (kinds infos) ranges all
  cost_by p all n is h = subst (λ (q : model.Plan). begin_cost slots q + n ≤ plan_cost (kinds infos) ranges all q) (sym is) h

  count_of : (s : Search) (all : List Row) → slots_searched s all 0 slots ≡ filter (λ slot. search_takes s (get_or all slot no_row)) (range_with_len 0 slots)
  count_of s all = let none : slots - 0 ≡ slots = omega arith in ap (λ (n : ℕ). filter (λ slot. search_takes s (get_or all slot no_row)) (range_with_len 0 n)) none

  -- ---- no rows, all rows

  nothing_cost : (c : Candidates) → c.search ≡ by.Nothing → c.place ≡ None → plan (kinds infos) ranges ≡ Nothing → (all : List Row) → ahead c all ≡ slots_passed (kinds infos) ranges slots all
      → begin_cost slots (plan (kinds infos) ranges) + cost_ahead c all ≤ chosen_cost (kinds infos) ranges all
  nothing_cost c searched rests is all same =
      let count : length (ahead c all) ≡ length (slots_searched by.Nothing all 0 slots) = ap (λ (xs : List ℕ). length xs) (same ∙ sym (passed_by by.Nothing Nothing is (λ row. refl) all)) in
      let none : length (slots_searched by.Nothing all 0 slots) ≤ 0 = none_taken slots all in
      let cost = ahead_cost c by.Nothing (length (slots_searched by.Nothing all 0 slots)) all searched rests count in
      cost_by Nothing all (cost_ahead c all) is (omega (arith, none, cost))
    where
      none_in : (from n : ℕ) → length (filter (λ slot. false) (range_with_len from n)) ≤ 0
      none_in from zero = omega arith
      none_in from (suc n) = none_in (from + 1) n

      none_taken : (n : ℕ) (all : List Row) → length (slots_searched by.Nothing all 0 n) ≤ 0
      none_taken n all = none_in 0 (n - 0)

  scan_cost : (c : Candidates) → c.search ≡ by.Scan → c.place ≡ None → plan (kinds infos) ranges ≡ Scan → (all : List Row) → slots ≤ length all → ahead c all ≡ slots_passed (kinds infos) ranges slots all
      → begin_cost slots (plan (kinds infos) ranges) + cost_ahead c all ≤ chosen_cost (kinds infos) ranges all
  scan_cost c searched rests is all few same =
      let count : length (ahead c all) ≡ length (slots_searched by.Scan all 0 slots) = ap (λ (xs : List ℕ). length xs) (same ∙ sym (passed_by by.Scan Scan is (λ row. refl) all)) in
      let most : length (slots_searched by.Scan all 0 slots) ≤ slots - 0 = all_counted (λ slot. search_takes by.Scan (get_or all slot no_row)) 0 (slots - 0) in
      let cost = ahead_cost c by.Scan (length (slots_searched by.Scan all 0 slots)) all searched rests count in
      cost_by Scan all (cost_ahead c all) is (omega (arith, most, cost, few))

  pub nothing_begins : (c : Candidates) → c.search ≡ by.Nothing → c.place ≡ None → c.from ≡ 0 → c.slots ≡ slots → plan (kinds infos) ranges ≡ Nothing → (state : State) (tables : Tables) (all : List Row) → slots ≤ length all
      → BeginsWalk c slots infos ranges state tables all
  nothing_begins c searched rests from count is state tables all few =
      let passed = begun_ahead c by.Nothing Nothing searched from count is (λ row. refl) all in
      record {
        ahead = passed;
        fits = record { waits = begun_waits c by.Nothing searched (λ rows from end slots. tt) count all few; index = λ some. rw searched tt };
        cost = nothing_cost c searched rests is all passed;
      }

  pub scan_begins : (c : Candidates) → c.search ≡ by.Scan → c.place ≡ None → c.from ≡ 0 → c.slots ≡ slots → plan (kinds infos) ranges ≡ Scan → (state : State) (tables : Tables) (all : List Row) → slots ≤ length all
      → BeginsWalk c slots infos ranges state tables all
  scan_begins c searched rests from count is state tables all few =
      let passed = begun_ahead c by.Scan Scan searched from count is (λ row. refl) all in
      record {
        ahead = passed;
        fits = record { waits = begun_waits c by.Scan searched (λ rows from end slots. tt) count all few; index = λ some. rw searched tt };
        cost = scan_cost c searched rests is all few passed;
      }

  -- ---- by one index

  module _ (nth : ℕ) (y : IndexInfo) (h : nth < length infos) (e : y ≡ get_or infos nth y) where
    attribute_is : place_at (kinds infos) nth ≡ y.attribute
    attribute_is = place_of infos nth y h e

    keys_at : (all : List Row) → keys (place_at (kinds infos) nth) all ≡ keys y.attribute all
    keys_at all = ap (λ (n : ℕ). keys n all) attribute_is

    complete_at : (state : State) (tables : Tables) (access : Access) (all : List Row) → y.access ≡ access → AreIndexesOf state tables all infos → IsComplete state tables access (keys y.attribute all)
    complete_at state tables access all is indexes = subst (λ (a : Access). IsComplete state tables a (keys y.attribute all)) is (here_of infos nth y h e (IsInfoOf state tables all) indexes).complete

    -- a tree
    tree_same : (file : ℕ) (key : ℤ) (row : Row) → search_takes (by.Tree y.attribute file key) row ≡ passes (kinds infos) ranges (ByTree nth key) (λ place. key_at_place place row)
    tree_same file key row = ap (λ (n : ℕ). int_eq (key_at_place n row) key) (sym attribute_is)

    tree_fits : (c : Candidates) (file : ℕ) (key : ℤ) (state : State) (tables : Tables) (all : List Row) → c.search ≡ by.Tree y.attribute file key → c.place ≡ None → y.access ≡ Tree file → Waits c all → AreIndexesOf state tables all infos → Fits c state tables all
    tree_fits c file key state tables all searched rests is waits indexes = record {
      waits = waits;
      index = λ some. rw (searched, rests) (complete_at state tables (Tree file) all is indexes, tt);
    }

    pub tree_chosen : (file : ℕ) (key : ℤ) → y.access ≡ Tree file → IsChosen (by.Tree y.attribute file key) infos
    tree_chosen file key is = some_of infos nth y h e (λ info. (info.attribute ≡ y.attribute) × (info.access ≡ Tree file)) (refl, is)

    pub tree_safe : (file slots : ℕ) (state : State) → y.access ≡ Tree file → AreReadable state slots infos → IsLive state.files file
    tree_safe file n state is readable = subst (λ (a : Access). HasTree state a) is (here_of infos nth y h e (IsReadable state n) readable).tree

    tree_cost_met : (c : Candidates) (file : ℕ) (key : ℤ) → c.search ≡ by.Tree y.attribute file key → c.place ≡ None → plan (kinds infos) ranges ≡ ByTree nth key → (all : List Row) → slots ≤ length all → ahead c all ≡ slots_passed (kinds infos) ranges slots all
        → begin_cost slots (plan (kinds infos) ranges) + cost_ahead c all ≤ chosen_cost (kinds infos) ranges all
    tree_cost_met c file key searched rests is all few same =
        let s : Search = by.Tree y.attribute file key in
        let found : length (ahead c all) ≡ length (filter (λ slot. search_takes s (get_or all slot no_row)) (range_with_len 0 slots)) = ap (λ (xs : List ℕ). length xs) (same ∙ sym (passed_by s (ByTree nth key) is (tree_same file key) all) ∙ count_of s all) in
        let most : length (filter (λ slot. search_takes s (get_or all slot no_row)) (range_with_len 0 slots)) ≤ keys_equal key (keys y.attribute all) = few_counted (λ k. int_eq k key) y.attribute all slots few in
        let cost = ahead_cost c s (length (filter (λ slot. search_takes s (get_or all slot no_row)) (range_with_len 0 slots))) all searched rests found in
        let beside : keys_beside key (keys (place_at (kinds infos) nth) all) ≡ keys_beside key (keys y.attribute all) = ap (keys_beside key) (keys_at all) in
        let equal : keys_equal key (keys (place_at (kinds infos) nth) all) ≡ keys_equal key (keys y.attribute all) = ap (keys_equal key) (keys_at all) in
        cost_by (ByTree nth key) all (cost_ahead c all) is (omega (arith, most, cost, beside, equal))

    pub tree_begins : (c : Candidates) (file : ℕ) (key : ℤ) → c.search ≡ by.Tree y.attribute file key → c.place ≡ None → c.from ≡ 0 → c.slots ≡ slots → plan (kinds infos) ranges ≡ ByTree nth key → y.access ≡ Tree file
        → (state : State) (tables : Tables) (all : List Row) → slots ≤ length all → AreIndexesOf state tables all infos → BeginsWalk c slots infos ranges state tables all
    tree_begins c file key searched rests from count is found state tables all few indexes =
        let s : Search = by.Tree y.attribute file key in
        let passed = begun_ahead c s (ByTree nth key) searched from count is (tree_same file key) all in
        record {
          ahead = passed;
          fits = tree_fits c file key state tables all searched rests found (begun_waits c s searched (λ rows from end slots. tt) count all few) indexes;
          cost = tree_cost_met c file key searched rests is all few passed;
        }

    -- a table
    table_same : (number : TableId) (key : ℤ) (row : Row) → search_takes (by.Table y.attribute number key) row ≡ passes (kinds infos) ranges (ByTable nth key) (λ place. key_at_place place row)
    table_same number key row = ap (λ (n : ℕ). int_eq (key_at_place n row) key) (sym attribute_is)

    table_fits : (c : Candidates) (number : TableId) (key : ℤ) (state : State) (tables : Tables) (all : List Row) → c.search ≡ by.Table y.attribute number key → y.access ≡ InTable number → Waits c all → AreIndexesOf state tables all infos → Fits c state tables all
    table_fits c number key state tables all searched is waits indexes = record {
      waits = waits;
      index = λ some. rw searched (complete_at state tables (InTable number) all is indexes);
    }

    pub table_chosen : (number : TableId) (key : ℤ) → y.access ≡ InTable number → IsChosen (by.Table y.attribute number key) infos
    table_chosen number key is = some_of infos nth y h e (λ info. (info.attribute ≡ y.attribute) × (info.access ≡ InTable number)) (refl, is)

    table_cost_met : (c : Candidates) (number : TableId) (key : ℤ) → c.search ≡ by.Table y.attribute number key → c.place ≡ None → plan (kinds infos) ranges ≡ ByTable nth key → (all : List Row) → slots ≤ length all → ahead c all ≡ slots_passed (kinds infos) ranges slots all
        → begin_cost slots (plan (kinds infos) ranges) + cost_ahead c all ≤ chosen_cost (kinds infos) ranges all
    table_cost_met c number key searched rests is all few same =
        let s : Search = by.Table y.attribute number key in
        let found : length (ahead c all) ≡ length (filter (λ slot. search_takes s (get_or all slot no_row)) (range_with_len 0 slots)) = ap (λ (xs : List ℕ). length xs) (same ∙ sym (passed_by s (ByTable nth key) is (table_same number key) all) ∙ count_of s all) in
        let most : length (filter (λ slot. search_takes s (get_or all slot no_row)) (range_with_len 0 slots)) ≤ keys_equal key (keys y.attribute all) = few_counted (λ k. int_eq k key) y.attribute all slots few in
        let cost = ahead_cost c s (length (filter (λ slot. search_takes s (get_or all slot no_row)) (range_with_len 0 slots))) all searched rests found in
        let equal : keys_equal key (keys (place_at (kinds infos) nth) all) ≡ keys_equal key (keys y.attribute all) = ap (keys_equal key) (keys_at all) in
        cost_by (ByTable nth key) all (cost_ahead c all) is (omega (arith, most, cost, equal))

    pub table_begins : (c : Candidates) (number : TableId) (key : ℤ) → c.search ≡ by.Table y.attribute number key → c.place ≡ None → c.from ≡ 0 → c.slots ≡ slots → plan (kinds infos) ranges ≡ ByTable nth key → y.access ≡ InTable number
        → (state : State) (tables : Tables) (all : List Row) → slots ≤ length all → AreIndexesOf state tables all infos → BeginsWalk c slots infos ranges state tables all
    table_begins c number key searched rests from count is found state tables all few indexes =
        let s : Search = by.Table y.attribute number key in
        let passed = begun_ahead c s (ByTable nth key) searched from count is (table_same number key) all in
        record {
          ahead = passed;
          fits = table_fits c number key state tables all searched found (begun_waits c s searched (λ rows from end slots. tt) count all few) indexes;
          cost = table_cost_met c number key searched rests is all few passed;
        }

    -- an order
    order_same : (range : Range) → range ≡ range_at ranges y.attribute → (row : Row) → search_takes (by.Order y.attribute range) row ≡ passes (kinds infos) ranges (ByOrder nth) (λ place. key_at_place place row)
    order_same range is row = ap (λ (r : Range). lies_in r (key_at_place y.attribute row)) is ∙ ap (λ (n : ℕ). lies_in (range_at ranges n) (key_at_place n row)) (sym attribute_is)

    column_at : (state : State) (tables : Tables) (all : List Row) → AreIndexesOf state tables all infos → HasKeys state all y
    column_at state tables all indexes = (here_of infos nth y h e (IsInfoOf state tables all) indexes).column

    -- the span of the keys, over rows
    module _ (c : Candidates) (range : Range) (state : State) (tables : Tables) (all : List Row) (few : slots ≤ length all) (searched : c.search ≡ by.Order y.attribute range) (rests : c.place ≡ None) (count : c.slots ≡ slots)
        (range_is : range ≡ range_at ranges y.attribute) (is : plan (kinds infos) ranges ≡ ByOrder nth) (indexes : AreIndexesOf state tables all infos) (span : IsSpan range (key_of state y.column) slots c.from c.end) where
      row_key : (i : ℕ) → i < slots → key_of state y.column i ≡ key_at_place y.attribute (get_or all i no_row)
      row_key i below = column_at state tables all indexes i (omega (arith, below, few))

      before : (i : ℕ) → i < c.from → lies_in range (key_at_place y.attribute (get_or all i no_row)) ≡ false
      before i below =
          let order = span.order in let end = span.end in
          subst (λ (k : ℤ). lies_in range k ≡ false) (row_key i (omega (arith, below, order, end))) (not_below range (key_of state y.column i) (span.below i below))
        where
          not_below : (r : Range) (k : ℤ) → is_below r k ≡ true → lies_in r k ≡ false
          not_below Empty k t = refl
          not_below (Between lo hi) k t = let no_less : int_le lo k ≡ false = grind (arith, ints) in rw no_less refl

      behind : (i : ℕ) → c.end ≤ i → i < slots → lies_in range (key_at_place y.attribute (get_or all i no_row)) ≡ false
      behind i past below = subst (λ (k : ℤ). lies_in range k ≡ false) (row_key i below) (not_above range (key_of state y.column i) (span.above i past below))
        where
          not_above : (r : Range) (k : ℤ) → is_above r k ≡ true → lies_in r k ≡ false
          not_above Empty k t = refl
          not_above (Between lo hi) k t = let no_more : int_le k hi ≡ false = grind (arith, ints) in rw no_more (false_right (int_le lo k) false refl)

      inside : (i : ℕ) → c.from ≤ i → i < c.end → lies_in range (key_at_place y.attribute (get_or all i no_row)) ≡ true
      inside i past below = let end = span.end in subst (λ (k : ℤ). lies_in range k ≡ true) (row_key i (omega (arith, below, end))) (span.inside i past below)

      order_slots : ahead c all ≡ slots_searched (by.Order y.attribute range) all 0 slots
      order_slots =
          let order = span.order in let end = span.end in
          rw (searched, count) (sym (between_pass (λ slot. search_takes (by.Order y.attribute range) (get_or all slot no_row)) 0 c.from slots (omega arith) (omega (arith, order, end)) (λ i a b. before i b)))

      order_ahead : ahead c all ≡ slots_passed (kinds infos) ranges slots all
      order_ahead = order_slots ∙ passed_by (by.Order y.attribute range) (ByOrder nth) is (order_same range range_is) all

      order_fits : Fits c state tables all
      order_fits =
          record {
            waits = record {
              few = omega (arith, few, count);
              knows = rw searched (inside, λ i a b. behind i a (omega (arith, b, count)));
            };
            index = λ some. rw searched tt;
          }

      order_cost_met : begin_cost slots (plan (kinds infos) ranges) + cost_ahead c all ≤ chosen_cost (kinds infos) ranges all
      order_cost_met =
          let s : Search = by.Order y.attribute range in
          let found : length (ahead c all) ≡ length (filter (λ slot. search_takes s (get_or all slot no_row)) (range_with_len 0 slots)) = ap (λ (xs : List ℕ). length xs) (order_slots ∙ count_of s all) in
          let most : length (filter (λ slot. search_takes s (get_or all slot no_row)) (range_with_len 0 slots)) ≤ keys_in range (keys y.attribute all) = few_counted (lies_in range) y.attribute all slots few in
          let cost = ahead_cost c s (length (filter (λ slot. search_takes s (get_or all slot no_row)) (range_with_len 0 slots))) all searched rests found in
          let same : keys_in (range_at ranges (place_at (kinds infos) nth)) (keys (place_at (kinds infos) nth) all) ≡ keys_in range (keys y.attribute all) =
          ap (λ (n : ℕ). keys_in (range_at ranges n) (keys n all)) attribute_is ∙ ap (λ (r : Range). keys_in r (keys y.attribute all)) (sym range_is) in
          let digits = bits_grow slots (length all) few in
          cost_by (ByOrder nth) all (cost_ahead c all) is (omega (arith, most, cost, same, digits))

      pub order_begins : BeginsWalk c slots infos ranges state tables all
      order_begins = record { ahead = order_ahead; fits = order_fits; cost = order_cost_met }

    -- the keys of the first rows do not fall
    pub order_level : (state : State) (tables : Tables) (all : List Row) → slots ≤ length all → y.access ≡ Order → AreIndexesOf state tables all infos → first_fall (keys_of state y.column slots) ≡ None
    order_level state tables all few is indexes =
        ap first_fall (keys_front state y all slots few (column_at state tables all indexes)) ∙ level_front (keys y.attribute all) slots (complete_at state tables Order all is indexes)
