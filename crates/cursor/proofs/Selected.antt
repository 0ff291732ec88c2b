-- What a cursor of one relation has still to answer at its beginning is what the condition selects.
use Rattle.std.proofs.Common.{◌≡◌, ℕ, ℤ, ◌<◌, ◌≤ℤ◌, Bool, true, ◌&&◌, List, [], ◌∷◌, length, get_or, filter, Option, ap, sym, ◌∙◌, subst, arith, IsTrue, slice_get}
use Rattle.std.specs.List.{AllByRecursion, range_with_len}
use Rattle.std.proofs.Math.Logic.{⊎_elim}
use Rattle.std.proofs.lemmas.Bool.{cases_lt}
use Rattle.std.proofs.lemmas.Int.{ints}
use Rattle.std.proofs.lemmas.List.{get_or_past, take_all}
use Rattle.afl_base.specs.Files.{State}
use Rattle.db_model.specs.declared.schemas.Attribute.{Attribute}
use Rattle.db_model.specs.declared.schemas.Range.{Range}
use Rattle.db_model.specs.declared.schemas.Range.TheVariants.{Empty, Between}
use Rattle.db_model.specs.declared.values.Value.{Value}
use Rattle.db_model.specs.Answers.{live_tuples, selected}
use Rattle.db_model.specs.Cond.{Cond}
use Rattle.db_model.specs.Item.{selects}
use Rattle.db_model.specs.Plan.{lies_in, ranges_of}
use Rattle.db_model.specs.Ranges.{range_of}
use Rattle.db_model.specs.Row.{AllSuit, Row, no_row}
use Rattle.db_model.specs.Step.{key_of}
use Rattle.index_set.specs.declared.info.IndexInfo.{IndexInfo}
use Rattle.index_set.specs.Complete.{AreReadable, key_at_place}
use Rattle.index_set.specs.Plans.{is_passed, kinds, slots_passed}
use Rattle.lvm.specs.declared.instruction.Instruction.{Instruction}
use Rattle.lvm.specs.Code.{IsCodeOf}
use Rattle.lvm.specs.Within.{IsInRange}
use Rattle.lvm.proofs.Codes.{verdict-code}
use Rattle.lvm.proofs.Within.{within-range_of}
use Rattle.tuple_file.specs.declared.tuples.Tuples.{Tuples}
use Rattle.tuple_file.specs.Tuples.{HoldsRows, rows, slots}
use Rattle.cursor.specs.Remaining.{AreOnNumbers, is_live_and, passes_code, passing, selected_slots, tuples_at}
use Rattle.cursor.proofs.Lists.{filter_weaker, live_at}
use Rattle.cursor.proofs.Planned.{AllLie, plan_passes, range_there}
use Rattle.cursor.proofs.Suited.{count_rows, key_bounds, number_there, rows_suit}
use Rattle.db_model.proofs.Moves.{same_filter}
use Rattle.padded.proofs.Facts.{both_parts}

-- what is so of the rows of a relation is so of each slot with a live row that passes
pub at_slots : (test : List Value → Bool) (P : Row → Type 0) (all : List Row) → ((slot : ℕ) → slot < length all → is_live_and test (get_or all slot no_row) ≡ true → P (get_or all slot no_row))
    → (slot : ℕ) → is_live_and test (get_or all slot no_row) ≡ true → P (get_or all slot no_row)
at_slots test P all each slot live =
    ⊎_elim
    (λ below. each slot below live)
    (λ above. let none : is_live_and test no_row ≡ true = subst (λ (r : Row). is_live_and test r ≡ true) (get_or_past all slot no_row above) live in absurd (cc))
    (cases_lt slot (length all))

pub lies : (r : Range) (z : ℤ) → IsInRange r z → lies_in r z ≡ true
lies Empty z h = absurd h
lies (Between lo hi) z h = let low : lo ≤ℤ z = h.0 in let high : z ≤ℤ hi = h.1 in grind (arith, ints)

module _ (attributes : List Attribute) (condition : Option Cond) where
  -- a tuple that is selected has its keys in the ranges
  all_lie : (tuple : List Value) → AllSuit attributes tuple → selects attributes condition tuple ≡ true → (infos : List IndexInfo) → AreOnNumbers attributes infos
      → AllByRecursion (λ info. info.attribute < 8) infos → AllLie (ranges_of attributes condition) (λ place. key_of (slice_get tuple place)) (kinds infos)
  all_lie tuple suit is [] numbers places = tt
  all_lie tuple suit is (info ∷ infos) numbers places = (
    subst (λ (r : Range). lies_in r (key_of (slice_get tuple info.attribute)) ≡ true) (sym (range_there attributes condition info.attribute places.0))
        (lies (range_of attributes info.attribute condition) (key_of (slice_get tuple info.attribute))
        (within-range_of attributes tuple info.attribute condition (key_of (slice_get tuple info.attribute))
        ((key_bounds attributes tuple info.attribute suit).0) ((key_bounds attributes tuple info.attribute suit).1) (number_there attributes tuple info.attribute numbers.0 suit) is)),
    all_lie tuple suit is infos numbers.1 places.1,
  )

pub places_of : (state : State) (n : ℕ) (infos : List IndexInfo) → AreReadable state n infos → AllByRecursion (λ info. info.attribute < 8) infos
places_of state n [] h = tt
places_of state n (info ∷ infos) h = (h.0.place, places_of state n infos h.1)

module _ (state : State) (t : Tuples) (told : IsTrue state.tells) (holds : HoldsRows state t) (infos : List IndexInfo) (numbers : AreOnNumbers t.schema.attributes infos)
    (readable : AreReadable state (slots state.files t) infos) (condition : Option Cond) (code : List Instruction) (is : IsCodeOf t.schema.attributes condition code) where
  alike : (tuple : List Value) → passes_code code tuple ≡ selects t.schema.attributes condition tuple
  alike tuple = verdict-code t.schema.attributes tuple condition code is

  passed : (slot : ℕ) → is_live_and (passes_code code) (get_or (rows state.files t) slot no_row) ≡ true → is_passed (kinds infos) (ranges_of t.schema.attributes condition) (get_or (rows state.files t) slot no_row) ≡ true
  passed = at_slots (passes_code code) (λ r. is_passed (kinds infos) (ranges_of t.schema.attributes condition) r ≡ true) (rows state.files t)
      (λ slot below live.
      let r = get_or (rows state.files t) slot no_row in
      plan_passes (ranges_of t.schema.attributes condition) (λ place. key_at_place place r) (kinds infos)
      (all_lie t.schema.attributes condition r.tuple (rows_suit state t told holds slot (omega (arith, below, count_rows state t)))
      (sym (alike r.tuple) ∙ (both_parts r.live (passes_code code r.tuple) live).1) infos numbers (places_of state (slots state.files t) infos readable)))

  -- the slots that are answered, among those that the plan passes
  pub slots_selected : (ranges : List Range) (n : ℕ) (cs : List ℕ) → ranges ≡ ranges_of t.schema.attributes condition → n ≡ length (rows state.files t)
      → cs ≡ slots_passed (kinds infos) ranges n (rows state.files t) → passing (passes_code code) (rows state.files t) cs ≡ selected_slots t.schema.attributes condition (rows state.files t)
  slots_selected ranges n cs r e c =
      let all = rows state.files t in
      ap (passing (passes_code code) all) (c ∙ ap (λ (l : List Range). slots_passed (kinds infos) l n all) r ∙ ap (λ (k : ℕ). slots_passed (kinds infos) (ranges_of t.schema.attributes condition) k all) e)
      ∙ filter_weaker (λ slot. is_live_and (passes_code code) (get_or all slot no_row)) (λ slot. is_passed (kinds infos) (ranges_of t.schema.attributes condition) (get_or all slot no_row)) (range_with_len 0 (length all)) passed
      ∙ same_filter (λ slot. is_live_and (passes_code code) (get_or all slot no_row)) (λ slot. is_live_and (selects t.schema.attributes condition) (get_or all slot no_row)) (range_with_len 0 (length all))
      (λ slot. ap (λ (b : Bool). (get_or all slot no_row).live && b) (alike (get_or all slot no_row).tuple))

-- the tuples at the slots that a condition selects
pub tuples_selected : (attributes : List Attribute) (condition : Option Cond) (all : List Row) → tuples_at (selected_slots attributes condition all) all ≡ selected attributes condition all
tuples_selected attributes condition all =
    live_at (selects attributes condition) all 0 (length all) (omega arith)
    ∙ ap (λ (l : List Row). filter (selects attributes condition) (live_tuples l)) (take_all (length all) all (omega arith))
