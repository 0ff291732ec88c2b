-- The slots about which a removal asks.
use Rattle.std.proofs.Common.{◌≡◌, ℕ, zero, suc, ◌+◌, ◌<◌, ◌≤◌, Bool, true, false, cond, List, [], ◌∷◌, filter, get_or, length, take, Option, refl, ap, sym, subst, ◌∙◌, arith}
use Rattle.std.specs.Prelude.{MatchBool, ◌&&◌}
use Rattle.std.specs.List.{range_with_len}
use Rattle.std.proofs.Math.Logic.{⊎_elim}
use Rattle.std.proofs.lemmas.Bool.{cases_lt}
use Rattle.std.proofs.lemmas.Bool.Decides.{nat_tests}
use Rattle.db_model.specs.declared.schemas.Attribute.{Attribute}
use Rattle.db_model.specs.declared.values.Value.{Value}
use Rattle.db_model.specs.Cond.{Cond}
use Rattle.db_model.specs.Item.{selects}
use Rattle.db_model.specs.Row.{Row, no_row}
use Rattle.cursor.specs.Remaining.{is_live_and, selected_slots}
use Rattle.tuple_file.specs.declared.span.Span.{Span}
use Rattle.tuple_file.specs.Tuples.{OfBytes, OfSlots, is_in}
use Rattle.tuple_file.proofs.Answered.{AnswersBy}
use Rattle.session_rows.specs.declared.selecting.Selected.{Selected}
use Rattle.session_rows.specs.Marking.{AreBelow, IsSelected, SelectsWithin}

-- a test is not both
never_both : {P : Type 0} (b : Bool) → b ≡ true → b ≡ false → P
never_both true yes_ no_ = absurd cc
never_both false yes_ no_ = absurd cc

-- ---- where the slots lie that pass a test

first_before : (f : ℕ → Bool) (a n slot : ℕ) → a ≤ slot → slot < a + n → f slot ≡ true → get_or (filter f (range_with_len a n)) 0 0 ≤ slot
first_before f a zero slot low high is = absurd (omega (arith, low, high))
first_before f a (suc n) slot low high is =
    by_test (f a) refl (λ above. first_before f (a + 1) n slot (omega (arith, above)) (omega (arith, high)) is)
  where
    by_test : (b : Bool) → f a ≡ b → (a < slot → get_or (filter f (range_with_len (a + 1) n)) 0 0 ≤ slot)
        → get_or (cond b (a ∷ filter f (range_with_len (a + 1) n)) (filter f (range_with_len (a + 1) n))) 0 0 ≤ slot
    by_test true e later = low
    by_test false e later = ⊎_elim later (λ at. never_both (f a) (ap f (same at) ∙ is) e) (cases_lt a slot)
      where
        same : slot ≤ a → a ≡ slot
        same at = omega (arith, at, low)

last_behind : (f : ℕ → Bool) (a n slot end : ℕ) → a ≤ slot → slot < a + n → f slot ≡ true → AreBelow end (filter f (range_with_len a n)) → slot < end
last_behind f a zero slot end low high is all = absurd (omega (arith, low, high))
last_behind f a (suc n) slot end low high is all =
    by_test (f a) refl all (λ above rest. last_behind f (a + 1) n slot end (omega (arith, above)) (omega (arith, high)) is rest)
  where
    same : slot ≤ a → a ≡ slot
    same at = omega (arith, at, low)

    by_test : (b : Bool) → f a ≡ b → AreBelow end (cond b (a ∷ filter f (range_with_len (a + 1) n)) (filter f (range_with_len (a + 1) n)))
        → (a < slot → AreBelow end (filter f (range_with_len (a + 1) n)) → slot < end) → slot < end
    by_test true e every later = ⊎_elim (λ above. later above (λ i few. every (suc i) (omega (arith, few)))) (λ at. omega (arith, at, every 0 (omega arith))) (cases_lt a slot)
    by_test false e every later = ⊎_elim (λ above. later above every) (λ at. never_both (f a) (ap f (same at) ∙ is) e) (cases_lt a slot)

first_taken : (slots : List ℕ) → get_or (take 29 slots) 0 0 ≡ get_or slots 0 0
first_taken [] = refl
first_taken (slot ∷ slots) = refl

inside : (span : Span) (slot : ℕ) → span.first ≤ slot → slot < span.end → is_in span slot ≡ true
inside span slot low high = grind (arith, nat_tests)

-- ---- the span of what is selected

by_answer : (live b : Bool) → live ≡ true → ((live && b) ≡ true → b ≡ false) → b ≡ false
by_answer true true is never = never refl
by_answer true false is never = refl
by_answer false b is never = absurd cc

pub selects_within : (s : Selected) (span : Span) (attributes : List Attribute) (condition : Option Cond) (all : List Row) → span.first ≡ get_or s.first 0 0 → span.end ≡ s.end
    → IsSelected s (selected_slots attributes condition all) → SelectsWithin span attributes condition all
selects_within s span attributes condition all first end is slot below out live =
    let test : ℕ → Bool = λ k. is_live_and (selects attributes condition) (get_or all k no_row) in
    let head : span.first ≡ get_or (filter test (range_with_len 0 (length all))) 0 0 =
    first ∙ ap (λ (xs : List ℕ). get_or xs 0 0) is.first ∙ first_taken (selected_slots attributes condition all) in
    by_answer (get_or all slot no_row).live (selects attributes condition (get_or all slot no_row).tuple) live (λ passes.
    let low = first_before test 0 (length all) slot (omega arith) (omega (arith, below)) passes in
    let high = last_behind test 0 (length all) slot s.end (omega arith) (omega (arith, below)) passes is.last in
    never_both (is_in span slot) (inside span slot (omega (arith, head, low)) (omega (arith, end, high))) out)

-- ---- what is answered about the rows

-- about a live row the answers are the condition's, also where it is not asked
pub answers_within : (asked : Span) (attributes : List Attribute) (condition : Option Cond) (answers : List ℕ → Bool → Type 0) (all : List Row) → SelectsWithin asked attributes condition all
    → ((tuple : List Value) (answer : Bool) → OfBytes attributes answers tuple answer → answer ≡ selects attributes condition tuple)
    → AnswersBy attributes (OfSlots asked attributes answers) (selects attributes condition) 0 all
answers_within asked attributes condition answers all within by k tuple answer below at suits said =
    let here : 0 + k ≡ k = omega arith in
    either (is_in asked k) refl (subst (λ (slot : ℕ). OfSlots asked attributes answers slot tuple answer) here said)
  where
    either : (b : Bool) → is_in asked k ≡ b → MatchBool b (OfBytes attributes answers tuple answer) (answer ≡ false) → answer ≡ selects attributes condition tuple
    either true e told = by tuple answer told
    either false e stays = stays ∙ sym (ap (λ (row : Row). selects attributes condition row.tuple) (sym at) ∙ within k below e (ap (λ (row : Row). row.live) at))
