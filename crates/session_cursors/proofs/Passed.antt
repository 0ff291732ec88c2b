-- The slots that a FETCH passes, and those behind them.
use Rattle.std.proofs.Common.{◌≡◌, ℕ, zero, suc, ◌+◌, ◌-◌, ◌≤◌, Bool, true, false, cond, ◌==◌, List, [], ◌∷◌, length, drop, filter, Option, Some, None, refl, ap, ◌∙◌, arith, eqb-true}
use Rattle.std.specs.List.{range_with_len}
use Rattle.std.proofs.lemmas.Bool.Decides.{nat_tests}
use Rattle.db_model.specs.Cost.{passed}

few_step : (b : Bool) (slot n : ℕ) (xs ys : List ℕ) → length ys ≤ length xs → length (cond b (slot ∷ []) (slot ∷ ys)) ≤ length (slot ∷ xs)
few_step true slot n xs ys h = omega arith
few_step false slot n xs ys h = omega (arith, h)

pub passed_few : (stop : Option ℕ) (slots : List ℕ) → length (passed stop slots) ≤ length slots
passed_few None slots = omega arith
passed_few (Some stop) [] = omega arith
passed_few (Some stop) (slot ∷ slots) = few_step (slot == stop) slot stop slots (passed (Some stop) slots) (passed_few (Some stop) slots)

-- of the slots of a test, the first that passes another test is a stop: behind it come those from the next slot on
pub record Stops (p : ℕ → Bool) (xs : List ℕ) (from end slot : ℕ) : Type 0 where
  pub after : from ≤ slot
  pub behind : drop (length (passed (Some slot) xs)) xs ≡ filter p (range_with_len (slot + 1) (end - (slot + 1)))

stop_here : (p : ℕ → Bool) (from k end slot : ℕ) (b : Bool) → suc k ≡ end - from → (from == slot) ≡ b → b ≡ true → (ys xs : List ℕ) → xs ≡ filter p (range_with_len (from + 1) k)
    → drop (length (cond b (from ∷ []) (from ∷ ys))) (from ∷ xs) ≡ filter p (range_with_len (slot + 1) (end - (slot + 1)))
stop_here p from k end slot true few e yes_ ys xs is =
    let same : from ≡ slot = eqb-true from slot e in
    let n : k ≡ end - (from + 1) = omega arith in
    is ∙ ap (λ (m : ℕ). filter p (range_with_len (from + 1) m)) n ∙ ap (λ (m : ℕ). filter p (range_with_len (m + 1) (end - (m + 1)))) same
stop_here p from k end slot false few e yes_ ys xs is = absurd (cc)

stop_later : (p : ℕ → Bool) (from end slot : ℕ) (b : Bool) → (from == slot) ≡ b → from + 1 ≤ slot → (xs : List ℕ)
    → drop (length (passed (Some slot) xs)) xs ≡ filter p (range_with_len (slot + 1) (end - (slot + 1)))
    → drop (length (cond b (from ∷ []) (from ∷ passed (Some slot) xs))) (from ∷ xs) ≡ filter p (range_with_len (slot + 1) (end - (slot + 1)))
stop_later p from end slot true e later xs is = let same : from ≡ slot = eqb-true from slot e in absurd (omega (arith, same, later))
stop_later p from end slot false e later xs is = is

module _ (p q : ℕ → Bool) where
  by_second : (from k end slot : ℕ) (rest xs : List ℕ) (c : Bool) → suc k ≡ end - from → xs ≡ filter p (range_with_len (from + 1) k) → cond c (from ∷ filter q xs) (filter q xs) ≡ slot ∷ rest
      → (filter q xs ≡ slot ∷ rest → Stops p xs (from + 1) end slot) → Stops p (from ∷ xs) from end slot
  by_second from k end slot rest xs true few is e later =
      let same : from ≡ slot = cc in
      record {
        after = omega (arith, same);
        behind = stop_here p from k end slot (from == slot) few refl (grind (arith, nat_tests, same)) (passed (Some slot) xs) xs is;
      }
  by_second from k end slot rest xs false few is e later =
      let s = later e in
      record { after = omega (arith, s.after); behind = stop_later p from end slot (from == slot) refl s.after xs s.behind }

  by_first : (from k end slot : ℕ) (rest : List ℕ) (b : Bool) → suc k ≡ end - from
      → filter q (cond b (from ∷ filter p (range_with_len (from + 1) k)) (filter p (range_with_len (from + 1) k))) ≡ slot ∷ rest
      → (filter q (filter p (range_with_len (from + 1) k)) ≡ slot ∷ rest → Stops p (filter p (range_with_len (from + 1) k)) (from + 1) end slot)
      → Stops p (cond b (from ∷ filter p (range_with_len (from + 1) k)) (filter p (range_with_len (from + 1) k))) from end slot
  by_first from k end slot rest true few e later = by_second from k end slot rest (filter p (range_with_len (from + 1) k)) (q from) few refl e later
  by_first from k end slot rest false few e later = let s = later e in record { after = omega (arith, s.after); behind = s.behind }

  pub stops : (from k end slot : ℕ) (rest : List ℕ) → k ≡ end - from → filter q (filter p (range_with_len from k)) ≡ slot ∷ rest → Stops p (filter p (range_with_len from k)) from end slot
  stops from zero end slot rest few e = absurd (cc)
  stops from (suc k) end slot rest few e =
      by_first from k end slot rest (p from) few e (λ h. let n : k ≡ end - (from + 1) = omega (arith, few) in stops (from + 1) k end slot rest n h)
