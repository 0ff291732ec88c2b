-- Slots that are counted one after the other, and the first 29 of them.
use Rattle.std.proofs.Common.{◌≡◌, ℕ, zero, suc, ◌+◌, ◌<◌, ◌≤◌, List, [], ◌∷◌, ◌++◌, length, take, drop, ap, sym, subst, ◌∙◌, arith, length-append}
use Rattle.std.proofs.lemmas.List.{length-take, take-append-le, take_all}
use Rattle.session_rows.specs.declared.selecting.Selected.{Selected}
use Rattle.session_rows.specs.Marking.{AreBelow, IsMarkedFront}

-- ---- one slot more

record Next (n : ℕ) (slots : List ℕ) (slot : ℕ) (left : List ℕ) : Type 0 where
  within : n + 1 ≤ length slots
  front : take (n + 1) slots ≡ take n slots ++ slot ∷ []
  behind : drop (n + 1) slots ≡ left

next : (n : ℕ) (slots : List ℕ) (slot : ℕ) (left : List ℕ) → drop n slots ≡ slot ∷ left → Next n slots slot left
next zero [] slot left e = absurd (cc)
next zero (x ∷ slots) slot left e =
    let first : x ≡ slot = cc in
    let rest : slots ≡ left = cc in
    record { within = omega arith; front = ap (λ (y : ℕ). y ∷ []) first; behind = rest }
next (suc n) [] slot left e = absurd (cc)
next (suc n) (x ∷ slots) slot left e =
    let h = next n slots slot left e in
    let more : suc n + 1 ≡ suc (n + 1) = omega arith in
    record {
      within = omega (arith, h.within);
      front = ap (λ (m : ℕ). take m (x ∷ slots)) more ∙ ap (λ (xs : List ℕ). x ∷ xs) h.front;
      behind = ap (λ (m : ℕ). drop m (x ∷ slots)) more ∙ h.behind;
    }

-- what comes behind the others is below its successor, and so are they
below_more : (end slot : ℕ) (xs : List ℕ) → AreBelow end xs → end ≤ slot → AreBelow (slot + 1) (xs ++ slot ∷ [])
below_more end slot [] all up zero below = omega arith
below_more end slot [] all up (suc i) below = absurd (omega (arith, below))
below_more end slot (x ∷ xs) all up zero below = omega (arith, all 0 (omega arith), up)
below_more end slot (x ∷ xs) all up (suc i) below = below_more end slot xs (λ j few. all (suc j) (omega (arith, few))) up i (omega (arith, below))

few_more : (xs : List ℕ) (slot : ℕ) → length (take 29 xs) < 29 → take 29 (xs ++ slot ∷ []) ≡ take 29 xs ++ slot ∷ []
few_more xs slot few =
    let long : length xs < 29 = omega (arith, few, length-take 29 xs) in
    take_all 29 (xs ++ slot ∷ []) (omega (arith, long, length-append xs (slot ∷ []))) ∙ ap (λ (ys : List ℕ). ys ++ slot ∷ []) (sym (take_all 29 xs (omega (arith, long))))

full_more : (xs : List ℕ) (slot : ℕ) → 29 ≤ length (take 29 xs) → take 29 (xs ++ slot ∷ []) ≡ take 29 xs
full_more xs slot full = take-append-le 29 xs (slot ∷ []) (omega (arith, full, length-take 29 xs))

pub front_kept : (s : Selected) (slot : ℕ) (firsts slots left : List ℕ) → length s.first < 29 → firsts ≡ s.first ++ slot ∷ [] → s.end ≤ slot → IsMarkedFront s slots (slot ∷ left)
    → IsMarkedFront (record { count = s.count + 1; first = firsts; end = slot + 1 }) slots left
front_kept s slot firsts slots left few e up f =
    let n = next s.count slots slot left f.behind in
    let less : length (take 29 (take s.count slots)) < 29 = subst (λ (xs : List ℕ). length xs < 29) f.first few in
    record {
      within = n.within;
      first = e ∙ ap (λ (xs : List ℕ). xs ++ slot ∷ []) f.first ∙ sym (few_more (take s.count slots) slot less) ∙ ap (take 29) (sym n.front);
      behind = n.behind;
      last = subst (λ (xs : List ℕ). AreBelow (slot + 1) xs) (sym n.front) (below_more s.end slot (take s.count slots) f.last up);
    }

pub front_counted : (s : Selected) (slot : ℕ) (slots left : List ℕ) → 29 ≤ length s.first → s.end ≤ slot → IsMarkedFront s slots (slot ∷ left)
    → IsMarkedFront (record { count = s.count + 1; first = s.first; end = slot + 1 }) slots left
front_counted s slot slots left full up f =
    let n = next s.count slots slot left f.behind in
    let many : 29 ≤ length (take 29 (take s.count slots)) = subst (λ (xs : List ℕ). 29 ≤ length xs) f.first full in
    record {
      within = n.within;
      first = f.first ∙ sym (full_more (take s.count slots) slot many) ∙ ap (take 29) (sym n.front);
      behind = n.behind;
      last = subst (λ (xs : List ℕ). AreBelow (slot + 1) xs) (sym n.front) (below_more s.end slot (take s.count slots) f.last up);
    }
