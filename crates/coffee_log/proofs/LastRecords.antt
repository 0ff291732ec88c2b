-- The last record of a region, by the numbers of a table.
use Rattle.std.proofs.Common.{◌≡◌, ◌≢◌, ℕ, zero, suc, ◌+◌, ◌<◌, Bool, true, false, ◌==◌, List, Option, None, Some, if◌then◌else◌, refl, ap, sym, ◌∙◌, arith, ⊎_elim}
use Rattle.std.proofs.lemmas.Bool.{cases_eq}
use Rattle.coffee_layout.specs.FileBytes.{last_in, number_in}
use Rattle.coffee_layout.proofs.Tests.{eq_false}
use Rattle.padded.proofs.Facts.{true_eq, eq_true}

found_turn : (table : List ℕ) (region n i : ℕ) (t : Bool) (o : Option ℕ) → number_in table n == region + 1 ≡ t → (o ≡ Some i → (i < n) × (number_in table i ≡ region + 1)) → (if t then Some n else o) ≡ Some i
    → (i < suc n) × (number_in table i ≡ region + 1)
found_turn table region n i true o e below is = let s : n ≡ i = cc in (omega arith, ap (λ k. number_in table k) (sym s) ∙ true_eq (number_in table n) (region + 1) e)
found_turn table region n i false o e below is = let b = below is in (omega (arith, b.0), b.1)

pub last_found : (table : List ℕ) (region n i : ℕ) → last_in table region n ≡ Some i → (i < n) × (number_in table i ≡ region + 1)
unfolding last_in
last_found table region zero i e = cc
last_found table region (suc n) i e = found_turn table region n i (number_in table n == region + 1) (last_in table region n) refl (last_found table region n i) e

-- where the tests of the numbers are the same, so is the last record
pub last_same : (old new : List ℕ) (region n : ℕ) → ((i : ℕ) → i < n → (number_in new i == region + 1) ≡ (number_in old i == region + 1)) → last_in new region n ≡ last_in old region n
unfolding last_in
last_same old new region zero same = refl
last_same old new region (suc n) same =
    ap (λ t. if t then Some n else last_in new region n) (same n (omega arith))
    ∙ ap (λ o. if number_in old n == region + 1 then Some n else o) (last_same old new region n (λ i l. same i (omega arith)))

pub last_absent : (table : List ℕ) (region n : ℕ) → ((i : ℕ) → i < n → number_in table i ≢ region + 1) → last_in table region n ≡ None
unfolding last_in
last_absent table region zero other = refl
last_absent table region (suc n) other =
    ap (λ t. if t then Some n else last_in table region n) (eq_false (number_in table n) (region + 1) (other n (omega arith))) ∙ last_absent table region n (λ i l. other i (omega arith))

-- a record of the region with none behind it is the last
pub last_is : (table : List ℕ) (region n used : ℕ) → used < n → number_in table used ≡ region + 1 → ((i : ℕ) → used < i → i < n → number_in table i ≢ region + 1) → last_in table region n ≡ Some used
unfolding last_in
last_is table region zero used below is other = absurd (omega arith)
last_is table region (suc n) used below is other =
    ⊎_elim
    (λ (e : used ≡ n).
    let here : number_in table n ≡ region + 1 = ap (λ k. number_in table k) (sym e) ∙ is in
    ap (λ t. if t then Some n else last_in table region n) (eq_true (number_in table n) (region + 1) here) ∙ ap Some (sym e))
    (λ (ne : used ≢ n).
    ap (λ t. if t then Some n else last_in table region n) (eq_false (number_in table n) (region + 1) (other n (omega arith) (omega arith)))
    ∙ before n used below is other ne (last_is table region n used))
    (cases_eq used n)
  where
    before : (n used : ℕ) → used < suc n → number_in table used ≡ region + 1 → ((i : ℕ) → used < i → i < suc n → number_in table i ≢ region + 1) → used ≢ n
        → (used < n → number_in table used ≡ region + 1 → ((i : ℕ) → used < i → i < n → number_in table i ≢ region + 1) → last_in table region n ≡ Some used) → last_in table region n ≡ Some used
    before n used below is other ne up = up (omega arith) is (λ i a b. other i a (omega arith))
