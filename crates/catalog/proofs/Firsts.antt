-- The least number that meets a test, found by going up.
use Rattle.std.proofs.Common.{◌≡◌, ℕ, zero, suc, ◌+◌, ◌<◌, ◌≤◌, Bool, true, false, refl, sym, ap, ◌∙◌, arith, Some, None}
use Rattle.std.proofs.Math.Logic.{⊎_elim}
use Rattle.std.proofs.lemmas.Bool.{cases_eq}
use Rattle.catalog.specs.Rules.{first}

pub first_none : (test : ℕ → Bool) → first 0 test ≡ None
unfolding first
first_none test = refl

first_next : (test : ℕ → Bool) (n : ℕ) → first n test ≡ None → test n ≡ false → first (suc n) test ≡ None
unfolding first
first_next test n none fails = rw (none, fails) refl

pub first_more : (test : ℕ → Bool) (n : ℕ) → first n test ≡ None → test n ≡ false → first (n + 1) test ≡ None
first_more test n none fails = let e : n + 1 ≡ suc n = omega arith in ap (λ m. first m test) e ∙ first_next test n none fails

pub first_found : (test : ℕ → Bool) (n k : ℕ) → k < n → first k test ≡ None → test k ≡ true → first n test ≡ Some k
unfolding first
first_found test zero k h none here = absurd (omega (arith, h))
first_found test (suc n) k h none here =
    ⊎_elim
    (λ (same : k ≡ n).
    let none_n : first n test ≡ None = ap (λ m. first m test) (sym same) ∙ none in
    let here_n : test n ≡ true = ap test (sym same) ∙ here in
    rw (none_n, here_n) (ap (λ m. Some m) (sym same)))
    (λ differs.
    let found : first n test ≡ Some k = first_found test n k (omega (arith, h, differs)) none here in
    rw found refl)
    (cases_eq k n)

pub first_all : (test : ℕ → Bool) (k n : ℕ) → n ≤ k → k ≤ n → first k test ≡ None → first n test ≡ None
first_all test k n h i none = let same : n ≡ k = omega (arith, h, i) in ap (λ m. first m test) same ∙ none
