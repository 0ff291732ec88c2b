-- Larger files take no fewer pages and sectors.
use Rattle.std.proofs.Common.{◌≡◌, ℕ, zero, suc, ◌+◌, ◌-◌, ◌*◌, ◌/◌, ◌≤◌, ◌<◌, ⊎_elim, List, [], ◌∷◌, ◌++◌, length, map, min, refl, ap, arith}
use Rattle.std.specs.Prelude.{⊤}
use Rattle.std.proofs.Math.Nat.{mul-le-mul_left}
use Rattle.std.proofs.lemmas.Bool.{cases_lt}
use Rattle.afl_base.specs.Fit.{fit, first_fit}
use Rattle.afl_base.proofs.FitLaws.{fit_here, fit_more}
use Rattle.db_model.specs.Cost.{sum}
use Rattle.afl_base.proofs.FitLaws.{fit_rises}
use Rattle.space_model.specs.Enough.{enough_for, largest, touched}

-- ---- the largest extent

-- so many pages, doubled so many times
abbrev doubled : ℕ → ℕ → ℕ
doubled zero p = p
doubled (suc t) p = doubled t (2 * p)

doubled_least : (t p : ℕ) → p ≤ doubled t p
doubled_least zero p = omega arith
doubled_least (suc t) p = let more = doubled_least t (2 * p) in omega (arith, more)

pages_most : (t p s : ℕ) → first_fit t p s ≤ doubled t p
pages_most zero p s = omega arith
pages_most (suc t) p s = ⊎_elim
    (λ (short : 256 * p < s + 32). rw (fit_more t p s short) (pages_most t (2 * p) s))
    (λ (holds : s + 32 ≤ 256 * p). rw (fit_here (suc t) p s holds) (doubled_least (suc t) p))
    (cases_lt (256 * p) (s + 32))

pub fit_few : (s : ℕ) → fit s ≤ 32768
unfolding fit
fit_few s = pages_most 11 16 s

largest_fit : fit 8388576 ≡ 32768
unfolding fit
largest_fit = refl

-- a size beyond the largest extent fits it by the definition
pub fit_capped : (s : ℕ) → fit (min s 8388576) ≡ fit s
fit_capped s = ⊎_elim
    (λ (below : s < 8388576). ap fit (omega (arith, below)))
    (λ (beyond : 8388576 ≤ s).
    let capped : min s 8388576 ≡ 8388576 = omega (arith, beyond) in
    let least = fit_rises 8388576 s beyond in
    let most = fit_few s in
    let all = largest_fit in
    rw capped (omega (arith, least, most, all)))
    (cases_lt s 8388576)

-- ---- sectors

-- as many sizes, none of them greater
abbrev pub AreWithin : List ℕ → List ℕ → Type 0
AreWithin [] [] = ⊤
AreWithin (x ∷ xs) (y ∷ ys) = (x ≤ y) × AreWithin xs ys
AreWithin _ _ = ⊥

length_within : (xs ys : List ℕ) → AreWithin xs ys → length xs ≡ length ys
length_within [] [] h = omega arith
length_within [] (y ∷ ys) h = absurd h
length_within (x ∷ xs) [] h = absurd h
length_within (x ∷ xs) (y ∷ ys) h = let e = length_within xs ys h.1 in omega (arith, e)

touched_within : (xs ys : List ℕ) → AreWithin xs ys → sum (map touched xs) ≤ sum (map touched ys)
touched_within [] [] h = omega arith
touched_within [] (y ∷ ys) h = absurd h
touched_within (x ∷ xs) [] h = absurd h
touched_within (x ∷ xs) (y ∷ ys) h =
    let here = fit_rises x y h.0 in
    let rest = touched_within xs ys h.1 in
    omega (arith, here, rest)

pub largest_within : (xs ys : List ℕ) → AreWithin xs ys → largest xs ≤ largest ys
largest_within [] [] h = omega arith
largest_within [] (y ∷ ys) h = absurd h
largest_within (x ∷ xs) [] h = absurd h
largest_within (x ∷ xs) (y ∷ ys) h =
    let here = fit_rises x y h.0 in
    let rest = largest_within xs ys h.1 in
    omega (arith, here, rest)

pub within-append : (ps qs xs ys : List ℕ) → AreWithin ps qs → AreWithin xs ys → AreWithin (ps ++ xs) (qs ++ ys)
within-append [] [] xs ys h k = k
within-append [] (q ∷ qs) xs ys h k = absurd h
within-append (p ∷ ps) [] xs ys h k = absurd h
within-append (p ∷ ps) (q ∷ qs) xs ys h k = (h.0, within-append ps qs xs ys h.1 k)

pub enough_within : (xs ys : List ℕ) (m n : ℕ) → AreWithin xs ys → m ≤ n → enough_for xs m ≤ enough_for ys n
enough_within xs ys m n h more =
    let sums = touched_within xs ys h in
    let same = length_within xs ys h in
    let gaps : (2 * (1 + length xs) + 1) * ((m + 15) / 16 - 1) ≤ (2 * (1 + length xs) + 1) * ((n + 15) / 16 - 1) = mul-le-mul_left (2 * (1 + length xs) + 1) (omega (arith, more)) in
    rw (← same) (omega (arith, sums, gaps))
