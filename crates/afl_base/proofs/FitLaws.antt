-- `fit` is the least number of its form that holds the size.
use Rattle.std.specs.Prelude.{◌≡◌, ℕ, zero, suc, ◌+◌, ◌-◌, ◌*◌, ◌^◌, ◌<◌, ◌≤◌, Bool, cond, nat_le, if◌then◌else◌, true, false, refl}
use Rattle.std.proofs.Common.{arith, ◌∙◌}
use Rattle.std.proofs.lemmas.Bool.Decides.{nat_tests}
use Rattle.std.proofs.lemmas.Bool.{cases_lt, le-leb, leb-true}
use Rattle.std.proofs.Math.Logic.{⊎_elim}
use Rattle.std.proofs.Math.Nat.{le-mul_of_pos_right, mul_assoc, one-le-pow, pow-suc}
use Rattle.afl_base.specs.Fit.{HoldsSize, first_fit, fit, IsFit}

pub fit_more : (n p s : ℕ) → 256 * p < s + 32 → first_fit (suc n) p s ≡ first_fit n (2 * p) s
fit_more n p s h = grind (arith, nat_tests)

pub fit_here : (n p s : ℕ) → s + 32 ≤ 256 * p → first_fit n p s ≡ p
fit_here zero p s h = refl
fit_here (suc n) p s h = grind (arith, nat_tests)

moved : (p j : ℕ) → 2 * p * 2 ^ j ≡ p * 2 ^ suc j
moved p j =
    let out : 2 * p * 2 ^ j ≡ 2 * (p * 2 ^ j) = mul_assoc 2 p (2 ^ j) in
    let in_ : p * 2 ^ j * 2 ≡ p * (2 ^ j * 2) = mul_assoc p (2 ^ j) 2 in
    rw (pow-suc 2 j) (omega (arith, out, in_))

-- the pages are a doubling of those that the search begins with
doubled : (n p s : ℕ) → (j : ℕ) × (first_fit n p s ≡ p * 2 ^ j)
doubled zero p s = (0, omega arith)
doubled (suc n) p s =
    elim (nat_le (s + 32) (256 * p)) as (λ b. (j : ℕ) × ((if b then p else first_fit n (2 * p) s) ≡ p * 2 ^ j)) [
      | true ↦ (0, omega arith)
      | false ↦ let next = doubled n (2 * p) s in (suc next.0, next.1 ∙ moved p next.0)
    ]

-- the search ends with enough pages, where its last step has enough
enough : (n p s : ℕ) → s + 32 ≤ 256 * (p * 2 ^ n) → s + 32 ≤ 256 * first_fit n p s
enough zero p s h = omega (arith, h)
enough (suc n) p s h =
    let further = enough n (2 * p) s (rw (moved p n) h) in
    ⊎_elim
    (λ (short : 256 * p < s + 32). rw (fit_more n p s short) further)
    (λ (holds : s + 32 ≤ 256 * p). rw (fit_here (suc n) p s holds) holds)
    (cases_lt (256 * p) (s + 32))

-- no doubling of those that the search begins with holds the size and is smaller
smallest : (n p s j : ℕ) → s + 32 ≤ 256 * (p * 2 ^ j) → first_fit n p s ≤ p * 2 ^ j
smallest zero p s j h = le-mul_of_pos_right p (one-le-pow j 2 (omega arith))
smallest (suc n) p s zero h = rw (fit_here (suc n) p s (omega (arith, h))) (omega arith)
smallest (suc n) p s (suc j) h =
    let further = smallest n (2 * p) s j (rw (moved p j) h) in
    ⊎_elim
    (λ (short : 256 * p < s + 32). rw (fit_more n p s short, ← moved p j) further)
    (λ (holds : s + 32 ≤ 256 * p). rw (fit_here (suc n) p s holds) (le-mul_of_pos_right p (one-le-pow (suc j) 2 (omega arith))))
    (cases_lt (256 * p) (s + 32))

-- `fit` is the least number of its form that holds the size
pub is_fit : (size : ℕ) → size ≤ 8388576 → IsFit size (fit size)
unfolding fit
is_fit size room = record {
  doubled = doubled 11 16 size;
  holds = enough 11 16 size (omega arith);
  least = λ j holds. smallest 11 16 size j holds;
}

-- a doubling is one turn of the search
pub turn_short : (t p s v : ℕ) → t < 11 → 256 * p < s + 32 → first_fit (11 - t) p s ≡ v → first_fit (11 - (t + 1)) (p * 2) s ≡ v
turn_short t p s v turns short is =
    let one_less : 11 - t ≡ suc (11 - (t + 1)) = omega arith in
    let twice : 2 * p ≡ p * 2 = omega arith in
    rw (one_less, fit_more (11 - (t + 1)) p s short, twice) at is

pub turn_last : (t p s v : ℕ) → 11 ≤ t → first_fit (11 - t) p s ≡ v → p ≡ v
turn_last t p s v turns is = let none : 11 - t ≡ 0 = omega arith in rw none at is

-- 4,096 bytes more take at most twice the pages
pub fit_grows : (size more : ℕ) → size + more ≤ 8388576 → more ≤ 4096 → fit (size + more) ≤ 2 * fit size
fit_grows size more room few =
    let was = is_fit size (omega arith) in
    let next = is_fit (size + more) room in
    let j : ℕ = was.doubled.0 in
    let is : fit size ≡ 16 * 2 ^ j = was.doubled.1 in
    let some : 1 ≤ 2 ^ j = one-le-pow j 2 (omega arith) in
    let twice : 16 * 2 ^ suc j ≡ 2 * fit size = rw (pow-suc 2 j) (omega arith) in
    let enough : HoldsSize (16 * 2 ^ suc j) (size + more) = omega (arith, was.holds) in
    omega (arith, next.least (suc j) enough)

-- ---- more bytes need no fewer pages

fits_or_doubles : (t p s : ℕ) → p ≤ first_fit t p s
fits_or_doubles zero p s = omega arith
fits_or_doubles (suc t) p s = by_test (nat_le (s + 32) (256 * p)) (fits_or_doubles t (2 * p) s)
  where
    by_test : (b : Bool) {n : ℕ} → 2 * p ≤ n → p ≤ cond b p n
    by_test true h = omega arith
    by_test false h = omega (arith, h)

pub first_fit_rises : (t p a b : ℕ) → a ≤ b → first_fit t p a ≤ first_fit t p b
first_fit_rises zero p a b h = omega arith
first_fit_rises (suc t) p a b h = by_tests (nat_le (a + 32) (256 * p)) (nat_le (b + 32) (256 * p)) (λ e. le-leb (a + 32) (256 * p) (let f = leb-true (b + 32) (256 * p) e in omega (arith, f, h))) (fits_or_doubles t (2 * p) b) (first_fit_rises t (2 * p) a b h)
  where
    by_tests : (x y : Bool) {m n : ℕ} → (y ≡ true → x ≡ true) → 2 * p ≤ n → m ≤ n → cond x p m ≤ cond y p n
    by_tests true true e h k = omega arith
    by_tests true false e h k = omega (arith, h)
    by_tests false true e h k = let no : false ≡ true = e refl in cc
    by_tests false false e h k = k

pub fit_rises : (a b : ℕ) → a ≤ b → fit a ≤ fit b
unfolding fit
fit_rises a b h = first_fit_rises 11 16 a b h
