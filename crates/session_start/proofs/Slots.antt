-- What is so of the slots below one, and of it.
use Rattle.std.proofs.Common.{◌≡◌, ℕ, ◌+◌, ◌<◌, ◌≤◌, subst, arith}
use Rattle.std.proofs.Math.Logic.{⊎_elim}
use Rattle.std.proofs.lemmas.Bool.{cases_lt}
use Rattle.stored.specs.Sound.{IsFirst}

pub each_next : (P : ℕ → Type 0) (n : ℕ) → ((k : ℕ) → k < n → P k) → P n → (k : ℕ) → k < n + 1 → P k
each_next P n all one k below =
    ⊎_elim
    (λ (less : k < n). all k less)
    (λ (more : n ≤ k). let same : n ≡ k = omega (arith, below, more) in subst P same one)
    (cases_lt k n)

-- the first at which what is so of all before it fails
pub first_at : (P : ℕ → Type 0) (n : ℕ) → n < 8 → ((k : ℕ) → k < n → P k) → (P n → ⊥) → IsFirst P n
first_at P n below all fails = record { within = below; before = all; broken = fails }

pub first_as : (P Q : ℕ → Type 0) (n : ℕ) → ((k : ℕ) → k < 8 → P k → Q k) → ((k : ℕ) → k < 8 → Q k → P k) → IsFirst P n → IsFirst Q n
first_as P Q n to from f = let below = f.within in record { within = below; before = λ k less. to k (omega (arith, less, below)) (f.before k less); broken = λ q. f.broken (from n below q) }
