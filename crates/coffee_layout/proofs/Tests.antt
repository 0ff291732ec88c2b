-- Tests of numbers and what they say.
use Rattle.std.proofs.Common.{◌≡◌, ℕ, ◌≤◌, ◌<◌, ◌⊎◌, Bool, true, false, ◌==◌, nat_lt, Option, Some, None, if◌then◌else◌, refl, sym, ◌∙◌, ⊎_elim, arith}
use Rattle.std.specs.Prelude.{Result, Ok, Err, IfOk}
use Rattle.std.specs.Option.{option_or}
use Rattle.std.proofs.lemmas.Bool.Decides.{nat_tests}
use Rattle.padded.proofs.Facts.{true_or_false, true_eq, eq_true}

pub true_lt : (m n : ℕ) → nat_lt m n ≡ true → m < n
true_lt m n h = grind (arith, nat_tests)

pub false_lt : (m n : ℕ) → nat_lt m n ≡ false → n ≤ m
false_lt m n h = grind (arith, nat_tests)

pub eq_false : (m n : ℕ) → (m ≡ n → ⊥) → m == n ≡ false
eq_false m n h = grind (arith, nat_tests)

pub false_eq : (m n : ℕ) → m == n ≡ false → m ≡ n → ⊥
false_eq m n h = grind (arith, nat_tests)

-- what a choice that gives nothing says
pub none_else : {A : Type 0} (t : Bool) (x : A) (o : Option A) → (if t then Some x else o) ≡ None → (t ≡ false) × (o ≡ None)
none_else true x o e = cc
none_else false x o e = (refl, e)

pub or_none : {A : Type 0} (x y : Option A) → option_or x y ≡ None → (x ≡ None) × (y ≡ None)
or_none None y e = (refl, e)
or_none (Some x) y e = cc

-- two tests that say the same
pub eq_same : (a b c d : ℕ) → (a ≡ b → c ≡ d) → (c ≡ d → a ≡ b) → (a == b) ≡ (c == d)
eq_same a b c d f g =
    ⊎_elim
    (λ (t : a == b ≡ true). t ∙ sym (eq_true c d (f (true_eq a b t))))
    (λ (t : a == b ≡ false). t ∙ sym (eq_false c d (λ e. false_eq a b t (g e))))
    (true_or_false (a == b))

-- what holds of an answer that came, and what follows from it
pub if_ok : {T E : Type 0} (r : Result T E) (P Q : T → Type 0) → IfOk r P → ((x : T) → P x → Q x) → IfOk r Q
if_ok (Ok x) P Q p f = f x p
if_ok (Err e) P Q p f = p
