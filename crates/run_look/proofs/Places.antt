-- What is found at a place of a list.
use Rattle.std.proofs.Common.{◌≡◌, sym, ap, ℕ, true, false, List, [], ◌∷◌, length, arith, Some, None, refl, zero, suc, slice_index_or}
use Rattle.std.specs.Prelude.{nat_lt, slice_get}
use Rattle.std.proofs.lemmas.Bool.Decides.{nat_tests}
use Rattle.dump_model.proofs.Lexing.{false_true}

pub there : {A : Type 0} (xs : List A) (p : ℕ) (a : A) → true ≡ nat_lt p (length xs) → a ≡ slice_index_or xs p a → slice_get xs p ≡ Some a
there [] p a below e = absurd (false_true (none_below p (sym below)))
  where
    none_below : (n : ℕ) → nat_lt n 0 ≡ true → false ≡ true
    none_below n h = grind (arith, nat_tests)
there (x ∷ xs) zero a below e = ap (λ z. Some z) (sym e)
there (x ∷ xs) (suc p) a below e = there xs p a (grind (arith, nat_tests)) e

pub nowhere : {A : Type 0} (xs : List A) (p : ℕ) → false ≡ nat_lt p (length xs) → slice_get xs p ≡ None
nowhere [] p past = refl
nowhere (x ∷ xs) zero past = absurd (false_true (some_below (length xs) past))
  where
    some_below : (n : ℕ) → false ≡ nat_lt 0 (suc n) → false ≡ true
    some_below n h = grind (arith, nat_tests)
nowhere (x ∷ xs) (suc p) past = nowhere xs p (grind (arith, nat_tests))
