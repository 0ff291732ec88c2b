-- Numbers in decimal.
use Rattle.std.proofs.Common.{◌≡◌, ℕ, ◌+◌, ◌-◌, ◌*◌, ◌<◌, ◌≤◌, List, [], ◌∷◌, None, arith}
use Rattle.std.proofs.lemmas.Bool.Decides.{nat_tests}
use Rattle.run_words.specs.Words.{at_most, value_from}

-- further digits make a number no less
value_rises : (n : ℕ) (bs : List ℕ) → n ≤ value_from n bs
value_rises n [] = omega arith
value_rises n (b ∷ bs) = let more = value_rises (10 * n + (b - 48)) bs in omega (arith, more)

none_above : (most n : ℕ) → most < n → at_most most n ≡ None
none_above most n less = grind (arith, nat_tests)

pub too_large : (most n b : ℕ) (bs word : List ℕ) → value_from n (b ∷ bs) ≡ value_from 0 word → most < 10 * n + (b - 48) → at_most most (value_from 0 word) ≡ None
too_large most n b bs word is less = none_above most (value_from 0 word) (let more = value_rises (10 * n + (b - 48)) bs in omega (arith, more, is, less))
