-- Short byte strings in arrays of a fixed width, the rest of each array zero.
use Rattle.std.specs.Prelude.{◌≡◌, ℕ, ◌-◌, ◌≤◌, List, ◌++◌, length, take, replicate}
use Rattle.std.proofs.Common.{length-take-le, subst, sym}

-- bytes, and zeros after them up to the width n
abbrev pub padded : ℕ → List ℕ → List ℕ
padded n bytes = bytes ++ replicate (n - length bytes) 0

-- an array of n bytes holds len bytes of meaning, and zeros after them
pub record IsPadded (n len : ℕ) (bytes : List ℕ) : Type 0 where
  pub short : len ≤ n
  pub long : length bytes ≡ n
  pub rest : bytes ≡ padded n (take len bytes)

-- the bytes of meaning are len many
pub length-front : (n len : ℕ) (bytes : List ℕ) → IsPadded n len bytes → length (take len bytes) ≡ len
length-front n len bytes p = length-take-le len bytes (subst (λ (m : ℕ). len ≤ m) (sym p.long) p.short)
