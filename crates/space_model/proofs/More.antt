-- More pages need no fewer sectors.
use Rattle.std.proofs.Common.{ℕ, ◌+◌, ◌-◌, ◌*◌, ◌/◌, ◌≤◌, List, length, arith}
use Rattle.std.proofs.Math.Nat.{mul-le-mul_left}
use Rattle.space_model.specs.Enough.{enough_for}

pub more_pages : (sizes : List ℕ) (m n : ℕ) → m ≤ n → enough_for sizes m ≤ enough_for sizes n
more_pages sizes m n more =
    let gaps : (2 * (1 + length sizes) + 1) * ((m + 15) / 16 - 1) ≤ (2 * (1 + length sizes) + 1) * ((n + 15) / 16 - 1) = mul-le-mul_left (2 * (1 + length sizes) + 1) (omega (arith, more)) in
    omega (arith, gaps)
