-- Numbers that were read alone are those at their places.
use Rattle.std.specs.Prelude.{◌≡◌, ℕ, ◌+◌, ◌*◌, ◌^◌, ◌<◌, ◌≤◌, List, slice_range}
use Rattle.std.specs.Int.{w16, w32, w64, cast_signed}
use Rattle.std.proofs.Common.{arith, ap}
use Rattle.std.proofs.Math.Nat.{mul-le-mul_right}
use Rattle.afl_base.specs.Fields.{i32_at, i64_at, u16_at}
use Rattle.afl_base.specs.KeyColumn.{number_of_width}
use Rattle.afl_base.proofs.FieldLaws.{number_of_range}

pub two_bytes : (bytes read : List ℕ) (at : ℕ) → read ≡ slice_range bytes at (at + 2) → cast_signed w16 (u16_at read 0) ≡ number_of_width bytes at 2
unfolding u16_at number_of_width
two_bytes bytes read at is = rw is (ap (cast_signed w16) (number_of_range 2 at bytes))

pub four_bytes : (bytes read : List ℕ) (at : ℕ) → read ≡ slice_range bytes at (at + 4) → i32_at read 0 ≡ number_of_width bytes at 4
unfolding i32_at number_of_width
four_bytes bytes read at is = rw is (ap (cast_signed w32) (number_of_range 4 at bytes))

pub eight_bytes : (bytes read : List ℕ) (at : ℕ) → read ≡ slice_range bytes at (at + 8) → i64_at read 0 ≡ number_of_width bytes at 8
unfolding i64_at number_of_width
eight_bytes bytes read at is = rw is (ap (cast_signed w64) (number_of_range 8 at bytes))

-- a field's place fits 32 bits
pub place_small : (row slot at : ℕ) → row < 256 → slot < 32768 → at < 256 → row * slot + at < 2 ^ 32
place_small row slot at few below short =
    let a : row * slot ≤ 255 * slot = mul-le-mul_right slot (omega arith) in
    omega arith
