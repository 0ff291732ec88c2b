-- Number fields are read as they were written, and written as they were read.
use Rattle.std.specs.Prelude.{◌≡◌, ℕ, ◌+◌, ◌-◌, ◌^◌, ◌<◌, ◌≤◌, ℤ, List, [], ◌++◌, length, take, drop, FitsSigned, slice_range}
use Rattle.std.specs.Int.{w32, cast_signed, cast_unsigned}
use Rattle.std.proofs.Common.{arith, ap, ◌∙◌, append_assoc}
use Rattle.std.proofs.lemmas.List.{append-nil, drop-drop, drop_at, length-take-le, take_rest}
use Rattle.std.proofs.lemmas.Grind.{common_steps}
use Rattle.std.proofs.lemmas.Int.{to_z-of_z}
use Rattle.std.proofs.Math.Logic.{⊎_elim}
use Rattle.std.proofs.Math.ListN.{drop_of_length-le}
use Rattle.std.proofs.Math.Facts.{Fits-of_z}
use borrow.Rule.Slice.PartMut.{put_mid}
use Rattle.byteorder.specs.Endian.{little_bytes, little_number}
use Rattle.byteorder.specs.Numbers.{little_from-take, little_number-reads_back}
use Rattle.afl_base.specs.Fields.{put_at, u16_at, i32_at, u16_bytes, i32_bytes}

-- a write at the front of `&mut old[at..]`
pub put_at_rest : (old new written : List ℕ) (at n : ℕ) → at + n ≤ length old → length written ≡ n →
    new ≡ written ++ drop n (take (length old - at) (drop at old)) → put_mid at (length old - at) old new ≡ put_at old at written
unfolding put_at
put_at_rest old new written at n room len is =
    let rest : take (length old - at) (drop at old) ≡ drop at old = take_rest old at in
    let behind : drop (length old - at) (drop at old) ≡ [] = drop-drop (length old - at) at old ∙ drop_of_length-le old (omega arith) in
    rw (is, rest, behind, len, drop-drop n at old) (simp (append_assoc, append-nil))

-- what stands from the place of a write on
pub drop-put_at : (old written : List ℕ) (at : ℕ) → at ≤ length old → drop at (put_at old at written) ≡ written ++ drop (at + length written) old
unfolding put_at
drop-put_at old written at room =
    rw (append_assoc) (drop_at (take at old) (written ++ drop (at + length written) old) at (length-take-le at old room))

-- a write inside the bytes keeps their number
pub length-put_at : (old written : List ℕ) (at : ℕ) → at + length written ≤ length old → length (put_at old at written) ≡ length old
unfolding put_at
length-put_at old written at room = grind (arith, common_steps)

-- a number is read as it was written
pub u16_at-put_at : (old : List ℕ) (at n : ℕ) → at ≤ length old → n < 2 ^ 16 → u16_at (put_at old at (u16_bytes n)) at ≡ n
unfolding u16_at u16_bytes
u16_at-put_at old at n room fits =
    ap (little_number 2) (drop-put_at old (little_bytes 2 n) at room) ∙ little_number-reads_back 2 n (drop (at + length (little_bytes 2 n)) old) fits

pub i32_at-put_at : (old : List ℕ) (at : ℕ) (z : ℤ) → at ≤ length old → FitsSigned w32 z → i32_at (put_at old at (i32_bytes z)) at ≡ z
unfolding i32_at i32_bytes
i32_at-put_at old at z room fits =
    let bytes : List ℕ = little_bytes 4 (cast_unsigned w32 z) in
    let few = Fits-of_z {w = w32} {z = z} fits in
    ap (λ (xs : List ℕ). cast_signed w32 (little_number 4 xs)) (drop-put_at old bytes at room)
    ∙ ap (cast_signed w32) (little_number-reads_back 4 (cast_unsigned w32 z) (drop (at + length bytes) old) few.fits)
    ∙ to_z-of_z w32 z fits

-- the field of n bytes at a place
field : ℕ → List ℕ → ℕ → List ℕ
field n bytes at = take n (drop at bytes)

length-field : (n : ℕ) (bytes : List ℕ) (at : ℕ) → at + n ≤ length bytes → length (field n bytes at) ≡ n
unfolding field
length-field n bytes at room = length-take-le n (drop at bytes) (grind (arith, common_steps))

-- a field that was read alone is the field at its place
pub number_of_range : (n at : ℕ) (bytes : List ℕ) → little_number n (slice_range bytes at (at + n)) ≡ little_number n (drop at bytes)
number_of_range n at bytes =
    let many : at + n - at ≡ n = omega arith in
    rw many (little_from-take 0 n n (drop at bytes) (omega arith))
