-- Number fields in bytes, the lowest byte first, and a write into the middle of bytes.
use Rattle.std.specs.Prelude.{ℕ, ◌+◌, ℤ, List, ◌++◌, length, take, drop}
use Rattle.std.specs.Int.{w32, w64, cast_signed, cast_unsigned}
use Rattle.byteorder.specs.Endian.{little_bytes, little_number}

-- the bytes stand from a place on, and all others stay
unfoldable pub put_at : List ℕ → ℕ → List ℕ → List ℕ
put_at old at bytes = take at old ++ bytes ++ drop (at + length bytes) old

-- the number in the two bytes at a place
unfoldable pub u16_at : List ℕ → ℕ → ℕ
u16_at bytes at = little_number 2 (drop at bytes)

-- the signed number in the four bytes at a place
unfoldable pub i32_at : List ℕ → ℕ → ℤ
i32_at bytes at = cast_signed w32 (little_number 4 (drop at bytes))

-- the signed number in the eight bytes at a place
unfoldable pub i64_at : List ℕ → ℕ → ℤ
i64_at bytes at = cast_signed w64 (little_number 8 (drop at bytes))

-- the two bytes of a number
unfoldable pub u16_bytes : ℕ → List ℕ
u16_bytes n = little_bytes 2 n

-- the four bytes of a signed number, in two's complement
unfoldable pub i32_bytes : ℤ → List ℕ
i32_bytes z = little_bytes 4 (cast_unsigned w32 z)

-- the eight bytes of a signed number, in two's complement
unfoldable pub i64_bytes : ℤ → List ℕ
i64_bytes z = little_bytes 8 (cast_unsigned w64 z)
