-- Marks of numbers, and the rows of a block that may have one.
use Rattle.std.specs.Prelude.{ℕ, ℤ, ◌-◌, ◌*◌, ◌/◌, ◌%◌, ◌<◌, ◌≤◌, ◌==◌, get_or, if◌then◌else◌}
use Rattle.std.specs.Int.{cast_unsigned, w64}
use Rattle.cursor.specs.declared.marks.Marks.{Marks}

-- the mark of a number, below 512: the upper nine bits of a product of it, all in 64 bits without a sign
unfoldable pub mark_of : ℤ → ℕ
mark_of number = cast_unsigned w64 number * 11400714819323198485 % 18446744073709551616 / 36028797018963968

-- what is kept of a mark stands for rows: 0 for none, 255 for all, and each other for the one before it
abbrev pub first_row : ℕ → ℕ
first_row kept = if kept == 255 then 0 else kept - 1

abbrev pub end_row : ℕ → ℕ
end_row kept = if kept == 255 then 256 else kept

-- a row is one of those of the mark of a number
pub record MayHave (marks : Marks) (row : ℕ) (number : ℤ) : Type 0 where
  pub first : first_row (get_or marks.rows (mark_of number) 0) ≤ row
  pub last : row < end_row (get_or marks.rows (mark_of number) 0)
