-- Where a number attribute stands in a file of rows, and its values.
use Rattle.std.specs.Prelude.{◌≡◌, ◌⊎◌, ℕ, ◌+◌, ◌*◌, ◌≤◌, ◌==◌, ℤ, List, drop, if◌then◌else◌}
use Rattle.std.specs.Int.{w16, cast_signed}
use Rattle.byteorder.specs.Endian.{little_number}
use Rattle.afl_base.specs.declared.key_column.KeyColumn.{KeyColumn}
use Rattle.afl_base.specs.Fields.{i32_at, i64_at}
use Rattle.afl_base.specs.Files.{IsLive, State, bytes_at, size_at}

-- the bytes that a number may have
abbrev pub IsWidth : ℕ → Type 0
IsWidth width = (width ≡ 2) ⊎ (width ≡ 4) ⊎ (width ≡ 8)

-- the place of a slot's field in the file
abbrev pub key_place : KeyColumn → ℕ → ℕ
key_place column slot = column.row * slot + column.at

-- a slot's field lies in the file, which is live
pub record HasField (state : State) (column : KeyColumn) (slot : ℕ) : Type 0 where
  pub live : IsLive state.files column.file
  pub field : key_place column slot + column.width ≤ size_at state.files column.file

-- the signed number of a width in the bytes at a place
unfoldable pub number_of_width : List ℕ → ℕ → ℕ → ℤ
number_of_width bytes at width =
    if width == 2 then cast_signed w16 (little_number 2 (drop at bytes)) else if width == 4 then i32_at bytes at else i64_at bytes at

-- the key of a slot
abbrev pub key_of : State → KeyColumn → ℕ → ℤ
key_of state column slot = number_of_width (bytes_at state.files column.file) (key_place column slot) column.width
