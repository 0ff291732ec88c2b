-- The names of files.
use Rattle.std.specs.Prelude.{ℕ, Bool, ◌&&◌, List, length, nat_le}
use Rattle.std.specs.List.{list_all}

-- a byte of a name: a printing byte of ASCII that is no space
abbrev pub is_name_byte : ℕ → Bool
is_name_byte b = nat_le 33 b && nat_le b 126

-- a name of a file: 1 to 15 such bytes
abbrev pub is_file_name : List ℕ → Bool
is_file_name bytes = nat_le 1 (length bytes) && nat_le (length bytes) 15 && list_all is_name_byte bytes
