-- What contracts see of bytes that wait.
use Rattle.std.specs.Prelude.{ℕ, List}

-- the bytes, and how many more there is room for after them
pub record Kept : Type 0 where
  pub bytes : List ℕ
  pub room : ℕ
