-- Copies of some bytes, one after the other.
use Rattle.std.specs.Prelude.{ℕ, zero, suc, List, [], ◌++◌}

unfoldable pub copies : ℕ → List ℕ → List ℕ
copies zero part = []
copies (suc n) part = part ++ copies n part
