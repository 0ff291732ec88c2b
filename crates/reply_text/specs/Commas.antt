-- The commas of a line.
use Rattle.std.specs.Prelude.{ℕ, zero, suc, List, [], ◌∷◌}

-- a comma, unless the place in the line is the first
abbrev pub comma_before : ℕ → List ℕ
comma_before zero = []
comma_before (suc n) = 44 ∷ []
