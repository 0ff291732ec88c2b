-- How many of some numbers lie below a number, and up to it.
use Rattle.std.specs.Prelude.{ℕ, ◌+◌, ℤ, int_le, int_lt, List, [], ◌∷◌, if◌then◌else◌}

-- how many of the numbers are at most m
abbrev pub up_to : ℤ → List ℤ → ℕ
up_to m [] = 0
up_to m (x ∷ xs) = (if int_le x m then 1 else 0) + up_to m xs

-- how many of the numbers are below m
abbrev pub below : ℤ → List ℤ → ℕ
below m [] = 0
below m (x ∷ xs) = (if int_lt x m then 1 else 0) + below m xs
