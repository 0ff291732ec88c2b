-- Tables of places, each of which holds one thing that has a name, or none.
use Rattle.std.specs.Prelude.{◌<◌, ℕ, List, get_or, Option, None, IsTrue, is_some, option_map}

-- the name that stands at a place of a table
abbrev pub name_in : {P : Type 0} → (P → List ℕ) → List (Option P) → ℕ → Option (List ℕ)
name_in name table k = option_map name (get_or table k None)

-- every place below some number is taken
abbrev pub AreTaken : {P : Type 0} → List (Option P) → ℕ → Type 0
AreTaken table n = (k : ℕ) → k < n → IsTrue (is_some (get_or table k None))
