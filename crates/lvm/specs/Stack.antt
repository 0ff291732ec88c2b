-- The items of a stack, the top first.
use Rattle.std.specs.Prelude.{List, [], ◌∷◌}

-- the item on the top, d where there is none
abbrev pub top_or : {A : Type 0} → A → List A → A
top_or d [] = d
top_or d (x ∷ s) = x

-- the items below the top
abbrev pub rest : {A : Type 0} → List A → List A
rest [] = []
rest (x ∷ s) = s
