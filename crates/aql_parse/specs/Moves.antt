-- What a function that moves the machine answers and leaves.
use Rattle.std.specs.Prelude.{◌≡◌, ℕ, ◌+◌, ◌*◌, Bool, true, false, List, [], ◌∷◌, ◌++◌, Option, Some, None}
use Rattle.db_model.specs.declared.commands.Node.{Node}
use Rattle.aql_parse.specs.Kept.{kept}
use Rattle.aql_parse.specs.Machine.{Move}
use Rattle.aql_parse.specs.declared.nodes.Nodes.{Nodes}
use Rattle.aql_parse.specs.declared.symbols.Symbol.{Symbol}
use Rattle.aql_parse.specs.declared.symbols.Symbol.TheVariants as want

-- true and moved, or false and as before
abbrev pub Moved : Option Move → List Symbol → List Symbol → Bool → Type 0
Moved None old new moved = (moved ≡ false) × (new ≡ old)
Moved (Some m) old new moved = (moved ≡ true) × (new ≡ m.symbols ++ old)

-- the nodes of a move are kept
abbrev pub IsKeptByMove : Option Move → Nodes → Nodes → Type 0
IsKeptByMove None old new = new ≡ old
IsKeptByMove (Some m) old new = new ≡ kept old m.nodes

-- true and left out, its nodes kept, or false and as before
abbrev pub Skipped : Option (List Node) → Nodes → Nodes → Bool → Type 0
Skipped None old new skipped = (skipped ≡ false) × (new ≡ old)
Skipped (Some nodes) old new skipped = (skipped ≡ true) × (new ≡ kept old nodes)

-- true and the token read, or false
abbrev pub HasRead : Option Move → List Symbol → Nodes → Nodes → Bool → Type 0
HasRead None stack old new done = done ≡ false
HasRead (Some m) stack old new done = (done ≡ true) × (stack ≡ m.symbols) × (new ≡ kept old m.nodes)

-- true and at the end, or false
abbrev pub HasEnded : Option (List Node) → Nodes → Nodes → Bool → Type 0
HasEnded None old new done = done ≡ false
HasEnded (Some nodes) old new done = (done ≡ true) × (new ≡ kept old nodes)

-- four for each bracket that a symbol is inside of, and more: a bound on the symbols that may come of it
abbrev pub bulk : Symbol → ℕ
bulk want.Command = 8
bulk want.Query = 8
bulk want.Selection = 3
bulk (want.Inside n) = 4 * n + 1
bulk (want.Behind n) = 4 * n + 1
bulk (want.Around n) = 4 * n + 1
bulk _ = 1

abbrev pub bulk_all : List Symbol → ℕ
bulk_all [] = 0
bulk_all (s ∷ γ) = bulk s + bulk_all γ
