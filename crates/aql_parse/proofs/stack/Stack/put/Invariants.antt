use Rattle.std.proofs.Common.{◌≡◌, ℕ, ◌≤◌, List, ◌++◌, length, drop}
use Rattle.aql_parse.specs.declared.symbols.Symbol.{Symbol}
use Rattle.aql_parse.proofs.stack.Stack.put.Given as goal

-- the symbols from a place on are put
pub record Putting (left : ℕ) (symbols old new : List Symbol) : Type 0 where
  pub within : left ≤ length symbols
  pub put : new ≡ drop left symbols ++ old

abbrev pub invariant-loop-left : goal.invariant-loop-left
invariant-loop-left l = Putting l.left l.symbols l.fn.self l.self

abbrev pub decreases-loop-left : goal.decreases-loop-left
decreases-loop-left l = l.left
