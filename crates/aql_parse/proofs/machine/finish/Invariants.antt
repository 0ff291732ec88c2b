use Rattle.std.proofs.Common.{length}
use Rattle.aql_parse.proofs.Turns.{Ending}
use Rattle.aql_parse.proofs.machine.finish.Given as goal

abbrev pub invariant-loop-symbol : goal.invariant-loop-symbol
invariant-loop-symbol l = Ending l.fn.stack l.stack l.fn.nodes l.nodes

abbrev pub decreases-loop-symbol : goal.decreases-loop-symbol
decreases-loop-symbol l = length l.stack
