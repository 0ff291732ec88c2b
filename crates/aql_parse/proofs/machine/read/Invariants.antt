use Rattle.std.proofs.Common.{length}
use Rattle.aql_parse.proofs.Turns.{Reading}
use Rattle.aql_parse.proofs.machine.read.Given as goal

abbrev pub invariant-loop-symbol : goal.invariant-loop-symbol
invariant-loop-symbol l = Reading l.fn.stack l.stack l.token l.fn.nodes l.nodes

abbrev pub decreases-loop-symbol : goal.decreases-loop-symbol
decreases-loop-symbol l = length l.stack
