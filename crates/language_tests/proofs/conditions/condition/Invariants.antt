use Rattle.std.proofs.Common.{◌≡◌, take}
use Rattle.language_tests.proofs.conditions.condition.Given as goal

abbrev pub invariant-loop-node : goal.invariant-loop-node
invariant-loop-node l = l.condition ≡ take l.node-index l.nodes
