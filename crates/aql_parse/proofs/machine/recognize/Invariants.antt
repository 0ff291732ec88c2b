use Rattle.std.proofs.Common.{◌-◌, length}
use Rattle.aql_parse.proofs.Streaming.{Streaming}
use Rattle.aql_parse.proofs.machine.recognize.Given as goal

abbrev pub invariant-tokens : goal.invariant-tokens
invariant-tokens l = Streaming l.bytes l.at l.head l.stack l.nodes

abbrev pub decreases-tokens : goal.decreases-tokens
decreases-tokens l = length l.bytes - l.at
