use Rattle.aql_parse.specs.Built.{aggregates_in}
use Rattle.std.proofs.Common.{drop}
use Rattle.aql_parse.proofs.Collecting.{Collecting}
use Rattle.aql_parse.proofs.lists.aggregates_in.Given as goal

abbrev pub invariant-loop-i : goal.invariant-loop-i
invariant-loop-i l = Collecting l.list (aggregates_in (drop l.i l.tokens)) (aggregates_in l.tokens)
