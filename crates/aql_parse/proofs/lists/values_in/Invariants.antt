use Rattle.aql_parse.specs.Built.{values_in}
use Rattle.std.proofs.Common.{drop, false}
use Rattle.aql_parse.proofs.Collecting.{Collecting}
use Rattle.aql_parse.proofs.lists.values_in.Given as goal

abbrev pub invariant-loop-token : goal.invariant-loop-token
invariant-loop-token l = Collecting l.list (values_in l.negative (drop l.token-index l.tokens)) (values_in false l.tokens)
