use Rattle.aql_parse.specs.Built.{relation_in}
use Rattle.std.proofs.Common.{◌≡◌, drop}
use Rattle.aql_parse.proofs.lists.relation_in.Given as goal

abbrev pub invariant-loop-i : goal.invariant-loop-i
invariant-loop-i l = relation_in l.tokens ≡ relation_in (drop l.i l.tokens)
