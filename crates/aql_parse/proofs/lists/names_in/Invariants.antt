use Rattle.aql_parse.specs.Built.{name_tokens}
use Rattle.std.proofs.Common.{drop}
use Rattle.aql_parse.proofs.Collecting.{Collecting}
use Rattle.aql_parse.proofs.lists.names_in.Given as goal

abbrev pub invariant-loop-token : goal.invariant-loop-token
invariant-loop-token l = Collecting l.list (name_tokens (drop l.token-index l.tokens)) (name_tokens l.tokens)
