use Rattle.std.proofs.Common.{length}
use Rattle.aql_parse.proofs.Fronts.{Listing}
use Rattle.aql_parse.proofs.GivesUp.{IsRead}
use Rattle.aql_parse.proofs.inserts.behind_values.Given as goal

abbrev pub invariant-values : goal.invariant-values
invariant-values l = Listing l.bytes l.left l.kept × IsRead l.bytes l.left l.kept

abbrev pub decreases-values : goal.decreases-values
decreases-values l = length l.left
