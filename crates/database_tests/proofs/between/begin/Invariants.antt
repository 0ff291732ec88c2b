use Rattle.database_tests.specs.Standing.{IsStanding}
use Rattle.database_tests.proofs.between.begin.Given as goal

abbrev pub invariant-loop-row : goal.invariant-loop-row
invariant-loop-row g l = IsStanding (g.V.Files.state l.files) l.tables l.relation.tuples l.relation.tree
