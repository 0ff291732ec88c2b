use Rattle.database_tests.specs.Standing.{IsStanding}
use Rattle.database_tests.proofs.candidates.ask_all.Given as goal

abbrev pub invariant-loop-turn : goal.invariant-loop-turn
invariant-loop-turn g l = IsStanding (g.V.Files.state l.files) l.tables l.relation.tuples l.relation.tree
