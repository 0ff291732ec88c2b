use Rattle.std.proofs.Common.{◌≡◌}
use Rattle.cursor.specs.Remaining.{MayRead}
use Rattle.database_tests.specs.Standing.{IsStanding}
use Rattle.database_tests.proofs.selects.count_rows.Given as goal

abbrev pub invariant-loop-turn : goal.invariant-loop-turn
invariant-loop-turn g l = record {
  stands : IsStanding (g.V.Files.state l.files) l.tables l.relation.tuples l.relation.tree;
  tuples : l.cursor.tuples ≡ l.relation.tuples;
  may_read : MayRead (g.V.Files.state l.files) l.relation.tuples l.cursor.candidates;
}
