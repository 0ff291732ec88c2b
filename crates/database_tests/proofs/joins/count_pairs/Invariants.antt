use Rattle.std.proofs.Common.{◌≡◌}
use Rattle.cursor.specs.Pairs.{MayReadPairs}
use Rattle.database_tests.specs.Standing.{IsStanding, three_indexes}
use Rattle.database_tests.proofs.joins.count_pairs.Given as goal

abbrev pub invariant-loop-turn : goal.invariant-loop-turn
invariant-loop-turn g l = record {
  stands : IsStanding (g.V.Files.state l.files) l.tables l.relation.tuples l.relation.tree;
  left : l.cursor.left ≡ l.relation.tuples;
  right : l.cursor.right ≡ l.relation.tuples;
  indexes : l.cursor.right_indexes ≡ three_indexes l.relation.tuples l.relation.tree;
  may_read : MayReadPairs (g.V.Files.state l.files) l.cursor;
}
