use Rattle.index_set.specs.Walks.{IsSafeBy}
use Rattle.database_tests.specs.Standing.{IsStanding}
use Rattle.database_tests.proofs.candidates.count_answers.Given as goal

abbrev pub invariant-loop-turn : goal.invariant-loop-turn
invariant-loop-turn g l = record {
  stands : IsStanding (g.V.Files.state l.files) l.tables l.relation.tuples l.relation.tree;
  safe : IsSafeBy l.candidates.search (g.V.Files.state l.files);
}
