use Rattle.std.proofs.Common.{◌+◌, ◌≤◌}
use Rattle.afl_base.specs.Files.{IsLive, KeepsBytes, file_at, size_at}
use Rattle.database_tests.proofs.between.overwrite_some.Given as goal

abbrev pub invariant-loop-turn : goal.invariant-loop-turn
invariant-loop-turn g l = record {
  same : KeepsBytes (g.V.Files.state l.fn.files) (g.V.Files.state l.files) l.id;
  live : IsLive (g.V.Files.state l.files).files l.id;
  size : 480 ≤ size_at (g.V.Files.state l.files).files l.id;
  records : 16 ≤ (file_at (g.V.Files.state l.files).files l.id).records + l.turn;
}
