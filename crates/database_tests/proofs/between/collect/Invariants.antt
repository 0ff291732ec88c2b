use Rattle.std.proofs.Common.{◌≡◌, None}
use Rattle.database_tests.specs.Standing.{KeepsEachFile}
use Rattle.database_tests.proofs.between.collect.Given as goal

abbrev pub invariant-loop-turn : goal.invariant-loop-turn
invariant-loop-turn g l = record {
  idle : (g.V.Files.state l.files).draft ≡ None;
  keeps : KeepsEachFile (g.V.Files.state l.fn.files) (g.V.Files.state l.files);
}
