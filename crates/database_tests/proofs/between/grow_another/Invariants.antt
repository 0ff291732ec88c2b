use Rattle.std.proofs.Common.{◌≡◌, ◌*◌, None}
use Rattle.afl_base.specs.declared.kind.Kind.TheVariants.{Doubling}
use Rattle.afl_base.specs.Files.{IsLive, file_at, place, size_at}
use Rattle.database_tests.specs.Standing.{KeepsEachFile}
use Rattle.database_tests.proofs.between.grow_another.Given as goal

abbrev pub invariant-loop-turn : goal.invariant-loop-turn
invariant-loop-turn g l = record {
  live : IsLive (g.V.Files.state l.files).files l.id;
  kind : (file_at (g.V.Files.state l.files).files l.id).kind ≡ Doubling;
  size : size_at (g.V.Files.state l.files).files l.id ≡ 1000 * l.turn;
  idle : (g.V.Files.state l.files).draft ≡ None;
  none : place (g.V.Files.state l.fn.files).files l.id ≡ None;
  keeps : KeepsEachFile (g.V.Files.state l.fn.files) (g.V.Files.state l.files);
}
