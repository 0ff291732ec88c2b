use Rattle.std.proofs.Common.{◌≡◌, None}
use Rattle.afl_base.specs.Files.{used}
use Rattle.volume_tests.proofs.runs.append_rows.Given as goal

abbrev pub invariant-loop-turn : goal.invariant-loop-turn
invariant-loop-turn g l = ((g.V.Files.state l.files).draft ≡ None) × (used (g.V.Files.state l.files).files ≡ used (g.V.Files.state l.fn.files).files)
