use Rattle.std.proofs.Common.{◌≡◌}
use Rattle.volume_tests.proofs.rows.are_long_rows.Given as goal

abbrev pub invariant-loop-number : goal.invariant-loop-number
invariant-loop-number g l = g.V.Files.state l.files ≡ g.V.Files.state l.fn.files
