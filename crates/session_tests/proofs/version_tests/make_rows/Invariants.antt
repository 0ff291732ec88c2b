use Rattle.std.proofs.Common.{◌≡◌, None}
use Rattle.session_tests.proofs.version_tests.make_rows.Given as goal

abbrev pub invariant-loop-row : goal.invariant-loop-row
invariant-loop-row g l = record {
  idle : (g.V.Files.state l.files).draft ≡ None;
}
