use Rattle.std.proofs.Common.{◌≡◌, ◌≤◌, take}
use Rattle.afl_base.specs.Files.{used}
use Rattle.volume_tests.proofs.calls.live_files.Given as goal

abbrev pub invariant-loop-number : goal.invariant-loop-number
invariant-loop-number g l = record {
  few : l.live ≤ l.number;
  live : l.live ≡ used (take l.number (g.V.Files.state l.files).files);
}
