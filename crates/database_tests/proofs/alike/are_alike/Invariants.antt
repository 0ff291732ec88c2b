use Rattle.std.proofs.Common.{◌≡◌, None}
use Rattle.database_tests.proofs.alike.are_alike.Given as goal

abbrev pub invariant-loop-at : goal.invariant-loop-at
invariant-loop-at g l = record {
  idle : (g.V.Files.state l.files).draft ≡ None;
  others : (g.V.Files.state l.others).draft ≡ None;
}
