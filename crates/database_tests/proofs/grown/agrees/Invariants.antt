use Rattle.std.proofs.Common.{◌≡◌, None}
use Rattle.database_tests.proofs.grown.agrees.Given as goal

abbrev pub invariant-loop-key : goal.invariant-loop-key
invariant-loop-key g l = record { idle : (g.V.Files.state l.files).draft ≡ None }
