use Rattle.std.proofs.Common.{◌≡◌, None}
use Rattle.database_tests.proofs.grown.grows.Given as goal

abbrev pub invariant-loop-slot : goal.invariant-loop-slot
invariant-loop-slot g l = record { idle : (g.V.Files.state l.files).draft ≡ None }
