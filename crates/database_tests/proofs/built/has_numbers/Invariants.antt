use Rattle.std.proofs.Common.{◌≡◌, None}
use Rattle.database_tests.proofs.built.has_numbers.Given as goal

abbrev pub invariant-loop-place : goal.invariant-loop-place
invariant-loop-place g l = record { idle : (g.V.Files.state l.files).draft ≡ None }
