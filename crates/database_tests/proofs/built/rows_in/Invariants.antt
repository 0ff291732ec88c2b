use Rattle.std.proofs.Common.{◌≡◌, None}
use Rattle.database_tests.proofs.built.rows_in.Given as goal

abbrev pub invariant-loop-turn : goal.invariant-loop-turn
invariant-loop-turn g l = record { idle : (g.V.Files.state l.files).draft ≡ None }
