use Rattle.std.proofs.Common.{◌≡◌, None}
use Rattle.database_tests.proofs.catalogs.put_eight.Given as goal

abbrev pub invariant-loop-k : goal.invariant-loop-k
invariant-loop-k g l = record { idle : (g.V.Files.state l.files).draft ≡ None }
