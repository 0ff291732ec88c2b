use Rattle.std.proofs.Common.{◌≡◌, None}
use Rattle.volume_tests.proofs.rows.append_short_rows.Given as goal

abbrev pub invariant-loop-turn : goal.invariant-loop-turn
invariant-loop-turn g l = (g.V.Files.state l.files).draft ≡ None
