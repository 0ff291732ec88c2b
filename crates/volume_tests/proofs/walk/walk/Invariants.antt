use Rattle.std.proofs.Common.{◌≤◌}
use Rattle.volume_tests.specs.Counts.{HasFiles}
use Rattle.volume_tests.proofs.walk.walk.Given as goal

abbrev pub invariant-loop-turn : goal.invariant-loop-turn
invariant-loop-turn g l = (l.spaces ≤ l.turn) × HasFiles (g.V.Files.state l.files) l.used × HasFiles (g.W.Files.state l.others) l.used
