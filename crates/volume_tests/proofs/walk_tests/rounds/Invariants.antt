use Rattle.volume_tests.specs.Counts.{HasFiles}
use Rattle.volume_tests.proofs.walk_tests.rounds.Given as goal

abbrev pub invariant-loop-turn : goal.invariant-loop-turn
invariant-loop-turn g l = HasFiles (g.W.Files.state l.others) l.used
