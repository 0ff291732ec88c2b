use Rattle.volume_tests.specs.Counts.{HasFiles}
use Rattle.volume_tests.proofs.runs.make_and_erase.Given as goal

abbrev pub invariant-loop-turn : goal.invariant-loop-turn
invariant-loop-turn g l = HasFiles (g.V.Files.state l.files) l.used
