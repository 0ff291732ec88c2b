use Rattle.volume_tests.specs.Counts.{HasFiles}
use Rattle.volume_tests.proofs.steps.take_all.Given as goal

abbrev pub invariant-loop-step : goal.invariant-loop-step
invariant-loop-step g l = HasFiles (g.V.Files.state l.files) l.used
