use Rattle.volume_tests.specs.Counts.{HasFiles}
use Rattle.volume_tests.proofs.plain_tests.make_letters.Given as goal

abbrev pub invariant-loop-number : goal.invariant-loop-number
invariant-loop-number g l = HasFiles (g.V.Files.state l.files) l.used
