use Rattle.std.proofs.Common.{◌≡◌}
use Rattle.volume_tests.proofs.walk.are_same.Given as goal

abbrev pub invariant-loop-number : goal.invariant-loop-number
invariant-loop-number g l = (g.V.Files.state l.files ≡ g.V.Files.state l.fn.files) × (g.W.Files.state l.others ≡ g.W.Files.state l.fn.others)
