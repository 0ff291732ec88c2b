use Rattle.std.proofs.Common.{◌≡◌}
use Rattle.volume_tests.proofs.walk.is_same.Given as goal

abbrev pub invariant-loop-piece : goal.invariant-loop-piece
invariant-loop-piece g l = (g.V.Files.state l.files ≡ g.V.Files.state l.fn.files) × (g.W.Files.state l.others ≡ g.W.Files.state l.fn.others)
