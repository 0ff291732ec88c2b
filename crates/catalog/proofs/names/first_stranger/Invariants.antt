use Rattle.std.proofs.Common.{◌≡◌, None}
use Rattle.catalog.specs.Rules.{first, is_stranger}
use Rattle.catalog.proofs.names.first_stranger.Given as goal

abbrev pub invariant-loop-k : goal.invariant-loop-k
invariant-loop-k g l = first l.k (is_stranger (g.V.Files.state l.files).files) ≡ None
