use Rattle.std.proofs.Common.{sym}
use Rattle.catalog.specs.Rules.{is_stranger}
use Rattle.catalog.proofs.Firsts.{first_found, first_more, first_none}
use Rattle.catalog.proofs.names.first_stranger.Goals as goal

pub loop-k-init : goal.loop-k-init
loop-k-init g c = first_none (is_stranger (g.V.Files.state c.args.files.now).files)

pub returns-then-is_stranger : goal.returns-then-is_stranger
returns-then-is_stranger g c = sym (first_found (is_stranger (g.V.Files.state c.args.files.now).files) 32 c.loop-k.k c.loop-k-test.true c.loop-k.invariant (sym c.if-is_stranger.ensures))

pub loop-k-preserved : goal.loop-k-preserved
loop-k-preserved g c = first_more (is_stranger (g.V.Files.state c.args.files.now).files) c.loop-k.k c.loop-k.invariant (sym c.if-is_stranger.ensures)
