use Rattle.std.proofs.Common.{arith}
use Rattle.coffee_volume.specs.Windows.{content_of}
use Rattle.coffee_volume.proofs.window.Window.read_rest.Goals as goal

pub returns-clause-bytes : goal.returns-clause-bytes
returns-clause-bytes g c told k low =
    let held = c.in_ok-fill.ensures.held in
    let all = c.give.ensures.all (omega (arith, held.0)) (omega (arith, held.0, held.1, c.if-count-into.false)) in
    c.give.ensures.part (content_of (g.F.Flash.image c.args.flash.now) c.args.file.now) (c.fill.ensures.shows told) k (omega (arith, all, low))
