use Rattle.std.proofs.Common.{◌-◌, drop, sym, arith}
use Rattle.coffee_volume.proofs.Windows.{given_part}
use Rattle.coffee_volume.proofs.window.Window.give.Goals as goal

pub returns-clause-part : goal.returns-clause-part
returns-clause-part c content shows =
    let own = c.self.inside in
    let count = c.min-count.result in
    given_part own.bytes c.copy_from_slice.new.self (drop count c.args.into.now) own.held (c.args.at - own.from) count own.from c.args.at content
    c.copy_from_slice.ensures.after (omega (arith, c.min-count.ensures, c.if-self-before.false)) (omega (arith, c.self.told, c.self.invariant)) (omega (arith, c.if-at-self.false))
    (rw (sym c.self.view_is) at shows)
