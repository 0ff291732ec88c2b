use Rattle.std.proofs.Common.{arith}
use Rattle.flash_views.proofs.Overlays.{zeros_there}
use Rattle.flash_views.proofs.over.put_zeros.Goals as goal

pub returns : goal.returns
returns c = record {
  over = λ image fits s. zeros_there image c.args.into.now c.args.place s c.loop-i.into c.args.from c.args.count fits c.loop-i.invariant.size
      (λ k few. c.loop-i.invariant.zero k (omega (arith, few, c.loop-i-test.false, c.loop-i.auto.i-end))) c.loop-i.invariant.other;
}
