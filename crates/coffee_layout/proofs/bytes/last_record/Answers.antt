use Rattle.std.proofs.Common.{◌≡◌, ◌+◌, ◌-◌, ◌==◌, false, Some, if◌then◌else◌, arith, sym, ap, ◌∙◌}
use Rattle.coffee_layout.specs.FileBytes.{last_in, number_in}
use Rattle.coffee_layout.proofs.Sizes.{last_more}
use Rattle.coffee_layout.proofs.Tests.{eq_false}
use Rattle.coffee_layout.proofs.bytes.last_record.Goals as goal

pub loop-n-preserved : goal.loop-n-preserved
loop-n-preserved c = record {
  within = omega arith;
  same =
      let other : number_in c.args.table.now (c.loop-n.n - 1) == c.args.region + 1 ≡ false =
      eq_false (number_in c.args.table.now (c.loop-n.n - 1)) (c.args.region + 1) (λ e. c.if-from-region.false (c.from.ensures ∙ c.get_u16.ensures ∙ e)) in
      sym (last_more c.args.table.now c.args.region c.loop-n.n c.loop-n-test.true ∙ ap (λ b. if b then Some (c.loop-n.n - 1) else last_in c.args.table.now c.args.region (c.loop-n.n - 1)) other) ∙ c.loop-n.invariant.same;
}
