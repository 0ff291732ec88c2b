use Rattle.std.proofs.Common.{◌≡◌, ◌+◌, ◌*◌, slice_range, rules, arith, sym, ◌∙◌}
use Rattle.coffee_find.proofs.ZeroPages.{zeros_page}
use Rattle.coffee_find.proofs.NotZero.{page_not_zero}
use Rattle.coffee_find.proofs.zeros.are_zero.Goals as goal

pub loop-page-preserved : goal.loop-page-preserved
loop-page-preserved g c = record {
  order = omega arith;
  same = search rules;
  lent = search rules;
  reads = omega arith;
  later = search rules;
  faults = search rules;
  zero = λ t.
      let image = g.F.Flash.image c.args.flash.now in
      let read : c.read.new.into ≡ slice_range image (256 * c.loop-page.page + 0) (256 * c.loop-page.page + 0 + 256) = (rw c.loop-page.invariant.same at (c.in_ok-read.ensures.bytes t)) in
      zeros_page image c.read.new.into c.args.from c.loop-page.page c.loop-page.invariant.order read (sym c.is_zeros.ensures ∙ c.if-not-is_zeros.false) (c.loop-page.invariant.zero t);
}

pub returns-then-not-is_zeros-clause-zero : goal.returns-then-not-is_zeros-clause-zero
returns-then-not-is_zeros-clause-zero g c = λ t.
    let image = g.F.Flash.image c.args.flash.now in
    let read : c.read.new.into ≡ slice_range image (256 * c.loop-page.page + 0) (256 * c.loop-page.page + 0 + 256) = (rw c.loop-page.invariant.same at (c.in_ok-read.ensures.bytes t)) in
    page_not_zero image c.read.new.into c.args.from c.args.to c.loop-page.page c.loop-page.invariant.order (omega arith) c.requires.inside read (sym c.is_zeros.ensures ∙ c.if-not-is_zeros.true)
