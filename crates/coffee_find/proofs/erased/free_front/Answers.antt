use Rattle.std.proofs.Common.{◌≡◌, ◌+◌, ◌*◌, ◌<◌, ◌≤◌, ⊎_elim, Some, rules, arith, subst}
use Rattle.std.proofs.lemmas.Bool.{cases_lt}
use Rattle.coffee_layout.specs.Tiling.{units_of}
use Rattle.coffee_layout.specs.declared.unit.Unit.TheVariants.{Free}
use Rattle.coffee_merge.specs.Begun.{unit_begun}
use Rattle.coffee_find.proofs.erased.free_front.Goals as goal

pub loop-k-init : goal.loop-k-init
loop-k-init g c = record {
  same = search rules;
  lent = search rules;
  reads = search rules;
  later = search rules;
  faults = search rules;
  passed = λ t page low less free. absurd (omega (arith, low, less));
}

pub loop-k-preserved : goal.loop-k-preserved
loop-k-preserved g c = record {
  same = search rules;
  lent = search rules;
  reads = search rules;
  later = search rules;
  faults = search rules;
  passed = λ t page low less free.
      let image = g.F.Flash.image c.args.flash.now in
      let none = rw c.loop-k.invariant.same at (c.in_ok-is_free_at.ensures.none t) in
      ⊎_elim
      (λ (old : page < 16 * c.args.sector.0 + c.loop-k.k). c.loop-k.invariant.passed t page low old free)
      (λ (new : 16 * c.args.sector.0 + c.loop-k.k ≤ page).
      let here : page ≡ 16 * c.args.sector.0 + c.loop-k.k = omega (arith, new, less) in
      none c.if-branch.false (subst (λ p. unit_begun (units_of image) 0 p ≡ Some Free) here free))
      (cases_lt page (16 * c.args.sector.0 + c.loop-k.k));
}

pub returns-then-branch-clause-lowest : goal.returns-then-branch-clause-lowest
returns-then-branch-clause-lowest g c = λ t. c.loop-k.invariant.passed t

pub returns-clause-none : goal.returns-clause-none
returns-clause-none g c = λ t page low less free. c.loop-k.invariant.passed t page low (omega (arith, less, c.loop-k-test.false)) free
