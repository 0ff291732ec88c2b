use Rattle.std.proofs.Common.{◌≡◌, ◌<◌, ◌≤◌, ⊎_elim, Some, None, rules, arith, sym, subst}
use Rattle.std.proofs.lemmas.Bool.{cases_lt}
use Rattle.coffee_layout.specs.Tiling.{units_of}
use Rattle.coffee_layout.specs.Units.{unit_at}
use Rattle.coffee_merge.specs.Begun.{unit_begun}
use Rattle.coffee_find.proofs.UnitWalks.{Walked, walk_ends, walk_passed, walk_stops, walk_stuck, walked_begun, walked_start, walked_step}
use Rattle.coffee_find.proofs.walks.begun.Goals as goal

pub loop-at-init : goal.loop-at-init
loop-at-init g c = record {
  within = omega arith;
  size = omega arith;
  same = search rules;
  lent = search rules;
  reads = search rules;
  later = search rules;
  faults = search rules;
  walked = λ t. walked_start (g.F.Flash.image c.args.flash.now);
  passed = λ t less. absurd (omega (arith, less));
}

pub returns-then-at-page-clause-begun : goal.returns-then-at-page-clause-begun
returns-then-at-page-clause-begun g c = λ t.
    let image = g.F.Flash.image c.args.flash.now in
    let is : unit_at image c.loop-at.at ≡ Some c.in-Some.unit = sym (rw (c.loop-at.invariant.same, c.in-Some.is) at (c.in_ok-unit.ensures.unit t)) in
    subst (λ p. unit_begun (units_of image) 0 p ≡ Some c.in-Some.unit) c.if-at-page.true (walked_begun image c.loop-at.at c.in-Some.unit (omega arith) is (c.loop-at.invariant.walked t))

pub loop-at-preserved : goal.loop-at-preserved
loop-at-preserved g c =
    let next = c.in-Some-onward.ensures.next in
    record {
      within = next.2;
      size = c.loop-at.invariant.size;
      same = search rules;
      lent = search rules;
      reads = omega (arith, next.1);
      later = search rules;
      faults = search rules;
      walked = λ t.
          let image = g.F.Flash.image c.args.flash.now in
          let is : unit_at image c.loop-at.at ≡ Some c.in-Some.unit = sym (rw (c.loop-at.invariant.same, c.in-Some.is) at (c.in_ok-unit.ensures.unit t)) in
          subst (Walked image) (sym next.0) (walked_step image c.loop-at.at c.in-Some.unit (omega arith) is (omega (arith, next.0, next.1)) (c.loop-at.invariant.walked t));
      passed = λ t less.
          let image = g.F.Flash.image c.args.flash.now in
          let is : unit_at image c.loop-at.at ≡ Some c.in-Some.unit = sym (rw (c.loop-at.invariant.same, c.in-Some.is) at (c.in_ok-unit.ensures.unit t)) in
          let other = c.if-at-page.false in
          ⊎_elim
          (λ (old : c.args.page.0 < c.loop-at.at). c.loop-at.invariant.passed t old)
          (λ (new : c.loop-at.at ≤ c.args.page.0). walk_passed image c.loop-at.at _ c.args.page.0 c.in-Some.unit (omega arith) (omega (arith, new, other)) less next.0 is (c.loop-at.invariant.walked t))
          (cases_lt c.args.page.0 c.loop-at.at);
    }

pub returns-in_default-clause-none : goal.returns-in_default-clause-none
returns-in_default-clause-none g c = λ t.
    let image = g.F.Flash.image c.args.flash.now in
    let none : unit_at image c.loop-at.at ≡ None = sym (rw (c.loop-at.invariant.same, c.in_default.is) at (c.in_ok-unit.ensures.unit t)) in
    ⊎_elim
    (λ (old : c.args.page.0 < c.loop-at.at). c.loop-at.invariant.passed t old)
    (λ (new : c.loop-at.at ≤ c.args.page.0). walk_stops image c.loop-at.at c.args.page.0 new none (c.loop-at.invariant.walked t))
    (cases_lt c.args.page.0 c.loop-at.at)

pub returns-in_default-onward-clause-none : goal.returns-in_default-onward-clause-none
returns-in_default-onward-clause-none g c = λ t.
    let image = g.F.Flash.image c.args.flash.now in
    let is : unit_at image c.loop-at.at ≡ Some c.in-Some.unit = sym (rw (c.loop-at.invariant.same, c.in-Some.is) at (c.in_ok-unit.ensures.unit t)) in
    let size = c.loop-at.invariant.size in
    let other = c.if-at-page.false in
    let far = c.in_default-onward.ensures.none in
    ⊎_elim
    (λ (old : c.args.page.0 < c.loop-at.at). c.loop-at.invariant.passed t old)
    (λ (new : c.loop-at.at ≤ c.args.page.0). walk_stuck image c.loop-at.at c.args.page.0 c.in-Some.unit (omega (arith, size)) new (λ e. other e) is (λ some. let f = far some in omega (arith, f, size)) (c.loop-at.invariant.walked t))
    (cases_lt c.args.page.0 c.loop-at.at)

pub returns-clause-none : goal.returns-clause-none
returns-clause-none g c = λ t.
    let image = g.F.Flash.image c.args.flash.now in
    let size = c.loop-at.invariant.size in
    ⊎_elim
    (λ (old : c.args.page.0 < c.loop-at.at). c.loop-at.invariant.passed t old)
    (λ (new : c.loop-at.at ≤ c.args.page.0). walk_ends image c.loop-at.at c.args.page.0 (omega (arith, size, c.loop-at-test.false)) new (c.loop-at.invariant.walked t))
    (cases_lt c.args.page.0 c.loop-at.at)
