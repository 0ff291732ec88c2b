use Rattle.std.proofs.Common.{◌≡◌, Some, None, rules, arith, sym}
use Rattle.coffee_layout.specs.Units.{unit_at}
use Rattle.coffee_find.proofs.UnitWalks.{busy_unit, quiet_end, quiet_start, quiet_step, tiled_goes, tiled_stands}
use Rattle.coffee_find.proofs.walks.is_idle.Goals as goal

pub loop-at-init : goal.loop-at-init
loop-at-init g c = record {
  within = omega arith;
  size = omega arith;
  same = search rules;
  lent = search rules;
  reads = search rules;
  later = search rules;
  faults = search rules;
  quiet = λ t. quiet_start (g.F.Flash.image c.args.flash.now) c.args.sector.0;
}

pub loop-at-preserved : goal.loop-at-preserved
loop-at-preserved g c =
    let next = c.in-Some-onward.ensures.next in
    record {
      within = next.2;
      size = c.loop-at.invariant.size;
      same = search rules;
      lent = search rules;
      reads = omega (arith, next.1);
      later = search rules;
      faults = search rules;
      quiet = λ t.
          let image = g.F.Flash.image c.args.flash.now in
          let is : unit_at image c.loop-at.at ≡ Some c.in-Some.unit = sym (rw (c.loop-at.invariant.same, c.in-Some.is) at (c.in_ok-unit.ensures.unit t)) in
          quiet_step image c.args.sector.0 c.loop-at.at c.in-Some-onward.next c.in-Some.unit (omega arith) is next.0 next.1 (c.spares.ensures.yes c.if-not-spares.false) (c.loop-at.invariant.quiet t);
    }

pub returns-clause-idle : goal.returns-clause-idle
returns-clause-idle g c = λ t e. quiet_end (g.F.Flash.image c.args.flash.now) c.args.sector.0 c.loop-at.at (omega arith) (c.loop-at.invariant.quiet t)

pub returns-in_default-clause-busy : goal.returns-in_default-clause-busy
returns-in_default-clause-busy g c = λ t no tiled idle.
    let image = g.F.Flash.image c.args.flash.now in
    let none : unit_at image c.loop-at.at ≡ None = sym (rw (c.loop-at.invariant.same, c.in_default.is) at (c.in_ok-unit.ensures.unit t)) in
    let size = c.loop-at.invariant.size in
    tiled_stands image c.loop-at.at (omega (arith, size)) none (c.loop-at.invariant.quiet t).walked tiled

pub returns-in_default-onward-clause-busy : goal.returns-in_default-onward-clause-busy
returns-in_default-onward-clause-busy g c = λ t no tiled idle.
    let image = g.F.Flash.image c.args.flash.now in
    let is : unit_at image c.loop-at.at ≡ Some c.in-Some.unit = sym (rw (c.loop-at.invariant.same, c.in-Some.is) at (c.in_ok-unit.ensures.unit t)) in
    let size = c.loop-at.invariant.size in
    let far = c.in_default-onward.ensures.none in
    tiled_goes image c.loop-at.at c.in-Some.unit (omega (arith, size)) is (λ some. let f = far some in omega (arith, f, size)) (c.loop-at.invariant.quiet t).walked tiled

pub returns-then-not-spares-clause-busy : goal.returns-then-not-spares-clause-busy
returns-then-not-spares-clause-busy g c = λ t no tiled idle.
    let image = g.F.Flash.image c.args.flash.now in
    let is : unit_at image c.loop-at.at ≡ Some c.in-Some.unit = sym (rw (c.loop-at.invariant.same, c.in-Some.is) at (c.in_ok-unit.ensures.unit t)) in
    let size = c.loop-at.invariant.size in
    let next = c.in-Some-onward.ensures.next in
    busy_unit image c.args.sector.0 c.loop-at.at c.in-Some-onward.next c.in-Some.unit (omega (arith, size)) is next.0 next.1 (c.spares.ensures.no c.if-not-spares.true) (c.loop-at.invariant.quiet t).walked idle
