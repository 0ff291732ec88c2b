use Rattle.std.proofs.Common.{◌≡◌, Some, None, rules, arith, sym, subst}
use Rattle.coffee_layout.specs.Units.{unit_at}
use Rattle.coffee_find.specs.Search.{HasNoFile}
use Rattle.coffee_find.proofs.FilesThere.{file_there, no_file_ends, no_file_step, no_file_stops, no_file_stuck}
use Rattle.coffee_find.proofs.UnitWalks.{Walked, walked_begun, walked_start, walked_step}
use Rattle.coffee_find.proofs.twins.file_from.Goals as goal

pub loop-at-init : goal.loop-at-init
loop-at-init g c = record {
  within = omega arith;
  size = omega arith;
  same = search rules;
  lent = search rules;
  reads = search rules;
  later = search rules;
  faults = search rules;
  walked = λ t. walked_start (g.F.Flash.image c.args.flash.now);
  passed = λ t f there low less want. absurd (omega (arith, less));
}

pub returns-in-Some-wanted_file-clause-file : goal.returns-in-Some-wanted_file-clause-file
returns-in-Some-wanted_file-clause-file g c = λ t.
    let image = g.F.Flash.image c.args.flash.now in
    let is : unit_at image c.loop-at.at ≡ Some c.in-Some.unit = sym (rw (c.loop-at.invariant.same, c.in-Some.is) at (c.in_ok-unit.ensures.unit t)) in
    file_there image c.loop-at.at c.in-Some.unit c.in-Some-wanted_file.file (walked_begun image c.loop-at.at c.in-Some.unit (omega arith) is (c.loop-at.invariant.walked t)) c.in-Some-wanted_file.ensures.file

pub loop-at-preserved : goal.loop-at-preserved
loop-at-preserved g c =
    let next = c.in-Some-onward.ensures.next in
    record {
      within = next.2;
      size = c.loop-at.invariant.size;
      same = search rules;
      lent = search rules;
      reads = omega (arith, next.1);
      later = search rules;
      faults = search rules;
      walked = λ t.
          let image = g.F.Flash.image c.args.flash.now in
          let is : unit_at image c.loop-at.at ≡ Some c.in-Some.unit = sym (rw (c.loop-at.invariant.same, c.in-Some.is) at (c.in_ok-unit.ensures.unit t)) in
          subst (Walked image) (sym next.0) (walked_step image c.loop-at.at c.in-Some.unit (omega arith) is (omega (arith, next.0, next.1)) (c.loop-at.invariant.walked t));
      passed = λ t.
          let image = g.F.Flash.image c.args.flash.now in
          let is : unit_at image c.loop-at.at ≡ Some c.in-Some.unit = sym (rw (c.loop-at.invariant.same, c.in-Some.is) at (c.in_ok-unit.ensures.unit t)) in
          no_file_step image c.args.from c.loop-at.at c.in-Some-onward.next c.args.name.now c.in-Some.unit (omega arith) is next.0 c.in_default-wanted_file.ensures.none (c.loop-at.invariant.walked t) (c.loop-at.invariant.passed t);
    }

pub returns-in-Some-wanted_file-clause-first : goal.returns-in-Some-wanted_file-clause-first
returns-in-Some-wanted_file-clause-first g c = λ t.
    subst (λ p. HasNoFile (g.F.Flash.image c.args.flash.now) c.args.from p c.args.name.now) (sym c.in-Some-wanted_file.ensures.file.at) (c.loop-at.invariant.passed t)

pub returns-in_default-clause-none : goal.returns-in_default-clause-none
returns-in_default-clause-none g c = λ t.
    let image = g.F.Flash.image c.args.flash.now in
    let none : unit_at image c.loop-at.at ≡ None = sym (rw (c.loop-at.invariant.same, c.in_default.is) at (c.in_ok-unit.ensures.unit t)) in
    no_file_stops image c.args.from c.loop-at.at c.args.name.now none (c.loop-at.invariant.walked t) (c.loop-at.invariant.passed t)

pub returns-in_default-onward-clause-none : goal.returns-in_default-onward-clause-none
returns-in_default-onward-clause-none g c = λ t.
    let image = g.F.Flash.image c.args.flash.now in
    let is : unit_at image c.loop-at.at ≡ Some c.in-Some.unit = sym (rw (c.loop-at.invariant.same, c.in-Some.is) at (c.in_ok-unit.ensures.unit t)) in
    let size = c.loop-at.invariant.size in
    let far = c.in_default-onward.ensures.none in
    no_file_stuck image c.args.from c.loop-at.at c.args.name.now c.in-Some.unit (omega (arith, size)) is (λ some. let f = far some in omega (arith, f, size)) c.in_default-wanted_file.ensures.none
    (c.loop-at.invariant.walked t) (c.loop-at.invariant.passed t)

pub returns-clause-none : goal.returns-clause-none
returns-clause-none g c = λ t.
    let image = g.F.Flash.image c.args.flash.now in
    let size = c.loop-at.invariant.size in
    no_file_ends image c.args.from c.loop-at.at c.args.name.now (omega (arith, size, c.loop-at-test.false)) (c.loop-at.invariant.walked t) (c.loop-at.invariant.passed t)
