use Rattle.std.proofs.Common.{rules, ℕ, ◌*◌, Bool, List, None, Some, arith}
use Rattle.padded.proofs.Facts.{on_err}
use Rattle.coffee_layout.specs.Tiling.{IsTiled}
use Rattle.coffee_layout.specs.declared.unit.Unit.{Unit}
use Rattle.coffee_space.specs.Steps.{IsolatesSome}
use Rattle.coffee_layout.specs.Walks.{IsInside}
use Rattle.coffee_layout.proofs.Searches.{IsRead}
use Rattle.coffee_space.specs.Sectors.{taken_in}
use Rattle.coffee_space.proofs.Isolating.{isolating_end, isolating_none}
use Rattle.coffee_space.proofs.BreakingOff.{isolating_some}
use Rattle.coffee_space.proofs.Spans.{isolating_behind}
use Rattle.coffee_space.proofs.collection.isolate.Goals as goal

pub returns-in-None-clause-isolated : goal.returns-in-None-clause-isolated
returns-in-None-clause-isolated g c = λ t building us tiled.
    let is : IsRead (g.F.Flash.image c.loop-page.flash) c.loop-page.page None = (rw c.in-None.is at (c.in_ok-unit.ensures.unit t)) in
    absurd (isolating_none (taken_in c.args.sectors.now.used.bits c.args.sectors.now.active.bits) building c.args.part (g.F.Flash.image c.args.flash.now) (g.F.Flash.image c.loop-page.flash) us c.loop-page.page
    c.loop-page.invariant.size (omega arith) (c.loop-page.invariant.isolating t building us tiled) is)

pub loop-page-preserved : goal.loop-page-preserved
loop-page-preserved g c =
    let inside : IsInside (16 * c.sectors-all.result) c.loop-page.page c.in-Some.unit = (rw c.in-Some.is at c.in_ok-unit.ensures.inside) in
    record {
      within = c.behind-page.ensures.within c.sectors-all.result inside.1;
      total = c.loop-page.invariant.total;
      size = search rules;
      lent = search rules;
      reads = omega (arith, c.behind-page.ensures.onward);
      later = search rules;
      faults = search rules;
      isolating = λ t building us tiled.
          let old = g.F.Flash.image c.args.flash.now in
          let now = g.F.Flash.image c.loop-page.flash in
          let new = g.F.Flash.image c.isolate_unit.new.flash in
          let is : IsRead (g.F.Flash.image c.loop-page.flash) c.loop-page.page (Some c.in-Some.unit) = (rw c.in-Some.is at (c.in_ok-unit.ensures.unit t)) in
          let before = c.loop-page.invariant.isolating t building us tiled in
          rw c.behind-page.ensures.value (isolating_behind (taken_in c.args.sectors.now.used.bits c.args.sectors.now.active.bits) building c.args.part old now new us c.sectors-all.result c.loop-page.page c.in-Some.unit (omega arith) c.loop-page.invariant.size (omega arith) is before
          (rw (c.unit_in.ensures.frame.same, c.pages.ensures) at (c.in_ok-isolate_unit.ensures.isolated t)));
    }

pub returns-clause-isolated : goal.returns-clause-isolated
returns-clause-isolated g c = λ t building us tiled.
    isolating_end (taken_in c.args.sectors.now.used.bits c.args.sectors.now.active.bits) building c.args.part (g.F.Flash.image c.args.flash.now) (g.F.Flash.image c.loop-page.flash) us c.loop-page.page (omega arith) (c.loop-page.invariant.isolating t building us tiled)

pub returns-in_err-isolate_unit-clause-cut : goal.returns-in_err-isolate_unit-clause-cut
returns-in_err-isolate_unit-clause-cut g c = λ t k.
    let some : (building : ℕ → Bool) (us : List Unit) → IsTiled building (g.F.Flash.image c.args.flash.now) us
    → IsolatesSome (taken_in c.args.sectors.now.used.bits c.args.sectors.now.active.bits) c.args.part (g.F.Flash.image c.args.flash.now) (g.F.Flash.image c.isolate_unit.new.flash) us = λ building us tiled.
    let is : IsRead (g.F.Flash.image c.loop-page.flash) c.loop-page.page (Some c.in-Some.unit) = (rw c.in-Some.is at (c.in_ok-unit.ensures.unit t)) in
    isolating_some (taken_in c.args.sectors.now.used.bits c.args.sectors.now.active.bits) building c.args.part (g.F.Flash.image c.args.flash.now) (g.F.Flash.image c.loop-page.flash) (g.F.Flash.image c.isolate_unit.new.flash) us c.loop-page.page c.in-Some.unit
    c.loop-page.invariant.size (omega arith) (c.loop-page.invariant.isolating t building us tiled) is (rw (c.unit_in.ensures.frame.same, c.pages.ensures) at (c.in_err-isolate_unit.ensures.cut t k)) in
    on_err _ some
