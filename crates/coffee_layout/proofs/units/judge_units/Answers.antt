use Rattle.std.proofs.Common.{◌≡◌, ◌*◌, false, None, Some, length, arith, rules, ap, sym, subst}
use Rattle.coffee_layout.specs.Units.{pages_of, unit_at}
use Rattle.coffee_layout.specs.Tiling.{broken_at, nowhere}
use Rattle.coffee_layout.specs.Walks.{IsInside}
use Rattle.coffee_layout.proofs.Listing.{Judged, judged_start, judged_step, judged_bad, judged_end}
use Rattle.coffee_layout.proofs.units.judge_units.Goals as goal

pub loop-page-init : goal.loop-page-init
loop-page-init g c = record {
  within = search rules;
  size = omega arith;
  same = search rules;
  lent = search rules;
  reads = search rules;
  later = search rules;
  faults = search rules;
  placed = λ k d h. absurd (omega (arith, ap (λ es. length es) c.requires.empty));
  judged = λ t. subst (λ entries. Judged (g.F.Flash.image c.args.flash.now) 0 false entries None) (sym c.requires.empty) (judged_start (g.F.Flash.image c.args.flash.now));
}

pub returns-in-Err-clause-judged : goal.returns-in-Err-clause-judged
returns-in-Err-clause-judged g c = λ t.
    let broken : broken_at nowhere (g.F.Flash.image c.args.flash.now) c.loop-page.page c.loop-page.after_free ≡ Some c.in-Err.rule =
    (rw (c.loop-page.invariant.same, c.in-Err.is) at (c.in_ok-unit.ensures.unit t)) in
    judged_bad (g.F.Flash.image c.args.flash.now) c.loop-page.page c.loop-page.after_free c.loop-page.table.items c.loop-page.extra c.in-Err.rule (omega arith) broken (c.loop-page.invariant.judged t)

pub loop-page-preserved : goal.loop-page-preserved
loop-page-preserved g c =
    let inside : IsInside (16 * c.sectors-pages.result) c.loop-page.page c.in-Ok.unit = (rw c.in-Ok.is at c.in_ok-unit.ensures.inside) in
    record {
      within = omega arith;
      size = c.loop-page.invariant.size;
      same = search rules;
      lent = search rules;
      reads = omega arith;
      later = search rules;
      faults = search rules;
      placed = c.list_unit-extra.ensures.placed (pages_of (g.F.Flash.image c.args.flash.now)) (inside.0, omega arith) c.loop-page.invariant.placed;
      judged = λ t.
          let kept : (unit_at (g.F.Flash.image c.args.flash.now) c.loop-page.page ≡ Some c.in-Ok.unit) × (broken_at nowhere (g.F.Flash.image c.args.flash.now) c.loop-page.page c.loop-page.after_free ≡ None) =
          (rw (c.loop-page.invariant.same, c.in-Ok.is) at (c.in_ok-unit.ensures.unit t)) in
          rw (c.pages-page.ensures, c.is_free-after_free.ensures)
          (judged_step (g.F.Flash.image c.args.flash.now) c.loop-page.page c.loop-page.after_free c.loop-page.table.items c.list_unit-extra.new.table.items c.loop-page.extra c.list_unit-extra.result c.in-Ok.unit
          (omega arith) kept.0 kept.1 inside.0 c.list_unit-extra.ensures.listed (c.loop-page.invariant.judged t));
    }

pub returns-clause-judged : goal.returns-clause-judged
returns-clause-judged g c = λ t. judged_end (g.F.Flash.image c.args.flash.now) c.loop-page.page c.loop-page.after_free c.loop-page.table.items c.loop-page.extra (omega arith) (c.loop-page.invariant.judged t)
