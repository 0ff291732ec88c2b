use Rattle.std.proofs.Common.{◌*◌, None, Some, arith, rules, sym, ap}
use Rattle.std.specs.Option.{option_map}
use Rattle.coffee_layout.specs.Walks.{IsInside, keeps_rule, page_id}
use Rattle.coffee_layout.proofs.Leaps.{searched_behind}
use Rattle.coffee_layout.proofs.Searches.{IsRead, searched_none, searched_found, searched_end}
use Rattle.coffee_layout.proofs.extents.first_failing.Goals as goal

pub returns-in-None-clause-first : goal.returns-in-None-clause-first
returns-in-None-clause-first g c = λ t us files tiled h.
    let image = g.F.Flash.image c.args.flash.now in
    let is : IsRead image c.loop-page.page None = (rw (c.loop-page.invariant.same, c.in-None.is) at (c.in_ok-unit.ensures.unit t)) in
    absurd (searched_none (keeps_rule c.args.rule image files) image us c.loop-page.page (omega arith) (c.loop-page.invariant.searched t us files tiled h) is)

pub returns-then-not-branch-clause-first : goal.returns-then-not-branch-clause-first
returns-then-not-branch-clause-first g c = λ t us files tiled h.
    let image = g.F.Flash.image c.args.flash.now in
    let is : IsRead image c.loop-page.page (Some c.in-Some.unit) = (rw (c.loop-page.invariant.same, c.in-Some.is) at (c.in_ok-unit.ensures.unit t)) in
    let kept = (rw (c.unit_in.ensures.frame.same, c.loop-page.invariant.same) at (c.in_ok-unit_keeps.ensures.keeps t)) files h in
    sym (ap (option_map page_id) (searched_found (keeps_rule c.args.rule image files) image us c.loop-page.page c.in-Some.unit c.in_ok-unit_keeps.field-0 (omega arith) (c.loop-page.invariant.searched t us files tiled h) is kept c.if-not-branch.true))

pub loop-page-preserved : goal.loop-page-preserved
loop-page-preserved g c =
    let inside : IsInside (16 * c.sectors-pages.result) c.loop-page.page c.in-Some.unit = (rw c.in-Some.is at c.in_ok-unit.ensures.inside) in
    record {
      within = c.behind-page.ensures.within c.sectors-pages.result inside.1;
      size = c.loop-page.invariant.size;
      same = search rules;
      lent = search rules;
      reads = omega (arith, c.behind-page.ensures.onward);
      later = search rules;
      faults = search rules;
      searched = λ t us files tiled h.
          let image = g.F.Flash.image c.args.flash.now in
          let is : IsRead image c.loop-page.page (Some c.in-Some.unit) = (rw (c.loop-page.invariant.same, c.in-Some.is) at (c.in_ok-unit.ensures.unit t)) in
          let kept = (rw (c.unit_in.ensures.frame.same, c.loop-page.invariant.same) at (c.in_ok-unit_keeps.ensures.keeps t)) files h in
          rw c.behind-page.ensures.value (searched_behind (keeps_rule c.args.rule image files) image us c.sectors-pages.result c.loop-page.page c.in-Some.unit c.in_ok-unit_keeps.field-0 (omega arith) (omega arith) (c.loop-page.invariant.searched t us files tiled h) is kept c.if-not-branch.false);
    }

pub returns-clause-first : goal.returns-clause-first
returns-clause-first g c = λ t us files tiled h.
    let image = g.F.Flash.image c.args.flash.now in
    sym (ap (option_map page_id) (searched_end (keeps_rule c.args.rule image files) image us c.loop-page.page (omega arith) (c.loop-page.invariant.searched t us files tiled h)))
