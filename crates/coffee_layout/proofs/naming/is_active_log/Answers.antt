use Rattle.std.proofs.Common.{◌*◌, ◌&&◌, not, None, Some, arith, rules, sym, ap}
use Rattle.coffee_layout.specs.Files.{is_log}
use Rattle.coffee_layout.specs.Walks.{IsInside, is_log_at}
use Rattle.coffee_layout.proofs.Leaps.{searched_behind}
use Rattle.coffee_layout.proofs.Searches.{IsRead, searched_none, searched_found, searched_end}
use Rattle.coffee_layout.proofs.Namings.{any_found, any_none}
use Rattle.coffee_layout.proofs.naming.is_active_log.Goals as goal

pub returns-in-None-clause-active : goal.returns-in-None-clause-active
returns-in-None-clause-active g c = λ t us tiled.
    let image = g.F.Flash.image c.args.flash.now in
    let is : IsRead image c.loop-page.page None = (rw (c.loop-page.invariant.same, c.in-None.is) at (c.in_ok-unit.ensures.unit t)) in
    absurd (searched_none (λ e. not (is_log e && is_log_at c.args.log c.args.name.now e)) image us c.loop-page.page (omega arith) (c.loop-page.invariant.searched t us tiled) is)

pub returns-then-is_unit_log_at-clause-active : goal.returns-then-is_unit_log_at-clause-active
returns-then-is_unit_log_at-clause-active g c = λ t us tiled.
    let image = g.F.Flash.image c.args.flash.now in
    let is : IsRead image c.loop-page.page (Some c.in-Some.unit) = (rw (c.loop-page.invariant.same, c.in-Some.is) at (c.in_ok-unit.ensures.unit t)) in
    sym (any_found (is_log_at c.args.log c.args.name.now) us c.loop-page.page
    (searched_found (λ e. not (is_log e && is_log_at c.args.log c.args.name.now e)) image us c.loop-page.page c.in-Some.unit (not c.is_unit_log_at.result) (omega arith) (c.loop-page.invariant.searched t us tiled) is c.is_unit_log_at.ensures (ap not c.if-is_unit_log_at.true)))

pub loop-page-preserved : goal.loop-page-preserved
loop-page-preserved g c =
    let inside : IsInside (16 * c.sectors-pages.result) c.loop-page.page c.in-Some.unit = (rw c.in-Some.is at c.in_ok-unit.ensures.inside) in
    record {
      within = c.behind-page.ensures.within c.sectors-pages.result inside.1;
      size = c.loop-page.invariant.size;
      same = search rules;
      lent = search rules;
      reads = omega (arith, c.behind-page.ensures.onward);
      later = search rules;
      faults = search rules;
      searched = λ t us tiled.
          let image = g.F.Flash.image c.args.flash.now in
          let is : IsRead image c.loop-page.page (Some c.in-Some.unit) = (rw (c.loop-page.invariant.same, c.in-Some.is) at (c.in_ok-unit.ensures.unit t)) in
          rw c.behind-page.ensures.value (searched_behind (λ e. not (is_log e && is_log_at c.args.log c.args.name.now e)) image us c.sectors-pages.result c.loop-page.page c.in-Some.unit (not c.is_unit_log_at.result) (omega arith) (omega arith) (c.loop-page.invariant.searched t us tiled) is c.is_unit_log_at.ensures (ap not c.if-is_unit_log_at.false));
    }

pub returns-clause-active : goal.returns-clause-active
returns-clause-active g c = λ t us tiled.
    let image = g.F.Flash.image c.args.flash.now in
    sym (any_none (is_log_at c.args.log c.args.name.now) us (searched_end (λ e. not (is_log e && is_log_at c.args.log c.args.name.now e)) image us c.loop-page.page (omega arith) (c.loop-page.invariant.searched t us tiled)))
