use Rattle.std.proofs.Common.{◌<◌, ◌≤◌, ◌*◌, None, Some, arith, rules}
use Rattle.coffee_layout.specs.Units.{pages_of}
use Rattle.coffee_layout.specs.Walks.{IsInside}
use Rattle.coffee_layout.proofs.Searches.{IsRead}
use Rattle.run_look.proofs.Counts.{counted_all, counted_next, counted_none}
use Rattle.run_look.proofs.counting.count_pages.Goals as goal

pub returns-in-None-clause-counts : goal.returns-in-None-clause-counts
returns-in-None-clause-counts g c = λ told building us tiled.
    let image = g.F.Flash.image c.args.flash.now in
    let inv = c.loop-page.invariant in
    let size = inv.size in
    let before : c.loop-page.page < pages_of image = omega (arith, size, c.loop-page-test.true) in
    let is : IsRead image c.loop-page.page None = (rw (inv.same, c.in-None.is) at (c.in_ok-unit.ensures.unit told)) in
    absurd (counted_none building image us c.loop-page.page c.loop-page.counts before (inv.walked told building us tiled) is)

pub loop-page-preserved : goal.loop-page-preserved
loop-page-preserved g c =
    let inv = c.loop-page.invariant in
    let inside : IsInside (16 * c.sectors-all.result) c.loop-page.page c.in-Some.unit = (rw c.in-Some.is at c.in_ok-unit.ensures.inside) in
    let some = inside.0 in
    let pages = c.pages-page.ensures in
    let more = c.with_unit-counts.ensures in
    record {
      within = omega (arith, inside.1, pages);
      size = inv.size;
      same = search rules;
      lent = search rules;
      reads = omega (arith, some, pages, inv.reads, c.in_ok-unit.ensures.reads);
      later = search rules;
      faults = search rules;
      all_counted = omega (arith, more.all, inv.all_counted, pages);
      walked = λ told building us tiled.
          let image = g.F.Flash.image c.args.flash.now in
          let size = inv.size in
          let before : c.loop-page.page < pages_of image = omega (arith, size, c.loop-page-test.true) in
          let is : IsRead image c.loop-page.page (Some c.in-Some.unit) = (rw (inv.same, c.in-Some.is) at (c.in_ok-unit.ensures.unit told)) in
          rw pages (counted_next building image us c.loop-page.page c.loop-page.counts c.with_unit-counts.result c.in-Some.unit before (inv.walked told building us tiled) is more);
    }

pub returns-clause-counts : goal.returns-clause-counts
returns-clause-counts g c = λ told building us tiled.
    let image = g.F.Flash.image c.args.flash.now in
    let inv = c.loop-page.invariant in
    let size = inv.size in
    let behind : pages_of image ≤ c.loop-page.page = omega (arith, size, c.loop-page-test.false) in
    counted_all building image us c.loop-page.page c.loop-page.counts behind (inv.walked told building us tiled)
