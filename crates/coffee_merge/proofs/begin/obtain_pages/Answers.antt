use Rattle.afl_base.specs.declared.ids.PageId.{PageId}
use Rattle.coffee_merge.proofs.Obtained.{found_by, left_by, obtains_by}
use Rattle.coffee_layout.specs.Tiling.{nowhere}
use Rattle.coffee_merge.proofs.TornFiles.{at_error, torn_collection}
use Rattle.coffee_merge.proofs.begin.obtain_pages.Goals as goal

pub returns-clause-run : goal.returns-clause-run
returns-clause-run g c = λ t.
    let old = g.F.Flash.image c.args.flash.now in
    let new = g.F.Flash.image c.obtain.new.flash in
    let e = c.obtain.ensures in
    found_by old new c.args.pages c.obtain.result (λ (page : PageId). page.0) e.frame.size (obtains_by old new c.args.pages c.obtain.result (e.kept t) (e.untouched t) (e.collected t)) (e.run t)

pub returns-clause-left : goal.returns-clause-left
returns-clause-left g c = λ t.
    let old = g.F.Flash.image c.args.flash.now in
    let new = g.F.Flash.image c.obtain.new.flash in
    let e = c.obtain.ensures in
    left_by old new c.args.pages c.obtain.result e.frame.size (obtains_by old new c.args.pages c.obtain.result (e.kept t) (e.untouched t) (e.collected t)) (e.cramped t) e.need

pub returns-clause-cut : goal.returns-clause-cut
returns-clause-cut g c = λ t u failed table h.
    let cut = at_error c.obtain.result _ failed (c.obtain.ensures.cut t u) in
    torn_collection (g.F.Flash.image c.args.flash.now) (g.F.Flash.image c.obtain.new.flash) table h (cut nowhere)
