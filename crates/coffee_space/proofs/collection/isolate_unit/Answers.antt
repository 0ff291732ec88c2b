use Rattle.std.proofs.Common.{rules, ◌≡◌, ◌+◌, ◌/◌, ◌&&◌, ◌==◌, not, ap, ◌∙◌}
use Rattle.padded.proofs.Facts.{on_err}
use Rattle.coffee_space.specs.Sectors.{taken_in}
use Rattle.coffee_space.specs.Steps.{IsolatesSomePages, is_part}
use Rattle.coffee_space.proofs.BreakingOff.{and_false, and_true, some_pages}
use Rattle.coffee_space.proofs.collection.isolate_unit.Goals as goal
use Rattle.coffee_space.proofs.collection.isolate_unit.Goals.{then-cut, else-cut, then-meant, else-meant}

pub returns-in_err-isolate_page-clause-cut : goal.returns-in_err-isolate_page-clause-cut
returns-in_err-isolate_page-clause-cut g c = λ t k.
    let meant : c.if-cut.meant ≡ (c.is_cut-cut.result && is_part c.args.part (c.loop-done.done == 0)) = elim c.if-cut.branch [
      | then-cut w ↦ and_true c.is_cut-cut.result (is_part c.args.part (c.loop-done.done == 0)) c.if-cut.meant w.if-cut.true (search rules)
      | else-cut w ↦ and_false c.is_cut-cut.result (is_part c.args.part (c.loop-done.done == 0)) c.if-cut.meant w.if-cut.false (search rules)
    ] in
    let wanted : c.if-meant.isolate_page ≡ (c.if-cut.meant && not (taken_in c.args.sectors.now.used.bits c.args.sectors.now.active.bits ((c.args.page + c.loop-done.done) / 16))) = elim c.if-meant.branch [
      | then-meant w ↦ and_true c.if-cut.meant (not (taken_in c.args.sectors.now.used.bits c.args.sectors.now.active.bits ((c.args.page + c.loop-done.done) / 16))) c.if-meant.isolate_page w.if-meant.true (search rules)
      | else-meant w ↦ and_false c.if-cut.meant (not (taken_in c.args.sectors.now.used.bits c.args.sectors.now.active.bits ((c.args.page + c.loop-done.done) / 16))) c.if-meant.isolate_page w.if-meant.false (search rules)
    ] in
    let some : IsolatesSomePages (taken_in c.args.sectors.now.used.bits c.args.sectors.now.active.bits) c.args.part c.is_cut-cut.result (g.F.Flash.image c.args.flash.now) (g.F.Flash.image c.isolate_page.new.flash) c.args.page c.args.pages =
    some_pages (taken_in c.args.sectors.now.used.bits c.args.sectors.now.active.bits) c.args.part c.is_cut-cut.result c.if-meant.isolate_page (g.F.Flash.image c.args.flash.now) (g.F.Flash.image c.loop-done.flash) (g.F.Flash.image c.isolate_page.new.flash) c.args.page c.loop-done.done c.args.pages
    c.loop-done-test.true (wanted ∙ ap (λ m. m && not (taken_in c.args.sectors.now.used.bits c.args.sectors.now.active.bits ((c.args.page + c.loop-done.done) / 16))) meant) (c.loop-done.invariant.isolated t) (c.in_err-isolate_page.ensures.cut t k) (c.isolate_page.ensures.others t) in
    on_err _ (rw c.is_cut-cut.ensures at some)
