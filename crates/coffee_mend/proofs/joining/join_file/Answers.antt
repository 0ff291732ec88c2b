use Rattle.std.proofs.Common.{Err, ap, ◌∙◌}
use Rattle.std.proofs.lemmas.Result.{err_from_is_err_and}
use Rattle.coffee_mend.proofs.Joins.{failed_on}
use Rattle.coffee_mend.proofs.JoinSteps.{copy_cut, taken_all, taken_cut}
use Rattle.coffee_mend.proofs.joining.join_file.Goals as goal

pub returns-clause-joined : goal.returns-clause-joined
returns-clause-joined g c = λ told table i place r logged.
    taken_all (g.F.Flash.image c.args.flash.now) (g.F.Flash.image c.begin_draft.new.flash) c.args.file.now c.in_ok-page.page table i place r c.in_ok-page.ensures.frame.size (c.in_ok-page.ensures.begun told table i place r)
    (g.F.Flash.image c.copy_content.new.flash) c.in_ok-copy_content.ensures.frame.size (c.in_ok-copy_content.ensures.copied told) c.args.log logged
    (g.F.Flash.image c.take_place.new.flash) (c.in_ok-take_place.ensures.taken told)

pub returns-in_err-copy_content-clause-cut : goal.returns-in_err-copy_content-clause-cut
returns-in_err-copy_content-clause-cut g c = λ t u failed table i place r logged.
    copy_cut (g.F.Flash.image c.args.flash.now) (g.F.Flash.image c.begin_draft.new.flash) c.args.file.now c.in_ok-page.page table i place r c.in_ok-page.ensures.frame.size (c.in_ok-page.ensures.begun t table i place r)
    (g.F.Flash.image c.copy_content.new.flash) c.copy_content.ensures.frame.size (c.copy_content.ensures.head t u) (c.copy_content.ensures.other_pages t)

pub returns-in_err-take_place-clause-cut : goal.returns-in_err-take_place-clause-cut
returns-in_err-take_place-clause-cut g c = λ t u failed table i place r logged.
    taken_cut (g.F.Flash.image c.args.flash.now) (g.F.Flash.image c.begin_draft.new.flash) c.args.file.now c.in_ok-page.page table i place r c.in_ok-page.ensures.frame.size (c.in_ok-page.ensures.begun t table i place r)
    (g.F.Flash.image c.copy_content.new.flash) c.in_ok-copy_content.ensures.frame.size (c.in_ok-copy_content.ensures.copied t) c.args.log logged
    (g.F.Flash.image c.take_place.new.flash) (c.in_err-take_place.ensures.cut t u)

pub returns-in_err-page-clause-cut : goal.returns-in_err-page-clause-cut
returns-in_err-page-clause-cut g c = λ t u failed table i place r logged.
    let said = err_from_is_err_and c.from_residual.result c.from_residual.ensures.1 in
    c.begin_draft.ensures.cut t u (failed_on c.begin_draft.result c.from_residual.result c.in_err-page.field-0.0 c.in_err-page.was (said.1 ∙ ap (λ e. Err e) said.2) failed) table i place r
