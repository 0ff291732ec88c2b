use Rattle.std.proofs.Common.{◌≢◌, ◌∙◌}
use Rattle.afl_base.proofs.CutLaws.{mends_as, mends_now}
use Rattle.afl_base.proofs.FrameLaws.{keeps_prepares, prepares_same}
use Rattle.session_rows.proofs.Cuts.{failed_too, marked_later, marked_none}
use Rattle.session_rows.proofs.marking.mark_slots.Goals as goal

pub returns-in_err-prepare-clause-cut : goal.returns-in_err-prepare-clause-cut
returns-in_err-prepare-clause-cut g c = λ cuts told failed.
    let old = g.V.Files.state c.args.files.now in
    let t = c.args.tuples.now in
    mends_now old (c.in_err-prepare.ensures.cut cuts told (failed_too _ _ c.from_residual.ensures.1 failed))
    (marked_none old old t c.args.slots.now c.requires.holds told (prepares_same old (λ id. id ≢ t.file)))

pub returns-in_err-mark_rows-clause-cut : goal.returns-in_err-mark_rows-clause-cut
returns-in_err-mark_rows-clause-cut g c = λ cuts told failed.
    let old = g.V.Files.state c.args.files.now in
    let mid = g.V.Files.state c.prepare.new.self in
    let t = c.args.tuples.now in
    let made = keeps_prepares old mid t.file c.requires.holds.file.live c.in_ok-prepare.ensures.contents in
    mends_as (c.in_err-mark_rows.ensures.cut cuts (made.spares.tells ∙ told)) (λ after m. marked_later old mid after t c.args.slots.now told made m)
