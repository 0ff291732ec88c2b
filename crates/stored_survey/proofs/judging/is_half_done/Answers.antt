use Rattle.stored_survey.proofs.HalfParts.{half_by_parts, half_kept, half_sound}
use Rattle.stored_survey.proofs.Seen.{carried, not_ok, refuted}
use Rattle.stored_survey.proofs.SlotsRead.{catalog_long}
use Rattle.stored_survey.proofs.judging.is_half_done.Goals as goal

pub returns-then-not-ends-clause-done : goal.returns-then-not-ends-clause-done
returns-then-not-ends-clause-done g c = λ told read shown. refuted c.in_ok-ends.ends (c.in_ok-ends.ensures.mark told read) c.if-not-ends.true (λ h. h.mark)

pub returns-then-not-relations-clause-done : goal.returns-then-not-relations-clause-done
returns-then-not-relations-clause-done g c = λ told read shown.
    refuted c.in_ok-relations.relations ((rw c.in_ok-ends.ensures.frame.same at c.in_ok-relations.ensures.sound) told read) c.if-not-relations.true
    (half_sound (g.V.Files.state c.args.files.now).files c.args.half.now)

pub returns-clause-done : goal.returns-clause-done
returns-clause-done g c = λ told read shown.
    let files = (g.V.Files.state c.args.files.now).files in
    let half = c.args.half.now in
    let mark = (c.in_ok-ends.ensures.mark told read).0 c.if-not-ends.false in
    let sound = ((rw c.in_ok-ends.ensures.frame.same at c.in_ok-relations.ensures.sound) told read).0 c.if-not-relations.false in
    let kept = (rw (c.in_ok-relations.ensures.frame.same, c.in_ok-ends.ensures.frame.same) at c.in_ok-indexes.ensures.sound) told read sound in
    carried c.in_ok-indexes.indexes kept
    (λ all. half_by_parts files half (catalog_long files c.args.cat c.requires.whole) shown mark sound all read.behind)
    (half_kept files half)

pub returns-in_err-ends-clause-done : goal.returns-in_err-ends-clause-done
returns-in_err-ends-clause-done g c = λ told read shown. not_ok _ _ c.from_residual.result c.from_residual.ensures.1

pub returns-in_err-relations-clause-done : goal.returns-in_err-relations-clause-done
returns-in_err-relations-clause-done g c = λ told read shown. not_ok _ _ c.from_residual-in_err-relations.result c.from_residual-in_err-relations.ensures.1

pub returns-in_err-indexes-clause-done : goal.returns-in_err-indexes-clause-done
returns-in_err-indexes-clause-done g c = λ told read shown. not_ok _ _ c.from_residual-in_err-indexes.result c.from_residual-in_err-indexes.ensures.1
