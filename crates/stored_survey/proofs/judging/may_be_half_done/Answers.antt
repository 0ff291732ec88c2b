use Rattle.stored_survey.proofs.HalfShown.{shown_is_done}
use Rattle.stored_survey.proofs.Seen.{carried, refused}
use Rattle.stored_survey.proofs.judging.may_be_half_done.Goals as goal

pub returns-in-None-clause-decides : goal.returns-in-None-clause-decides
returns-in-None-clause-decides g c = λ told. refused (λ some. (rw c.in-None.is at c.in_ok-read.ensures.none) told some.0 some.1)

pub returns-in_ok-done-in-Some-clause-decides : goal.returns-in_ok-done-in-Some-clause-decides
returns-in_ok-done-in-Some-clause-decides g c = λ told.
    let files = (g.V.Files.state c.args.files.now).files in
    let read = (rw c.in-Some.is at c.in_ok-read.ensures.read) told in
    let shown = (rw c.in_ok-read.ensures.frame.same at c.in_ok-half-in-Some.ensures.shows) told read in
    let done = (rw (c.in_ok-half-in-Some.ensures.frame.same, c.in_ok-read.ensures.frame.same) at c.in_ok-done-in-Some.ensures.done) told read shown in
    carried c.in_ok-done-in-Some.done done
    (λ is. (c.in_ok-half-in-Some.half, is))
    (λ some. shown_is_done files some.0 c.in_ok-half-in-Some.half some.1 shown)
