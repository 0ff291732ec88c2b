use Rattle.stored_survey.proofs.Whole.{begun_cut, cut_begun, cut_half, half_cut, short_catalog}
use Rattle.stored_survey.proofs.SlotsRead.{catalog_long}
use Rattle.stored_survey.proofs.Seen.{carried, refuted}
use Rattle.stored_survey.proofs.judging.may_be_cut.Goals as goal

pub returns-then-not-has_no_stranger-clause-decides : goal.returns-then-not-has_no_stranger-clause-decides
returns-then-not-has_no_stranger-clause-decides g c = λ told. refuted c.has_no_stranger.result c.has_no_stranger.ensures c.if-not-has_no_stranger.true (λ cut. cut.known)

pub returns-in_ok-begun-in-None-clause-decides : goal.returns-in_ok-begun-in-None-clause-decides
returns-in_ok-begun-in-None-clause-decides g c = λ told.
    let files = (g.V.Files.state c.args.files.now).files in
    let known = c.has_no_stranger.ensures.0 c.if-not-has_no_stranger.false in
    let short = short_catalog files (rw c.in-None.is at c.whole_catalog.ensures.none) in
    carried c.in_ok-begun-in-None.begun (c.in_ok-begun-in-None.ensures.begun told short known) (begun_cut files known) (cut_begun files short)

pub returns-in_ok-half-in-Some-clause-decides : goal.returns-in_ok-half-in-Some-clause-decides
returns-in_ok-half-in-Some-clause-decides g c = λ told.
    let files = (g.V.Files.state c.args.files.now).files in
    let known = c.has_no_stranger.ensures.0 c.if-not-has_no_stranger.false in
    let long = catalog_long files c.in-Some.cat (rw c.in-Some.is at c.whole_catalog.ensures.found) in
    carried c.in_ok-half-in-Some.half (c.in_ok-half-in-Some.ensures.decides told) (half_cut files known) (cut_half files long)
