use Rattle.std.proofs.Common.{arith, IsTrue, subst}
use Rattle.padded.proofs.Facts.{false_true}
use Rattle.afl_base.specs.Files.{State}
use Rattle.stored_survey.specs.Asked.{IsReadAs}
use Rattle.stored_survey.specs.Shown.{ShowsIndexes}
use Rattle.stored_survey.proofs.Seen.{all_shown}
use Rattle.stored_survey.proofs.finding.find_half.Goals as goal

pub returns-then-not-is_nothing-clause-shows : goal.returns-then-not-is_nothing-clause-shows
returns-then-not-is_nothing-clause-shows g c = λ told read.
    (c.in_ok-half.ensures.shows told read).1 (λ e. false_true c.is_nothing.result c.if-not-is_nothing.true (c.is_nothing.ensures.1 e))

pub returns-clause-shows : goal.returns-clause-shows
returns-clause-shows g c = λ told read.
    all_shown (g.V.Files.state c.args.files.now).files c.in_ok-half_index.half_index
    ((c.in_ok-half.ensures.shows told read).0 (c.is_nothing.ensures.0 c.if-not-is_nothing.false))
    ((subst (λ (s : State). IsTrue s.tells → IsReadAs s.files c.args.catalog.now → ShowsIndexes s.files c.in_ok-half_index.half_index) c.in_ok-half.ensures.frame.same c.in_ok-half_index.ensures.shows) told read)
