use Rattle.std.proofs.Common.{sym}
use Rattle.stored_survey.proofs.Seen.{accepted, refused}
use Rattle.stored_survey.proofs.Whole.{a_stranger, no_stranger}
use Rattle.stored_survey.proofs.judging.has_no_stranger.Goals as goal

pub returns-in-Some : goal.returns-in-Some
returns-in-Some g c = refused (a_stranger (g.V.Files.state c.args.files.now).files _ (rw c.in-Some.is at c.first_stranger.ensures))

pub returns-in-None : goal.returns-in-None
returns-in-None g c = accepted (no_stranger (g.V.Files.state c.args.files.now).files c.live-first_is_live.ensures.places (sym (rw c.in-None.is at c.first_stranger.ensures)))
