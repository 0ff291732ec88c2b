use Rattle.std.proofs.Common.{◌∙◌, sym, ap}
use Rattle.std.specs.Prelude.{is_some}
use Rattle.padded.proofs.Facts.{false_true}
use Rattle.stored_survey.proofs.Seen.{emptied_seen, lone_seen, unused_seen}
use Rattle.stored_survey.proofs.finding.half_of_unused.Goals as goal

pub returns-then-not-is_unused_slot : goal.returns-then-not-is_unused_slot
returns-then-not-is_unused_slot g c = λ none read.
    emptied_seen (g.V.Files.state c.args.files.now).files c.args.slot c.requires.slot none
    (λ same. false_true c.is_unused_slot.result c.if-not-is_unused_slot.true (c.is_unused_slot.ensures.is.1 (read ∙ same)))

pub returns-in-Some : goal.returns-in-Some
returns-in-Some g c = λ none read.
    lone_seen (g.V.Files.state c.args.files.now).files c.args.slot c.requires.slot none
    (sym read ∙ c.is_unused_slot.ensures.is.0 c.if-not-is_unused_slot.false) (sym c.rows_at.ensures.there ∙ ap is_some c.in-Some.is)

pub returns-in-None : goal.returns-in-None
returns-in-None g c = λ none read.
    unused_seen (g.V.Files.state c.args.files.now).files c.args.slot c.requires.slot none
    (sym read ∙ c.is_unused_slot.ensures.is.0 c.if-not-is_unused_slot.false) (sym c.rows_at.ensures.there ∙ ap is_some c.in-None.is)
