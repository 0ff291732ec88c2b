use Rattle.std.proofs.Common.{◌∙◌, sym, ap, List, ℕ, length}
use Rattle.std.specs.Prelude.{is_some}
use Rattle.padded.proofs.Facts.{false_true}
use Rattle.stored_survey.proofs.Seen.{grown_seen, no_rows_seen, rows_seen}
use Rattle.stored_survey.proofs.finding.half_of_used.Goals as goal

pub returns-then-not-ends_with_attributes : goal.returns-then-not-ends_with_attributes
returns-then-not-ends_with_attributes g c = λ formed is read.
    grown_seen (g.V.Files.state c.args.files.now).files c.args.slot c.requires.slot c.args.schema.now is
    (λ same. false_true c.ends_with_attributes.result c.if-not-ends_with_attributes.true ((c.ends_with_attributes.ensures.is formed).1 (read ∙ same)))

pub returns-in-None : goal.returns-in-None
returns-in-None g c = λ formed is read.
    no_rows_seen (g.V.Files.state c.args.files.now).files c.args.slot c.requires.slot c.args.schema.now is
    (sym read ∙ (c.ends_with_attributes.ensures.is formed).0 c.if-not-ends_with_attributes.false) (sym c.rows_at.ensures.there ∙ ap is_some c.in-None.is)

pub returns-in-Some : goal.returns-in-Some
returns-in-Some g c = λ formed is read.
    rows_seen (g.V.Files.state c.args.files.now).files c.args.slot c.requires.slot c.args.schema.now is c.half_of_rows.result _
    (sym read ∙ (c.ends_with_attributes.ensures.is formed).0 c.if-not-ends_with_attributes.false)
    (ap (λ (xs : List ℕ). length xs) (rw c.in-Some.is at c.rows_at.ensures.bytes)) c.half_of_rows.ensures
