use Rattle.std.proofs.Common.{◌≡◌, ℕ, List, Some, false, refl, ap, sym, subst, ◌∙◌}
use Rattle.std.specs.Io.KnownBytes.{append_known}
use Rattle.db_model.specs.declared.refusals.Refusal.TheVariants as no
use Rattle.db_model.specs.ReplyText.{text}
use Rattle.db_model.proofs.ReplyTexts.{text_refused}
use Rattle.padded.proofs.Facts.{on_err}
use Rattle.reply_text.specs.WroteLess.{WroteLess}
use Rattle.session_model.specs.declared.step.Outcome.TheVariants as outcome
use Rattle.session_model.specs.Steps.{WritesReply}
use Rattle.session_cursors.specs.Fetched.{reply_fetched}
use Rattle.session_cursors.proofs.Texts.{text_none}
use Rattle.session_cursors.proofs.replies.write_reply.Goals as goal

pub returns-in_ok-write_refusal-in-None-clause-done : goal.returns-in_ok-write_refusal-in-None-clause-done
returns-in_ok-write_refusal-in-None-clause-done g c =
    let before = g.K.Sink.held c.args.out.now in
    let now = g.K.Sink.held c.write_refusal.new.out in
    subst (λ came. WritesReply (reply_fetched came c.args.row.now) outcome.Refused before now) (sym c.in-None.is)
    (c.in_ok-write_refusal-in-None.ensures.written ∙ ap (append_known before) (sym (text_refused no.NoCursor)), refl)

pub returns-in_err-write_refusal-in-None-clause-failed : goal.returns-in_err-write_refusal-in-None-clause-failed
returns-in_err-write_refusal-in-None-clause-failed g c =
    let before = g.K.Sink.held c.args.out.now in
    let now = g.K.Sink.held c.write_refusal.new.out in
    on_err _ (subst (λ came. WroteLess before now (text (reply_fetched came c.args.row.now))) (sym c.in-None.is)
    (subst (λ (bytes : List ℕ). WroteLess before now bytes) (sym (text_refused no.NoCursor)) c.in_err-write_refusal-in-None.ensures.failed))

pub returns-in_ok-write_rows-in-Some-false-clause-done : goal.returns-in_ok-write_rows-in-Some-false-clause-done
returns-in_ok-write_rows-in-Some-false-clause-done g c =
    let before = g.K.Sink.held c.args.out.now in
    let now = g.K.Sink.held c.write_rows.new.out in
    let is : c.args.came ≡ Some false = cc (c.in-Some-false.is, c.in-Some-false.field-0-test) in
    subst (λ came. WritesReply (reply_fetched came c.args.row.now) (outcome.Rows 0) before now) (sym is)
    (c.in_ok-write_rows-in-Some-false.ensures.written ∙ ap (append_known before) (sym text_none), refl)

pub returns-in_err-write_rows-in-Some-false-clause-failed : goal.returns-in_err-write_rows-in-Some-false-clause-failed
returns-in_err-write_rows-in-Some-false-clause-failed g c =
    let before = g.K.Sink.held c.args.out.now in
    let now = g.K.Sink.held c.write_rows.new.out in
    let is : c.args.came ≡ Some false = cc (c.in-Some-false.is, c.in-Some-false.field-0-test) in
    on_err _ (subst (λ came. WroteLess before now (text (reply_fetched came c.args.row.now))) (sym is)
    (subst (λ (bytes : List ℕ). WroteLess before now bytes) (sym text_none) c.in_err-write_rows-in-Some-false.ensures.failed))
