use Rattle.std.proofs.Common.{ℕ, ap, subst, sym, ◌∙◌}
use Rattle.std.specs.Io.KnownBytes.{append_known}
use Rattle.db_model.specs.ReplyText.{count_text}
use Rattle.reply_text.specs.WroteLess.{WroteLess}
use Rattle.session_model.specs.declared.step.Outcome.TheVariants as outcome
use Rattle.session_model.specs.declared.step.Step.TheVariants.{Done}
use Rattle.session_model.specs.Steps.{Does}
use Rattle.session_model.proofs.Answered.{does_fine, does_nothing, does_refused, does_removed, less_fine, less_refused, less_removed}
use Rattle.session_model.proofs.replies.reply.Goals as goal

pub returns-in-NoSpace-clause-done : goal.returns-in-NoSpace-clause-done
returns-in-NoSpace-clause-done g c = λ made old new h. does_nothing made old new c.in-NoSpace.need (g.K.Sink.held c.args.out.now) (rw c.in-NoSpace.is at h)

pub returns-in-Ok-clause-done : goal.returns-in-Ok-clause-done
returns-in-Ok-clause-done g c = λ made old new h. does_fine made old new (g.K.Sink.held c.args.out.now) (g.K.Sink.held c.write_ok.new.out) (rw c.in-Fine.is at h) c.in-Ok.ensures.written

pub returns-in-Err-clause-failed : goal.returns-in-Err-clause-failed
returns-in-Err-clause-failed g c = λ made old new h. less_fine made old new (g.K.Sink.held c.args.out.now) (g.K.Sink.held c.write_ok.new.out) (rw c.in-Fine.is at h) c.in-Err.ensures.failed

pub returns-in-Ok-write_refusal-clause-done : goal.returns-in-Ok-write_refusal-clause-done
returns-in-Ok-write_refusal-clause-done g c = λ made old new h. does_refused made old new c.in-Refused.refusal (g.K.Sink.held c.args.out.now) (g.K.Sink.held c.write_refusal.new.out) (rw c.in-Refused.is at h) c.in-Ok-write_refusal.ensures.written

pub returns-in-Err-write_refusal-clause-failed : goal.returns-in-Err-write_refusal-clause-failed
returns-in-Err-write_refusal-clause-failed g c = λ made old new h. less_refused made old new c.in-Refused.refusal (g.K.Sink.held c.args.out.now) (g.K.Sink.held c.write_refusal.new.out) (rw c.in-Refused.is at h) c.in-Err-write_refusal.ensures.failed

pub returns-in-Ok-write_rows-clause-done : goal.returns-in-Ok-write_rows-clause-done
returns-in-Ok-write_rows-clause-done g c = λ made old new h.
    let before = g.K.Sink.held c.args.out.now in
    let now = g.K.Sink.held c.write_rows.new.out in
    let count : ℕ = c.in-Removed.count in
    subst (λ (k : ℕ). Does made old new (Done (outcome.Rows k)) before now) (sym c.from-in-Ok-write_rows.ensures)
    (does_removed made old new count before now (rw c.in-Removed.is at h)
    (c.in-Ok-write_rows.ensures.written ∙ ap (λ (k : ℕ). append_known before (count_text k)) c.from.ensures))

pub returns-in-Err-write_rows-clause-failed : goal.returns-in-Err-write_rows-clause-failed
returns-in-Err-write_rows-clause-failed g c = λ made old new h.
    let before = g.K.Sink.held c.args.out.now in
    let now = g.K.Sink.held c.write_rows.new.out in
    less_removed made old new c.in-Removed.count before now (rw c.in-Removed.is at h)
    (subst (λ (k : ℕ). WroteLess before now (count_text k)) c.from.ensures c.in-Err-write_rows.ensures.failed)
