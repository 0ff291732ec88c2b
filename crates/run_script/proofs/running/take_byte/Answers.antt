use Rattle.std.proofs.Common.{inl, inr, refl, sym, ap, ◌∙◌, ⊎_elim}
use Rattle.db_model.specs.Script.{ends_piece}
use Rattle.run_script.proofs.Gathering.{one_ended}
use Rattle.run_script.proofs.running.take_byte.Goals as goal

pub returns-then-is_stopped-clause-silent : goal.returns-then-is_stopped-clause-silent
returns-then-is_stopped-clause-silent g c = inl refl

pub returns-then-not-ends_at-clause-silent : goal.returns-then-not-ends_at-clause-silent
returns-then-not-ends_at-clause-silent g c = inl refl

pub returns-clause-silent : goal.returns-clause-silent
returns-clause-silent g c = ⊎_elim inl (λ one. inr (λ q keeps.
    let entry = one q.1 keeps.gathers in
    (entry.0, one_ended q.0 q.1 c.args.byte entry.0 (ap (λ quoted. ends_piece quoted c.args.byte) (sym keeps.quoted_is) ∙ sym c.ends_at.ensures ∙ c.if-not-ends_at.false) entry.1)))
    c.answer_ended-answered.ensures.silent

pub returns-in_err-answered-clause-silent : goal.returns-in_err-answered-clause-silent
returns-in_err-answered-clause-silent g c = ⊎_elim inl (λ one. inr (λ q keeps.
    let entry = one q.1 keeps.gathers in
    (entry.0, one_ended q.0 q.1 c.args.byte entry.0 (ap (λ quoted. ends_piece quoted c.args.byte) (sym keeps.quoted_is) ∙ sym c.ends_at.ensures ∙ c.if-not-ends_at.false) entry.1)))
    c.answer_ended-answered.ensures.silent
