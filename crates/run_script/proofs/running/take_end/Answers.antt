use Rattle.std.proofs.Common.{inl, inr, refl, ⊎_elim}
use Rattle.run_script.proofs.running.take_end.Goals as goal

pub returns-then-is_stopped-clause-silent : goal.returns-then-is_stopped-clause-silent
returns-then-is_stopped-clause-silent g c = inl refl

pub returns-clause-silent : goal.returns-clause-silent
returns-clause-silent g c = ⊎_elim inl (λ one. inr (λ q keeps. one q.1 keeps.gathers)) c.answer_unended.ensures.silent

pub returns-in_err-answer_unended-clause-silent : goal.returns-in_err-answer_unended-clause-silent
returns-in_err-answer_unended-clause-silent g c = ⊎_elim inl (λ one. inr (λ q keeps. one q.1 keeps.gathers)) c.answer_unended.ensures.silent
