use Rattle.std.proofs.Common.{inl, inr, refl, ◌∙◌, ⊎_elim}
use Rattle.serve.proofs.serving.take_byte.Goals as goal

pub returns-then-is_stopped-clause-silent : goal.returns-then-is_stopped-clause-silent
returns-then-is_stopped-clause-silent g c = inl refl

pub returns-clause-silent : goal.returns-clause-silent
returns-clause-silent g c = ⊎_elim inl (λ one. inr (λ part gathers. (one.0, c.feed-fed.ensures.frames part gathers ∙ one.1))) c.answer_fed.ensures.silent

pub returns-in_err-answer_fed-clause-silent : goal.returns-in_err-answer_fed-clause-silent
returns-in_err-answer_fed-clause-silent g c = ⊎_elim inl (λ one. inr (λ part gathers. (one.0, c.feed-fed.ensures.frames part gathers ∙ one.1))) c.answer_fed.ensures.silent
