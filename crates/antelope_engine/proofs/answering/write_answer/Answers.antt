use Rattle.std.proofs.Common.{◌≡◌, ℕ, List, Option, Result, Ok, Err}
use Rattle.std.specs.Prelude.{IfOk}
use Rattle.afl_base.specs.declared.failed.Failed.{Failed}
use Rattle.db_model.specs.Database.{Database}
use Rattle.session_model.specs.declared.answer.Answer.{Answer}
use Rattle.session_model.specs.declared.answer.Answer.TheVariants as answer
use Rattle.session_model.specs.declared.step.Step.{Step}
use Rattle.session_model.specs.declared.step.Step.TheVariants.{Done, NoSpace}
use Rattle.session_model.specs.Answers.{Changed}
use Rattle.session_model.specs.Steps.{Does, Made}
use Rattle.antelope_engine.specs.Seen.{WhereNoSpace}
use Rattle.antelope_engine.proofs.Replies.{never_space}
use Rattle.antelope_engine.proofs.answering.write_answer.Goals as goal

-- where the answer is no NoSpace, neither is the reply to it
never : (a : Answer) (step : Step) (before now : Option (List ℕ)) (P : ℕ → Type 0) → ((n : ℕ) → a ≡ answer.NoSpace n → ⊥)
    → ((made : Made) (old new : Database) → Changed made old new a → Does made old new step before now) → WhereNoSpace {E = Failed} (Ok step) P
never a (Done came) before now P other h = tt
never a (NoSpace need) before now P other h = absurd (never_space a need before now other h)

-- nor is it the result
nowhere : (a : Answer) (result : Result Step Failed) (before now : Option (List ℕ)) (P : ℕ → Type 0) → ((n : ℕ) → a ≡ answer.NoSpace n → ⊥)
    → IfOk result (λ step. (made : Made) (old new : Database) → Changed made old new a → Does made old new step before now) → WhereNoSpace {E = Failed} result P
nowhere a (Ok step) before now P other h = never a step before now P other h
nowhere a (Err e) before now P other h = tt

pub returns-in_default-clause-space : goal.returns-in_default-clause-space
returns-in_default-clause-space g c = nowhere c.args.answer.now c.reply.result _ _ _ c.in_default.not-NoSpace c.reply.ensures.done

pub returns-in_default-clause-silent : goal.returns-in_default-clause-silent
returns-in_default-clause-silent g c = nowhere c.args.answer.now c.reply.result _ _ _ c.in_default.not-NoSpace c.reply.ensures.done
