-- What is said where there was no space: by an answer, and by the reply to it.
use Rattle.std.proofs.Common.{◌≡◌, ℕ, rules, Ok, Err, subst}
use Rattle.std.specs.Prelude.{IsErrOf}
use Rattle.afl_base.specs.declared.failed.Failed.{Failed}
use Rattle.db_model.specs.declared.commands.Command.{Command}
use Rattle.db_model.specs.Database.{Database}
use Rattle.session_model.specs.declared.answer.Answer.{Answer}
use Rattle.session_model.specs.declared.answer.Answer.TheVariants as answer
use Rattle.session_model.specs.declared.step.Step.{Step}
use Rattle.session_model.specs.declared.step.Step.TheVariants.{Done, NoSpace}
use Rattle.afl_base.specs.declared.fault.Fault.{Fault}
use Rattle.session_model.specs.Answers as answers
use Rattle.session_model.specs.Steps.{Answers}
use Rattle.antelope_engine.specs.Seen.{WhereNoSpace}

-- the answer has the pages that the reply has
abbrev pub HasNeed : Answer → Step → Type 0
HasNeed a step = WhereNoSpace {E = Failed} (Ok step) (λ need. a ≡ answer.NoSpace need)

pub space_map : (a : Answer) (P Q : ℕ → Type 0) → ((need : ℕ) → P need → Q need) → answers.OnNoSpace {E = Failed} (Ok a) P → answers.OnNoSpace {E = Failed} (Ok a) Q
space_map answer.Fine P Q f h = tt
space_map (answer.Removed k) P Q f h = tt
space_map (answer.Refused r) P Q f h = tt
space_map (answer.NoSpace need) P Q f h = f need h

-- what is said by the answer is said by the reply
pub space_told : (a : Answer) (step : Step) (P : ℕ → Type 0) → HasNeed a step → answers.OnNoSpace {E = Failed} (Ok a) P → WhereNoSpace {E = Fault} (Ok step) P
space_told a (Done came) P is h = tt
space_told a (NoSpace need) P is h = subst (λ (z : Answer). answers.OnNoSpace {E = Failed} (Ok z) P) is h

-- and of the database as it was, since it stays
pub space_before : (a : Answer) (step : Step) (c : Command) (old new : Database) (P : Database → ℕ → Type 0) → HasNeed a step → Answers c old new a
    → answers.OnNoSpace {E = Failed} (Ok a) (P new) → WhereNoSpace {E = Fault} (Ok step) (P old)
space_before a (Done came) c old new P is made h = tt
space_before a (NoSpace need) c old new P is made h =
    let same = (subst (λ (z : Answer). Answers c old new z) is made).1 in
    subst (λ (db : Database). P db need) same (subst (λ (z : Answer). answers.OnNoSpace {E = Failed} (Ok z) (P new)) is h)

-- an error of one call is that of another
pub err_moved : (S T : Type 0) (stop s : Fault) → IsErrOf {T = S} (Err stop) s → IsErrOf {T = T} (Err stop) s
err_moved S T stop s h = search rules
