-- Where nothing was changed, and where no extent was taken, by the answer and by the step that replies to it.
use Rattle.std.proofs.Common.{◌≡◌, ℕ, List, Option, Ok, Err, refl, ◌∙◌, rules}
use Rattle.afl_base.specs.declared.failed.Failed.{Failed}
use Rattle.db_model.specs.Database.{Database, empty_database}
use Rattle.db_model.specs.Step.{Fine, Removed}
use Rattle.session_model.specs.declared.answer.Answer.{Answer}
use Rattle.session_model.specs.declared.answer.Answer.TheVariants as answer
use Rattle.session_model.specs.declared.step.Outcome.{Outcome}
use Rattle.session_model.specs.declared.step.Outcome.TheVariants as came
use Rattle.session_model.specs.declared.step.Step.{Step}
use Rattle.session_model.specs.declared.step.Step.TheVariants.{Done, NoSpace}
use Rattle.afl_base.specs.declared.fault.Fault.{Fault}
use Rattle.session_model.specs.Answers.{Changed, OnDone, OnNothing}
use Rattle.session_model.specs.Steps.{Does, Made}
use Rattle.antelope_engine.specs.Seen.{OnNothingDone, WhereDone}

pub untouched_always : (c : Outcome) (P : Type 0) → P → OnNothingDone {E = Fault} (Ok (Done c)) P
untouched_always came.Fine P p = tt
untouched_always (came.Rows k) P p = λ none. p
untouched_always came.Refused P p = p

-- the reply to an answer
abbrev pub Replied : Answer → Step → (before now : Option (List ℕ)) → Type 0
Replied a step before now = (made : Made) (old new : Database) → Changed made old new a → Does made old new step before now

untouched_rows : (j k : ℕ) (P : Type 0) → came.Rows j ≡ came.Rows k → (j ≡ 0 → P) → k ≡ 0 → P
untouched_rows j k P same p none = let e : j ≡ k = cc in p (e ∙ none)

pub untouched_done : (a : Answer) (step : Step) (before now : Option (List ℕ)) (P : Type 0) → Replied a step before now
    → OnNothing {E = Failed} (Ok a) P → OnNothingDone {E = Fault} (Ok step) P
untouched_done a (NoSpace need) before now P h p = tt
untouched_done a (Done came.Fine) before now P h p = tt
untouched_done answer.Fine (Done came.Refused) before now P h p = let e = (h (Ok (empty_database, Fine)) empty_database empty_database refl).1.1 in absurd (search (rules, e))
untouched_done (answer.Removed k) (Done came.Refused) before now P h p = let e = (h (Ok (empty_database, Removed k)) empty_database empty_database refl).1.1 in absurd (search (rules, e))
untouched_done (answer.Refused r) (Done came.Refused) before now P h p = p
untouched_done (answer.NoSpace n) (Done came.Refused) before now P h p = let e = (h (Ok (empty_database, Fine)) empty_database empty_database (refl, refl)).1.1 in absurd (search (rules, e))
untouched_done answer.Fine (Done (came.Rows k)) before now P h p = let e = (h (Ok (empty_database, Fine)) empty_database empty_database refl).1.1 in absurd (search (rules, e))
untouched_done (answer.Removed j) (Done (came.Rows k)) before now P h p = untouched_rows j k P (h (Ok (empty_database, Removed j)) empty_database empty_database refl).1.1 p
untouched_done (answer.Refused r) (Done (came.Rows k)) before now P h p = let e = (h (Err r) empty_database empty_database (refl, refl)).1.1 in absurd (search (rules, e))
untouched_done (answer.NoSpace n) (Done (came.Rows k)) before now P h p = let e = (h (Ok (empty_database, Fine)) empty_database empty_database (refl, refl)).1.1 in absurd (search (rules, e))

-- and P, where the command was done, or refused
pub spared_done : (a : Answer) (step : Step) (before now : Option (List ℕ)) (P S : Type 0) → Replied a step before now → (S → P)
    → OnDone {E = Failed} (Ok a) P → OnNothing {E = Failed} (Ok a) S → WhereDone {E = Fault} (Ok step) P
spared_done a (NoSpace need) before now P S h by done none = tt
spared_done answer.Fine (Done c) before now P S h by done none = done
spared_done (answer.Removed k) (Done c) before now P S h by done none = done
spared_done (answer.Refused r) (Done c) before now P S h by done none = by none
spared_done (answer.NoSpace n) (Done came.Fine) before now P S h by done none = let e = (h (Ok (empty_database, Removed 0)) empty_database empty_database (refl, refl)).1.1 in absurd (search (rules, e))
spared_done (answer.NoSpace n) (Done came.Refused) before now P S h by done none = let e = (h (Ok (empty_database, Fine)) empty_database empty_database (refl, refl)).1.1 in absurd (search (rules, e))
spared_done (answer.NoSpace n) (Done (came.Rows k)) before now P S h by done none = let e = (h (Ok (empty_database, Fine)) empty_database empty_database (refl, refl)).1.1 in absurd (search (rules, e))
