-- The cause of a failure, as one result is made of another.
use Rattle.std.proofs.Common.{ℕ, Ok, Err, rules, arith}
use Rattle.afl_base.specs.declared.failed.Failed.{Failed}
use Rattle.afl_base.specs.Causes.{HasCause}
use Rattle.session_model.specs.declared.answer.Answer.{Answer}
use Rattle.session_model.specs.declared.step.Outcome.{Outcome}
use Rattle.session_model.specs.declared.step.Step.{Step}
use Rattle.afl_base.specs.declared.fault.Fault.{Fault}
use Rattle.afl_base.specs.declared.fault.Fault.TheVariants.{Flash, Sink}
use Rattle.session_model.specs.Steps.{HasFaultCause}
use Rattle.antelope_engine.proofs.Spaces.{err_moved}

pub cause_done : (f g k l : ℕ) (came : Outcome) (step : Step) → HasFaultCause {T = Outcome} f g k l (Ok came) → HasFaultCause {T = Step} f g k l (Ok step)
cause_done f g k l came step h = record {
  files_later = h.files_later;
  replies_later = h.replies_later;
  flash = λ e. absurd (search (rules, e));
  sink = λ e. absurd (search (rules, e));
}

pub cause_stopped : (f g k l : ℕ) (stop : Fault) → HasFaultCause {T = Outcome} f g k l (Err stop) → HasFaultCause {T = Step} f g k l (Err stop)
cause_stopped f g k l stop h = record {
  files_later = h.files_later;
  replies_later = h.replies_later;
  flash = λ e. h.flash (err_moved Step Outcome stop Flash e);
  sink = λ e. h.sink (err_moved Step Outcome stop Sink e);
}

pub cause_replied : (f g k l : ℕ) (answer : Answer) (step : Step) → HasCause {T = Answer} {E = Failed} f g (Ok answer) → HasCause {T = Step} {E = Failed} k l (Ok step)
    → HasFaultCause {T = Step} f g k l (Ok step)
cause_replied f g k l answer step h i = record {
  files_later = h.later;
  replies_later = i.later;
  flash = λ e. absurd (search (rules, e));
  sink = λ e. absurd (search (rules, e));
}

pub cause_unreplied : (f g k l : ℕ) (answer : Answer) (failed : Failed) → HasCause {T = Answer} {E = Failed} f g (Ok answer) → HasCause {T = Step} {E = Failed} k l (Err failed)
    → HasFaultCause {T = Step} f g k l (Err Sink)
cause_unreplied f g k l answer failed h i = record {
  files_later = h.later;
  replies_later = i.later;
  flash = λ e. absurd (search (rules, e));
  sink = λ e. i.failed;
}

pub cause_failed : (f g k : ℕ) (failed : Failed) → HasCause {T = Answer} {E = Failed} f g (Err failed) → HasFaultCause {T = Step} f g k k (Err Flash)
cause_failed f g k failed h = record {
  files_later = h.later;
  replies_later = omega arith;
  flash = λ e. h.failed;
  sink = λ e. absurd (search (rules, e));
}
