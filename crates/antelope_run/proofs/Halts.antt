-- What generated commands and a dumped script come to, as a run.
use Rattle.std.proofs.Common.{◌≡◌, ◌≢◌, ℕ, Bool, true, false, List, Option, refl, ap}
use Rattle.std.specs.Prelude.{⊤, IfErr, IsErrOf, OnOk, Result, Ok, Err}
use Rattle.db_model.specs.declared.commands.Command.{Command}
use Rattle.dump.specs.Appends.{AppendsText}
use Rattle.run_input.specs.declared.ending.Ending.{Ending}
use Rattle.run_input.specs.declared.ending.Ending.TheVariants as halt
use Rattle.run_input.specs.declared.ending.InputEnding.{InputEnding}
use Rattle.run_input.specs.declared.ending.InputEnding.TheVariants.{Input, Long, Early}
use Rattle.afl_base.specs.declared.fault.Fault.{Fault}
use Rattle.afl_base.specs.declared.fault.Fault.TheVariants as fault
use Rattle.session_model.specs.Steps.{HasFaultCause, UnlessFlash}
use Rattle.run_entries.specs.Carried.{HasHaltCause, Limits, Standing}
use Rattle.run_entries.specs.Went.{HasRunCause, Reaches}
use Rattle.run_generated.specs.Summed.{StopsCommands, SummedUp}
use Rattle.run_words.specs.declared.words.Form.{Form}
use Rattle.antelope_run.specs.Does.{Generates, OnlyHalts, WritesText, halted, stopped}
use Rattle.antelope_run.specs.Promise.{TakesInput}
use Rattle.antelope_run.specs.Steps.{ReachesBy}

clash : {Goal : Type 0} → false ≡ true → Goal
clash e = absurd (let n : ⊥ = cc in n)

-- ---- generated commands

pub generated : (old new : Standing) (limits : Limits) (commands : List Command) (done : Result ⊤ Ending)
    → OnOk done (SummedUp commands old.database new.database old.held new.held)
    → IfErr done (λ h. StopsCommands limits commands old.database new.database old.held new.held h)
    → Generates old new limits commands (halted done)
generated old new limits commands (Ok x) ok err = ok
generated old new limits commands (Err h) ok err = err

is_halt : (done : Result ⊤ Ending) → IsErrOf done halt.Flash → halted done ≡ Err (Early halt.Flash)
is_halt done h = ap halted h

pub generated_lost : (done : Result ⊤ Ending) (lost : Bool) → (lost ≡ true → IsErrOf done halt.Flash) → lost ≡ true → halted done ≡ Err (Early halt.Flash)
generated_lost done lost h is = is_halt done (h is)

pub generated_tells : (done : Result ⊤ Ending) (lost : Bool) (T : Type 0) → (lost ≡ true → IsErrOf done halt.Flash) → (lost ≡ false → T)
    → halted done ≢ Err (Early halt.Flash) → T
generated_tells done true T h keeps other = absurd (other (is_halt done (h refl)))
generated_tells done false T h keeps other = keeps refl

pub generated_cause : (done : Result ⊤ Ending) (inputs f g r s : ℕ) → HasHaltCause f g r s done → HasRunCause inputs inputs f g r s (halted done)
generated_cause (Ok x) inputs f g r s c = record {
  files_later = c.files_later;
  input = λ e. absurd (let n : ⊥ = cc in n);
  flash = λ e. absurd (let n : ⊥ = cc in n);
  sink = λ e. absurd (let n : ⊥ = cc in n);
}
generated_cause (Err h) inputs f g r s c = record {
  files_later = c.files_later;
  input = λ e. absurd (let n : ⊥ = cc in n);
  flash = λ e. let is : h ≡ halt.Flash = cc in c.flash (ap (λ k. Err k) is);
  sink = λ e. let is : h ≡ halt.Sink = cc in c.sink (ap (λ k. Err k) is);
}

-- ---- a dumped script

pub dumped : (old new : Standing) (text : List ℕ) (done : Result ⊤ Fault) → AppendsText done old.held new.held text → WritesText old new text (stopped done)
dumped old new text (Ok x) h = h
dumped old new text (Err fault.Sink) h = h
dumped old new text (Err fault.Flash) h = h

pub dumped_same : (done : Result ⊤ Fault) (P : Type 0) → UnlessFlash done P → stopped done ≢ Err (Early halt.Flash) → P
dumped_same (Ok x) P h other = h
dumped_same (Err fault.Sink) P h other = h
dumped_same (Err fault.Flash) P h other = absurd (other refl)

pub dumped_lost : (done : Result ⊤ Fault) (lost : Bool) → UnlessFlash done (lost ≡ false) → lost ≡ true → stopped done ≡ Err (Early halt.Flash)
dumped_lost (Ok x) true h is = clash (let e : true ≡ false = h in cc)
dumped_lost (Ok x) false h is = clash is
dumped_lost (Err fault.Sink) true h is = clash (let e : true ≡ false = h in cc)
dumped_lost (Err fault.Sink) false h is = clash is
dumped_lost (Err fault.Flash) lost h is = refl

pub dumped_cause : (done : Result ⊤ Fault) (inputs f g r s : ℕ) → HasFaultCause f g r s done → HasRunCause inputs inputs f g r s (stopped done)
dumped_cause (Ok x) inputs f g r s c = record {
  files_later = c.files_later;
  input = λ e. absurd (let n : ⊥ = cc in n);
  flash = λ e. absurd (let n : ⊥ = cc in n);
  sink = λ e. absurd (let n : ⊥ = cc in n);
}
dumped_cause (Err fault.Sink) inputs f g r s c = record {
  files_later = c.files_later;
  input = λ e. absurd (let n : ⊥ = cc in n);
  flash = λ e. absurd (let n : ⊥ = cc in n);
  sink = λ e. c.sink refl;
}
dumped_cause (Err fault.Flash) inputs f g r s c = record {
  files_later = c.files_later;
  input = λ e. absurd (let n : ⊥ = cc in n);
  flash = λ e. c.flash refl;
  sink = λ e. absurd (let n : ⊥ = cc in n);
}

pub unless_flash : {P Q : Type 0} (done : Result ⊤ Fault) → (P → Q) → UnlessFlash done P → UnlessFlash done Q
unless_flash (Ok x) f h = f h
unless_flash (Err fault.Sink) f h = f h
unless_flash (Err fault.Flash) f h = h

-- ---- how far an input came

pub halted_only : (done : Result ⊤ Ending) → OnlyHalts (halted done)
halted_only (Ok x) = tt
halted_only (Err h) = tt

pub stopped_only : (done : Result ⊤ Fault) → OnlyHalts (stopped done)
stopped_only (Ok x) = tt
stopped_only (Err fault.Sink) = tt
stopped_only (Err fault.Flash) = tt

module _ (form : Form) (left left_now : Option (List ℕ)) where
  pub reaches_by : (result : Result ⊤ InputEnding) → Reaches result left left_now → ReachesBy form result left left_now
  reaches_by (Ok x) h = λ takes. h
  reaches_by (Err Input) h = tt
  reaches_by (Err Long) h = h
  reaches_by (Err (Early k)) h = tt

  pub reaches_none : (TakesInput form → ⊥) → (result : Result ⊤ InputEnding) → OnlyHalts result → ReachesBy form result left left_now
  reaches_none none (Ok x) h = λ takes. absurd (none takes)
  reaches_none none (Err Input) h = absurd h
  reaches_none none (Err Long) h = absurd h
  reaches_none none (Err (Early k)) h = tt
