-- What is answered once what waited of a reply is handed on.
use Rattle.std.specs.Prelude.{◌≡◌, ◌≢◌, ◌⊎◌, ⊤, ℕ, ◌<◌, List, [], length, Result, Ok, Err}
use Rattle.afl_base.specs.Causes.{Rose}
use Rattle.run_input.specs.declared.ending.Ending.{Ending}
use Rattle.run_input.specs.declared.ending.Ending.TheVariants.{Space, Flash, Sink}

-- the sink failed only now, and some of the reply has not gone out
pub record FailsNow (answered : Result ⊤ Ending) (faults faults_now : ℕ) (left : List ℕ) : Type 0 where
  pub fine : answered ≢ Err Flash
  pub some : 0 < length left
  pub rose : Rose faults faults_now

-- the same as before, with nothing left to go out; or that the sink failed, before or now; a fault of the flash stays one
abbrev pub Sent : Result ⊤ Ending → (faults faults_now : ℕ) → List ℕ → Result ⊤ Ending → Type 0
Sent answered faults faults_now left (Ok done) = (answered ≡ Ok done) × (left ≡ [])
Sent answered faults faults_now left (Err Space) = (answered ≡ Err Space) × (left ≡ [])
Sent answered faults faults_now left (Err Flash) = answered ≡ Err Flash
Sent answered faults faults_now left (Err Sink) = (answered ≡ Err Sink) ⊎ FailsNow answered faults faults_now left
