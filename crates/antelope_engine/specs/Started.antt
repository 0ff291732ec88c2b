-- The result of a start, and the files that are handed back.
use Rattle.std.specs.Prelude.{⊤, ℕ, ◌≤◌, Result, Ok, Err, IfErr}
use Rattle.afl_base.specs.Causes.{Rose}
use Rattle.session_start.specs.declared.starting.BrokenRule.{BrokenRule}
use Rattle.antelope_engine.specs.declared.start_error.StartError.{StartError}
use Rattle.antelope_engine.specs.declared.start_error.StartError.TheVariants.{Bad, Failed}
use Rattle.antelope_engine.specs.Seen.{Seen}

-- the files, where no session was started
abbrev pub files_left : {V : Type 0} → StartError V → V
files_left (Bad broken files) = files
files_left (Failed files) = files

-- and wherever they are
abbrev pub files_after : {V : Type 0} → Result (Seen V) (StartError V) → V
files_after (Ok session) = session.files
files_after (Err error) = files_left error

-- P of the broken rule, where one is broken
abbrev pub OnBroken : {V : Type 0} → StartError V → (BrokenRule → Type 0) → Type 0
OnBroken (Bad broken files) P = P broken
OnBroken (Failed files) P = ⊤

-- P, where the files could not be read
abbrev pub OnUnread : {V : Type 0} → StartError V → Type 0 → Type 0
OnUnread (Bad broken files) P = ⊤
OnUnread (Failed files) P = P

-- P, where no database was opened
abbrev pub UnlessBegun : {T E F : Type 0} → Result (Result T E) F → Type 0 → Type 0
UnlessBegun (Ok (Ok done)) P = ⊤
UnlessBegun (Ok (Err broken)) P = P
UnlessBegun (Err failed) P = P

-- the count never falls, and the files could not be read only where it rose
pub record HasStartCause {V : Type 0} (before now : ℕ) (result : Result (Seen V) (StartError V)) : Type 0 where
  pub later : before ≤ now
  pub failed : IfErr result (λ error. OnUnread error (Rose before now))
