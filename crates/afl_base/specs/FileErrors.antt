-- What the answers of calls that ask for space say.
use Rattle.std.specs.Prelude.{ℕ, ◌≤◌, Result, Ok, Err, ⊤, IsErrOf}
use Rattle.afl_base.specs.declared.kind.FileError.{FileError}
use Rattle.afl_base.specs.declared.kind.FileError.TheVariants.{Space, Failed}
use Rattle.afl_base.specs.Causes.{Rose}

-- P of the pages that could not be had, where that is the answer
abbrev pub OnSpace : {T : Type 0} → Result T FileError → (ℕ → Type 0) → Type 0
OnSpace (Ok x) P = ⊤
OnSpace (Err (Space need)) P = P need
OnSpace (Err Failed) P = ⊤

-- P, where the answer is Failed
abbrev pub WhereFailed : {T : Type 0} → Result T FileError → Type 0 → Type 0
WhereFailed result P = IsErrOf result Failed → P

-- P, where the answer is not Failed
abbrev pub UnlessFailed : {T : Type 0} → Result T FileError → Type 0 → Type 0
UnlessFailed (Ok x) P = P
UnlessFailed (Err (Space need)) P = P
UnlessFailed (Err Failed) P = ⊤

-- the count never falls, and the answer is Failed only where the count rose
pub record HasFileCause {T : Type 0} (before now : ℕ) (result : Result T FileError) : Type 0 where
  pub later : before ≤ now
  pub failed : IsErrOf result Failed → Rose before now
