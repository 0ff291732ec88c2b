-- A session as its callers see it, and what is always so of its fields.
use Rattle.std.specs.Prelude.{◌≡◌, ⊤, ℕ, Bool, true, false, Result, Ok, Err}
use Rattle.afl_base.specs.declared.files.Files.{Ghosts as FilesOf}
use Rattle.db_model.specs.Ahead.{Aheads}
use Rattle.db_model.specs.Database.{Database}
use Rattle.db_model.specs.Sound.{IsSoundDatabase}
use Rattle.session_model.specs.Carried.{Runs, Tells, database}
use Rattle.session_model.specs.declared.base.Base.{Base}
use Rattle.session_model.specs.declared.step.Outcome.TheVariants.{Fine, Refused, Rows}
use Rattle.session_model.specs.declared.step.Step.{Step}
use Rattle.session_model.specs.declared.step.Step.TheVariants.{Done, NoSpace}
use Rattle.afl_base.specs.declared.fault.Fault.{Fault}
use Rattle.afl_base.specs.declared.fault.Fault.TheVariants.{Flash, Sink}

-- the files, the database that they stand for with the open cursors, and what these have ahead; whether a reply or a
-- file failed, and whether a file did
pub record Seen (V : Type 0) : Type 0 where
  pub files : V
  pub database : Database
  pub aheads : Aheads
  pub stopped : Bool
  pub lost : Bool

-- as long as its files did not fail
pub record IsSession {V : Type 0} (v : FilesOf V) (base : Base V) (stopped lost : Bool) : Type 0 where
  pub running : lost ≡ false → Runs v base
  pub sound : lost ≡ false → Tells v base → IsSoundDatabase (database v base)
  pub going : stopped ≡ false → lost ≡ false

-- P of the pages, where there was no space
abbrev pub WhereNoSpace : {E : Type 0} → Result Step E → (ℕ → Type 0) → Type 0
WhereNoSpace (Ok (NoSpace need)) P = P need
WhereNoSpace (Ok (Done came)) P = ⊤
WhereNoSpace (Err e) P = ⊤

-- P, where nothing was changed: a refusal, or a removal of no row
abbrev pub OnNothingDone : {E : Type 0} → Result Step E → Type 0 → Type 0
OnNothingDone (Ok (Done Refused)) P = P
OnNothingDone (Ok (Done (Rows k))) P = k ≡ 0 → P
OnNothingDone (Ok (Done Fine)) P = ⊤
OnNothingDone (Ok (NoSpace need)) P = ⊤
OnNothingDone (Err e) P = ⊤

-- P, where the command was done or refused
abbrev pub WhereDone : {E : Type 0} → Result Step E → Type 0 → Type 0
WhereDone (Ok (Done came)) P = P
WhereDone (Ok (NoSpace need)) P = ⊤
WhereDone (Err e) P = ⊤

-- whether a file failed
abbrev pub is_flash : Fault → Bool
is_flash Flash = true
is_flash Sink = false
