-- What mending makes of an image, and why it could not.
use Rattle.std.specs.Prelude.{◌≡◌, ⊤, ℕ, ◌≤◌, List, length, None, Result, IfErr}
use Rattle.std.specs.List.{Contains}
use Rattle.afl_base.specs.Causes.{Rose}
use Rattle.coffee_cuts.specs.Cuts.{MendsTo}
use Rattle.coffee_find.specs.Found.{IsTornAt}
use Rattle.coffee_layout.specs.Files.{NamedFile, files_of}
use Rattle.coffee_layout.specs.Marks.{IsCramped}
use Rattle.coffee_layout.specs.Rules.{broken_image}
use Rattle.coffee_layout.specs.Tiling.{units_of}
use Rattle.coffee_merge.specs.TableFiles.{SameFiles}
use Rattle.coffee_mend.specs.Joined.{OwnsLog}
use Rattle.coffee_mend.specs.declared.mending.MendError.{MendError}
use Rattle.coffee_mend.specs.declared.mending.MendError.TheVariants.{Space, Failed, Unsettled}

-- an image is sound, and has the files of another
pub record IsSoundAs (old new : List ℕ) : Type 0 where
  pub sound : broken_image new ≡ None
  pub same : SameFiles old new

-- an image is sound, and has just the files that another mends to
pub record IsMended (old new : List ℕ) : Type 0 where
  pub files : List NamedFile
  pub mends : MendsTo old files
  pub sound : broken_image new ≡ None
  pub kept : (f : NamedFile) → Contains files f → Contains (files_of new) f
  pub only : (f : NamedFile) → Contains (files_of new) f → Contains files f

-- an image has the files of another and its torn record, and no extent of this many pages is available in it
pub record IsTornAs (old new : List ℕ) (log place need : ℕ) : Type 0 where
  pub torn : IsTornAt new log place
  pub same : SameFiles old new
  pub wants : OwnsLog (units_of new) log need
  pub cramped : IsCramped (units_of new) need

-- an image mends to just the files that a sound one has
pub record MendsLike (old new : List ℕ) : Type 0 where
  pub files : List NamedFile
  pub mends : MendsTo new files
  pub kept : (f : NamedFile) → Contains (files_of old) f → Contains files f
  pub only : (f : NamedFile) → Contains files f → Contains (files_of old) f

-- an image mends to just the files that another mends to
pub record MendAlike (old new : List ℕ) : Type 0 where
  pub files : List NamedFile
  pub mends : MendsTo old files
  pub others : List NamedFile
  pub still : MendsTo new others
  pub kept : (f : NamedFile) → Contains files f → Contains others f
  pub only : (f : NamedFile) → Contains others f → Contains files f

-- and no extent of this many pages is available in it, as a file with a log has
pub record IsCrowded (old new : List ℕ) (need : ℕ) : Type 0 where
  pub alike : MendAlike old new
  pub log : ℕ
  pub wants : OwnsLog (units_of new) log need
  pub cramped : IsCramped (units_of new) need

-- P, where the error is that the flash failed
abbrev pub OnFlashFailed : MendError → Type 0 → Type 0
OnFlashFailed (Space need) P = ⊤
OnFlashFailed Failed P = P
OnFlashFailed Unsettled P = ⊤

-- the error is that the flash failed
abbrev pub IsFailure : MendError → Type 0
IsFailure (Space need) = ⊥
IsFailure Failed = ⊤
IsFailure Unsettled = ⊥

-- P of the pages that are lacking, where that is the error
abbrev pub OnLacking : MendError → (ℕ → Type 0) → Type 0
OnLacking (Space need) P = P need
OnLacking Failed P = ⊤
OnLacking Unsettled P = ⊤

-- the count of faults has not fallen, and the flash failed only where it rose
pub record HasMendCause {T : Type 0} (before now : ℕ) (result : Result T MendError) : Type 0 where
  pub later : before ≤ now
  pub failed : IfErr result (λ e. OnFlashFailed e (Rose before now))

-- a call that mends a flash: it has the size that it had, and borrows what it borrowed
pub record MendsFlash {F T : Type 0} (image : F → List ℕ) (borrows : F → List ℕ) (reads faults : F → ℕ) (old new : F) (result : Result T MendError) : Type 0 where
  pub size : length (image new) ≡ length (image old)
  pub lent : borrows new ≡ borrows old
  pub later : reads old ≤ reads new
  pub cause : HasMendCause (faults old) (faults new) result
