-- Choices: which pages `prepare` and each step of it take, and that nothing changes where none are asked for.
use Rattle.std.specs.Prelude.{◌≡◌, ℕ, List, Option, Result, OnOk}
use Rattle.afl_base.specs.FileErrors.{OnSpace, UnlessFailed}
use Rattle.afl_base.specs.Files.{State}
use Rattle.afl_base.specs.Sparing.{StandsStill}
use Rattle.afl_base.specs.declared.kind.FileError.{FileError}
use Rattle.coffee_layout.specs.declared.file.FileAt.{FileAt}
use Rattle.coffee_volume.specs.Lowest.{LooksFor, Provides, StepsTo, Stops}
use Rattle.coffee_volume.specs.Taking.{TakesForFile, TakesNone, TakesWithin}
use Rattle.coffee_volume.specs.Volumes.{AtEntry, EntryTable, FromTo, WhereTold}
use Rattle.coffee_volume.specs.declared.step.Step.{Step}

-- Where the bytes are told, a step with the file in a place takes free pages only for that file, and the
-- lowest ones. Where none were found, as many as the step needs were looked for, and none is taken.
pub record ChoosesPages {S T : Type 0} (state : S → State) (step : FileAt → Option Step) (id : ℕ) (from to : EntryTable) (before after : S) (result : Result T FileError) : Type 0 where
  pub taken : OnOk result (WhereTold state before after (λ old new. AtEntry to id (λ e. TakesWithin e old new)))
  pub lowest : OnOk result (WhereTold state before after (λ old new. FromTo from to id (λ e. StepsTo (step e) old new e)))
  pub looked : OnSpace result (λ need. WhereTold state before after (λ old new. AtEntry from id (λ e. LooksFor (step e) e need old new)))
  pub untaken : OnSpace result (λ _. WhereTold state before after TakesNone)

-- Where the bytes are told, `prepare` takes free pages only for the file of this name and its log, the lowest
-- ones, and no more than it needs. Where none were found, as many as it needs were looked for.
pub record ProvidesPages {S T : Type 0} (state : S → State) (given : List ℕ) (overwrites bytes : ℕ) (before after : S) (result : Result T FileError) : Type 0 where
  pub taken : UnlessFailed result (WhereTold state before after (TakesForFile given))
  pub lowest : OnOk result (WhereTold state before after (Provides given overwrites bytes))
  pub looked : OnSpace result (λ need. WhereTold state before after (Stops given overwrites bytes need))

-- The image and the entries stay, and the answer is not that pages are lacking.
pub record StepsNowhere {T : Type 0} (old new : List ℕ) (from to : EntryTable) (result : Result T FileError) : Type 0 where
  pub image : new ≡ old
  pub table : to ≡ from
  pub fits : OnSpace result (λ _. ⊥)

-- The storage stays whatever the answer is, which is not that pages are lacking; where it is Ok, nothing is asked
-- for that was not.
pub record AsksNothing {S T : Type 0} (state : S → State) (asks : S → ℕ → ℕ → ℕ → ℕ → Type 0) (before after : S) (result : Result T FileError) : Type 0 where
  pub store : (state after).store ≡ (state before).store
  pub fits : OnSpace result (λ _. ⊥)
  pub still : OnOk result (StandsStill state asks before after)
