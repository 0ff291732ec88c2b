-- What a run came to, as the functions below `carry` say it.
use Rattle.std.specs.Prelude.{◌≡◌, ⊤, List, ℕ, Option, Result, Ok, Err}
use Rattle.std.specs.Io.KnownBytes.{IsAtEnd}
use Rattle.afl_base.specs.Causes.{Rose}
use Rattle.run_input.specs.declared.ending.Ending.TheVariants.{Flash, Sink}
use Rattle.run_input.specs.declared.ending.InputEnding.{InputEnding}
use Rattle.run_input.specs.declared.ending.InputEnding.TheVariants.{Input, Long, Early}
use Rattle.run_model.specs.Runs.{CameToLimit, World}
use Rattle.run_words.specs.declared.words.Form.{Form}
use Rattle.image_model.specs.Images.{IsSound}
use Rattle.antelope_run.specs.declared.came.Came.{Came}
use Rattle.antelope_run.specs.declared.came.Came.TheVariants.{Opened, Unsaid, Failed}
use Rattle.antelope_run.specs.Endings.{BrokenOff, LeavesImage}
use Rattle.antelope_run.specs.Promise.{TakesInput}
use Rattle.run_model.specs.Moments.{Counts}

-- where failures are cuts: what is left where the flash failed
abbrev pub BreaksBy : Form → World → World → Came → Type 0
BreaksBy form old new (Opened (Err (Early Flash))) = IsSound old.image × BrokenOff form old new
BreaksBy form old new Failed = LeavesImage old new × (new.held ≡ old.held)
BreaksBy form old new _ = ⊤

-- how far the bytes of an input came: to their end, or one byte past the limit
abbrev pub ReachesBy : Form → Result ⊤ InputEnding → (left left_now : Option (List ℕ)) → Type 0
ReachesBy form (Ok done) left left_now = TakesInput form → IsAtEnd left_now
ReachesBy form (Err Long) left left_now = CameToLimit left left_now
ReachesBy form _ left left_now = ⊤

-- P of what an opened session came to
abbrev pub OnOpened : Came → (Result ⊤ InputEnding → Type 0) → Type 0
OnOpened (Opened done) P = P done
OnOpened _ P = ⊤

-- P, where none was opened
abbrev pub OnUnopened : Came → Type 0 → Type 0
OnUnopened (Opened done) P = ⊤
OnUnopened _ P = P

-- what is said to have failed has counted it
pub record HasCameCause (old new : Counts) (came : Came) : Type 0 where
  pub input : came ≡ Opened (Err Input) → Rose old.input new.input
  pub flash_failed : came ≡ Opened (Err (Early Flash)) → Rose old.flash new.flash
  pub sink_failed : came ≡ Opened (Err (Early Sink)) → Rose old.sink new.sink
  pub unsaid : came ≡ Unsaid → Rose old.sink new.sink
  pub unopened : came ≡ Failed → Rose old.flash new.flash
