-- What is promised of a run: what it came to, what it leaves behind, when each status comes, and what it reads.
use Rattle.std.specs.Prelude.{◌≡◌, ◌≢◌, ◌⊎◌, ⊤, ℕ, ◌+◌, ◌-◌, ◌*◌, ◌/◌, ◌≤◌, Bool, IsTrue, List, length, Option, Some, None, Result, Ok, Err}
use Rattle.std.specs.Io.KnownBytes.{IsAtEnd}
use Rattle.afl_base.specs.declared.flash.Flash.{Ghosts as FlashOf}
use Rattle.afl_base.specs.declared.stream.Sink.{Ghosts as SinkOf}
use Rattle.afl_base.specs.Causes.{Rose}
use Rattle.db_model.specs.declared.commands.Command.{Command}
use Rattle.db_model.specs.declared.refusals.Refusal.{Refusal}
use Rattle.db_model.specs.Reading.{IsReader}
use Rattle.db_model.specs.RunCost.{opening_cost}
use Rattle.db_model.specs.Workload.{first_commands}
use Rattle.dump.specs.Parts.{slots_of_all}
use Rattle.run_input.specs.declared.ending.Ending.TheVariants.{Space, Flash, Sink}
use Rattle.run_input.specs.declared.ending.InputEnding.{InputEnding}
use Rattle.run_input.specs.declared.ending.InputEnding.TheVariants.{Input, Long, Early}
use Rattle.run_model.specs.Moments.{Counts, Moment}
use Rattle.run_model.specs.Runs.{CameToLimit, HasEnough, InputHasEnough, ReadsWithin, RefusalUnsaid, Refuses, World}
use Rattle.run_model.specs.Scripts.{script_line, script_talk}
use Rattle.run_words.specs.declared.words.Form.{Form}
use Rattle.run_words.specs.declared.words.Form.TheVariants.{Run, Gen, Plan, Serve, Dump, Look}
use Rattle.run_frames.specs.Frames.{frame_line}
use Rattle.run_frames.specs.Served.{serve_talk}
use Rattle.image_model.specs.Images.{IsSound, base}
use Rattle.antelope_run.specs.declared.came.Came.{Came}
use Rattle.antelope_run.specs.declared.came.Came.TheVariants.{Opened, Refused, Unsaid, Failed}
use Rattle.antelope_run.specs.Endings.{BrokenOff, LeavesBehind, LeavesImage, OnReader, summed_from}

-- ---- what a run came to, and its status

abbrev pub IsStatus : ℕ → Type 0
IsStatus s = (s ≡ 0) ⊎ (s ≡ 1) ⊎ (s ≡ 2) ⊎ (s ≡ 3) ⊎ (s ≡ 4) ⊎ (s ≡ 5) ⊎ (s ≡ 6) ⊎ (s ≡ 8)

abbrev pub status_of : Result ⊤ InputEnding → ℕ
status_of (Ok done) = 0
status_of (Err Input) = 2
status_of (Err (Early Space)) = 3
status_of (Err (Early Flash)) = 4
status_of (Err (Early Sink)) = 5
status_of (Err Long) = 8

abbrev pub status_by : Came → ℕ
status_by (Opened done) = status_of done
status_by Refused = 6
status_by Unsaid = 5
status_by Failed = 4

-- the image was sound and a session was opened; or the image is not sound, and that was written, or not wholly; or the flash
-- failed before a session was opened, and nothing was written
abbrev pub ComesTo : Form → World → World → Came → Type 0
ComesTo form old new (Opened done) = IsSound old.image × LeavesBehind form old new done
ComesTo form old new Refused = Refuses old new
ComesTo form old new Unsaid = RefusalUnsaid old new × (new.left ≡ old.left)
ComesTo form old new Failed = LeavesImage old new × (new.held ≡ old.held)

-- what a run leaves of the flash, the input and the sink, by its status
pub record LeftBy (status : ℕ) (form : Form) (old new : World) : Type 0 where
  pub came : Came
  pub is : status ≡ status_by came
  pub left : ComesTo form old new came

-- and at status 4, where failures are cuts of the power
abbrev pub EndsBrokenOff : Form → World → World → Type 0
EndsBrokenOff form old new = (LeavesImage old new × (new.held ≡ old.held)) ⊎ (IsSound old.image × BrokenOff form old new)

-- ---- what holds of every flash, input and sink

-- which of them counted a fault in the run, by the status
pub record CausedBy (status : ℕ) (old new : Counts) : Type 0 where
  pub input : status ≡ 2 → Rose old.input new.input
  pub flash : status ≡ 4 → Rose old.flash new.flash
  pub sink : status ≡ 5 → Rose old.sink new.sink

-- the words name an input
abbrev pub TakesInput : Form → Type 0
TakesInput Run = ⊤
TakesInput Serve = ⊤
TakesInput _ = ⊥

-- what was taken of the input, by the status: it is unread where the words name none, and where the image was refused
pub record TakenBy {S : Type 0} (left : S → Option (List ℕ)) (status : ℕ) (form : Form) (old new : S) : Type 0 where
  pub unread : status ≡ 6 → new ≡ old
  pub untouched : (TakesInput form → ⊥) → new ≡ old
  pub at_end : status ≡ 0 → TakesInput form → IsAtEnd (left new)
  pub one_more : status ≡ 8 → CameToLimit (left old) (left new)

-- the flash has its size, and flash and sink hold on to what they borrow
pub record BorrowsTheSame {F K : Type 0} (f : FlashOf F) (k : SinkOf K) (old new : F) (before now : K) : Type 0 where
  pub size : length (f.image new) ≡ length (f.image old)
  pub lent : f.lent new ≡ f.lent old
  pub sink_lent : k.lent now ≡ k.lent before

-- ---- when a run ends well

-- the input, where the words name one, is told and within the limit
abbrev pub IsWithinLimit : Form → Option (List ℕ) → Type 0
IsWithinLimit form left = TakesInput form → (text : List ℕ) × (left ≡ Some text) × (length text ≤ 16777216)

-- no fault was counted
pub record NothingFailed (old new : Counts) : Type 0 where
  pub input : Rose old.input new.input → ⊥
  pub flash : Rose old.flash new.flash → ⊥
  pub sink : Rose old.sink new.sink → ⊥

-- the flash has enough sectors before each command, where the input is told
abbrev pub HasSpace : Form → World → Type 0
HasSpace Run old = (old.left ≢ None) × (read : List ℕ → Result Command Refusal) × IsReader read × InputHasEnough script_line (script_talk read) old
HasSpace Serve old = (old.left ≢ None) × (read : List ℕ → Result Command Refusal) × IsReader read × InputHasEnough frame_line (serve_talk read) old
HasSpace (Gen seed count) old = HasEnough (summed_from (base old.image)) (length old.image / 4096) (first_commands seed count)
HasSpace (Plan rows) old = ⊤
HasSpace Dump old = ⊤
HasSpace Look old = ⊤

-- ---- how many pages are read at most

-- to judge and open an image; and to read its rows, six more for each slot of a relation
abbrev pub opening_reads : World → ℕ
opening_reads old = opening_cost (base old.image) (length old.image / 256)

abbrev pub scanning_reads : World → ℕ
scanning_reads old = opening_reads old + 6 * slots_of_all (base old.image).relations

-- an input whose entries only read, so many more; for generated commands, which change files, there is no bound
abbrev pub CarriesWithin : Form → World → ℕ → Type 0
CarriesWithin Run old n = OnReader (λ read. ReadsWithin script_line (script_talk read) old n)
CarriesWithin Serve old n = OnReader (λ read. ReadsWithin frame_line (serve_talk read) old n)
CarriesWithin (Gen seed count) old n = ⊤
CarriesWithin (Plan rows) old n = n ≤ opening_reads old
CarriesWithin Dump old n = n ≤ scanning_reads old
CarriesWithin Look old n = n ≤ scanning_reads old + length old.image / 256

-- an image that is refused is judged alone
pub record ReadsAtMost (form : Form) (old : World) (n : ℕ) : Type 0 where
  pub refused : (IsSound old.image → ⊥) → n ≤ opening_reads old
  pub carried : CarriesWithin form old n

-- ---- all of it, of a flash that tells its image

pub record KeepsPromise (form : Form) (cuts : Bool) (status : ℕ) (old new : Moment) : Type 0 where
  pub told : LeftBy status form old.world new.world
  pub broken_off : IsTrue cuts → status ≡ 4 → EndsBrokenOff form old.world new.world
  pub unsound : (IsSound old.world.image → ⊥) → (status ≡ 4) ⊎ (status ≡ 5) ⊎ (status ≡ 6)
  pub no_fault : IsSound old.world.image → IsWithinLimit form old.world.left → NothingFailed old.counts new.counts
      → (status ≡ 0) ⊎ (status ≡ 3)
  pub suffices : IsSound old.world.image → HasSpace form old.world → status ≢ 3
  pub reads : ReadsAtMost form old.world (new.reads - old.reads)
