-- What is said of a session after a command.
use Rattle.std.specs.Prelude.{◌≡◌, ◌≤◌, ℕ, true, false, List, IsTrue, IsErrOf, OnErr, OnOk, Option, Result}
use Rattle.afl_base.specs.declared.files.Files.{Ghosts as FilesOf}
use Rattle.afl_base.specs.declared.stream.Sink.{Ghosts as SinkOf}
use Rattle.afl_base.specs.Files.{State}
use Rattle.db_model.specs.declared.commands.Command.{Command}
use Rattle.db_model.specs.Ahead.{aheads_after}
use Rattle.db_model.specs.Database.{Database}
use Rattle.db_model.specs.ReplyText.{text}
use Rattle.db_model.specs.Step.{Reads, step}
use Rattle.session_model.specs.declared.step.Step.{Step}
use Rattle.afl_base.specs.declared.fault.Fault.{Fault}
use Rattle.afl_base.specs.declared.fault.Fault.TheVariants.{Flash}
use Rattle.session_model.specs.Carried.{MendsBetween}
use Rattle.session_model.specs.Steps.{WrotePart}
use Rattle.session_model.specs.Wanted.{WantsOver}
use Rattle.space_model.specs.Enough.{most}
use Rattle.antelope_engine.specs.Seen.{OnNothingDone, Seen}

-- a command needs n pages of the session's files, no more than are counted for it, and none is available
pub record LacksPages {V : Type 0} (state : V → State) (asks : V → ℕ → ℕ → ℕ → ℕ → Type 0) (lacks : V → ℕ → Type 0) (session : Seen V) (command : Command) (n : ℕ) : Type 0 where
  pub wants : WantsOver (asks session.files) (state session.files).files session.database command n
  pub few : n ≤ most session.database command
  pub none : lacks session.files n

-- the files tell what they told, and the command has moved what is ahead of the cursors
pub record GoesOn {V : Type 0} (state : V → State) (command : Command) (old new : Seen V) : Type 0 where
  pub tells : (state new.files).tells ≡ (state old.files).tells
  pub aheads : IsTrue (state old.files).tells → new.aheads ≡ aheads_after old.database old.aheads command

-- a session stops with its first fault, and has lost its files only where one of them failed
pub record StopsAtFault {V : Type 0} (result : Result Step Fault) (session : Seen V) : Type 0 where
  pub running : OnOk result (session.stopped ≡ false)
  pub stopped : OnErr result (session.stopped ≡ true)
  pub lost : session.lost ≡ true → IsErrOf result Flash

-- the files stay where nothing was done, and under a command that changes at most a cursor
pub record LeavesFiles {V : Type 0} (state : V → State) (command : Command) (result : Result Step Fault) (old new : V) : Type 0 where
  pub untouched : OnNothingDone result (state new ≡ state old)
  pub same : Reads command → state new ≡ state old

-- a command broke off: a part of its reply was written, and nothing where it changes more than a cursor; and where failures are
-- cuts, what the files are kept in mends to a database between that before the command and that after it
pub record IsBrokenOff {V K : Type 0} (v : FilesOf V) (k : SinkOf K) (command : Command) (before : Database) (files : V) (held now : K) : Type 0 where
  pub part : WrotePart (k.held held) (k.held now) (text (step before command).1)
  pub unsaid : (Reads command → ⊥) → now ≡ held
  pub mends : IsTrue v.cuts → MendsBetween v files before command
