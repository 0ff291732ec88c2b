-- What a command makes of the database of a session, and which calls leave its files.
use Rattle.std.specs.Prelude.{◌≡◌, ◌⊎◌, ◌+◌, ◌≤◌, IfOk, IsTrue, OnErr, OnOk, Result, length}
use Rattle.afl_base.specs.declared.failed.Failed.{Failed}
use Rattle.afl_base.specs.declared.files.Files.{Ghosts as FilesOf}
use Rattle.afl_base.specs.declared.stream.Sink.{Ghosts as SinkOf}
use Rattle.afl_base.specs.Keeping.{Changes}
use Rattle.afl_base.specs.Sparing.{TakesNoPage}
use Rattle.db_model.specs.declared.commands.Command.{Command}
use Rattle.db_model.specs.Ahead.{Aheads, aheads_after, cost_of}
use Rattle.db_model.specs.Between.{AreAlike, IsBetween}
use Rattle.db_model.specs.Database.{Database, bare}
use Rattle.db_model.specs.Sound.{IsSoundDatabase}
use Rattle.db_model.specs.Step.{Reads, step}
use Rattle.session_model.specs.declared.answer.Answer.{Answer}
use Rattle.session_model.specs.declared.base.Base.{Base}
use Rattle.session_model.specs.declared.step.Outcome.{Outcome}
use Rattle.afl_base.specs.declared.fault.Fault.{Fault}
use Rattle.session_model.specs.Aheads.{aheads_of}
use Rattle.session_model.specs.Answers.{OnDone, OnNoSpace, OnNothing}
use Rattle.session_model.specs.Running.{IsRunning}
use Rattle.session_model.specs.Steps.{Answers, HasFaultCause, Replies, UnlessFlash}
use Rattle.session_model.specs.View.{view}
use Rattle.session_model.specs.Wanted.{WantsFew, WantsNone}
use Rattle.stored.specs.Mends.{MendsToDatabase}

-- ---- what a base is seen as

-- what is so of a base as long as its files did not fail
abbrev pub Runs : {V : Type 0} → FilesOf V → Base V → Type 0
Runs v base = IsRunning (v.state base.files) base.tables base.held base.opens

-- its files tell their bytes
abbrev pub Tells : {V : Type 0} → FilesOf V → Base V → Type 0
Tells v base = IsTrue (v.state base.files).tells

abbrev pub database : {V : Type 0} → FilesOf V → Base V → Database
database v base = view (v.state base.files).files base.held base.opens

-- what its cursors have ahead
abbrev pub aheads : {V : Type 0} → FilesOf V → Base V → Aheads
aheads v base = aheads_of (v.state base.files).files base.opens

-- what its files are kept in mends to a database between one and what a command makes of that
abbrev pub MendsBetween : {V : Type 0} → FilesOf V → (files : V) → Database → Command → Type 0
MendsBetween v files before command = MendsToDatabase v.mends (v.state files).store (IsBetween before command)

-- one of two databases, but for its version, and without its cursors
abbrev pub IsEither : (before after : Database) → Database → Type 0
IsEither before after now = AreAlike now (bare before) ⊎ AreAlike now (bare after)

-- ---- commands that answer in one line

-- a command was carried out, by its answer; of a failure only `cut`, `same`, `reads` and the frame say something
pub record Carries {V : Type 0} (v : FilesOf V) (command : Command) (old new : Base V) (result : Result Answer Failed) : Type 0 where
  pub done : Tells v old → IfOk result (λ answer. Answers command (database v old) (database v new) answer)
  pub running : OnOk result (Runs v new)
  pub ahead : Tells v old → OnOk result (aheads v new ≡ aheads_after (database v old) (aheads v old) command)
  pub tells : OnOk result ((v.state new.files).tells ≡ (v.state old.files).tells)
  pub wants : Tells v old → OnNoSpace result (λ need.
      WantsFew (v.asks new.files) (v.state new.files).files (database v new) command need)
  pub lacks : OnNoSpace result (λ need. v.lacks new.files need)
  -- a command that needs no extent takes none
  pub spares : Tells v old → WantsNone (v.asks old.files) (v.state old.files).files (database v old) command
      → OnDone result (TakesNoPage v.is_free (v.state old.files).store (v.state new.files).store)
  -- where failures are cuts, the database before or after it, or, of a removal, one with some of the rows removed
  pub cut : IsTrue v.cuts → Tells v old → IsSoundDatabase (database v old) → OnErr result (MendsBetween v new.files (database v old) command)
  -- a refusal, and a removal of no row, leave the files and what they are kept in
  pub untouched : OnNothing result (v.state new.files ≡ v.state old.files)
  -- and so does a command that changes at most a cursor, where it fails, too
  pub same : Reads command → v.state new.files ≡ v.state old.files
  pub reads : Tells v old → Reads command
      → v.reads new.files ≤ v.reads old.files + cost_of (database v old) (aheads v old) command
  pub frame : Changes v.state v.lent v.reads v.faults old.files new.files result

-- ---- commands that write rows

-- a call that reads files and writes to a sink: the files stay, and both hold on to what they borrow
pub record Recites {V K T : Type 0} (v : FilesOf V) (k : SinkOf K) (old new : V) (before now : K) (result : Result T Fault) : Type 0 where
  pub same : v.state new ≡ v.state old
  pub lent : v.lent new ≡ v.lent old
  pub later : v.reads old ≤ v.reads new
  pub sink_lent : k.lent now ≡ k.lent before
  pub faultless : OnOk result (k.faults now ≡ k.faults before)
  pub cause : HasFaultCause (v.faults old) (v.faults new) (k.faults before) (k.faults now) result

-- a call that may change files and writes to a sink
pub record ChangesAndSends {V K T : Type 0} (v : FilesOf V) (k : SinkOf K) (old new : V) (before now : K) (result : Result T Fault) : Type 0 where
  pub store : length (v.state new).store ≡ length (v.state old).store
  pub lent : v.lent new ≡ v.lent old
  pub later : v.reads old ≤ v.reads new
  pub sink_lent : k.lent now ≡ k.lent before
  pub faultless : OnOk result (k.faults now ≡ k.faults before)
  pub cause : HasFaultCause (v.faults old) (v.faults new) (k.faults before) (k.faults now) result

-- a command was carried out that writes each row as it is found: its reply was written, or a part of it
pub record AnswersRows {V K : Type 0} (v : FilesOf V) (k : SinkOf K) (command : Command) (old new : Base V) (before now : K) (result : Result Outcome Fault) : Type 0 where
  pub reply : Tells v old → Replies ((step (database v old) command).1) result (k.held before) (k.held now)
  pub seen : Tells v old → UnlessFlash result (database v new ≡ (step (database v old) command).0)
  pub running : UnlessFlash result (Runs v new)
  pub ahead : Tells v old → UnlessFlash result (aheads v new ≡ aheads_after (database v old) (aheads v old) command)
  pub reads : Tells v old → IsSoundDatabase (database v old)
      → v.reads new.files ≤ v.reads old.files + cost_of (database v old) (aheads v old) command
  pub frame : Recites v k old.files new.files before now result
