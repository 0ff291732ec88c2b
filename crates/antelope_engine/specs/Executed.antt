-- What a session makes of a command and its reply.
use Rattle.std.specs.Prelude.{◌≡◌, ◌+◌, ◌≤◌, IfOk, IsErrOf, Result}
use Rattle.afl_base.specs.declared.files.Files.{Ghosts as FilesOf}
use Rattle.afl_base.specs.declared.stream.Sink.{Ghosts as SinkOf}
use Rattle.afl_base.specs.Sparing.{TakesNoPage}
use Rattle.db_model.specs.declared.commands.Command.{Command}
use Rattle.db_model.specs.Ahead.{aheads_after, cost_of}
use Rattle.db_model.specs.ReplyText.{text}
use Rattle.db_model.specs.Step.{Reads, outcome, step}
use Rattle.reply_text.specs.WroteLess.{WroteLess}
use Rattle.session_model.specs.declared.base.Base.{Base}
use Rattle.session_model.specs.declared.step.Step.{Step}
use Rattle.afl_base.specs.declared.fault.Fault.{Fault}
use Rattle.afl_base.specs.declared.fault.Fault.TheVariants.{Flash, Sink}
use Rattle.session_model.specs.Carried.{ChangesAndSends, Runs, Tells, aheads, database}
use Rattle.session_model.specs.Steps.{Does, UnlessFlash}
use Rattle.session_model.specs.Wanted.{WantsNone, WantsOver}
use Rattle.space_model.specs.Enough.{most}
use Rattle.antelope_engine.specs.Commands.{IsBrokenOff}
use Rattle.antelope_engine.specs.Seen.{WhereDone, WhereNoSpace, OnNothingDone}

-- a command was carried out and its reply written, and took no extent where it needs none; or there was no space for it, and
-- nothing was written; or what of the reply was written before a fault
pub record Executes {V K : Type 0} (v : FilesOf V) (k : SinkOf K) (command : Command) (old new : Base V) (before now : K) (result : Result Step Fault) : Type 0 where
  pub done : Tells v old → IfOk result (λ came.
      Does (outcome (database v old) command) (database v old) (database v new) came (k.held before) (k.held now))
  pub sink : Tells v old → IsErrOf result Sink → (database v new ≡ (step (database v old) command).0)
      × WroteLess (k.held before) (k.held now) (text (step (database v old) command).1)
  pub flash : Tells v old → IsErrOf result Flash → IsBrokenOff v k command (database v old) new.files before now
  pub silent : WhereNoSpace result (λ need. k.held now ≡ k.held before)
  pub wants : Tells v old → WhereNoSpace result (λ need.
      WantsOver (v.asks new.files) (v.state new.files).files (database v old) command need)
  pub fewest : Tells v old → WhereNoSpace result (λ need. need ≤ most (database v old) command)
  pub spares : Tells v old → WantsNone (v.asks old.files) (v.state old.files).files (database v old) command
      → WhereDone result (TakesNoPage v.is_free (v.state old.files).store (v.state new.files).store)
  pub lacks : WhereNoSpace result (λ need. v.lacks new.files need)
  pub ahead : Tells v old → UnlessFlash result (aheads v new ≡ aheads_after (database v old) (aheads v old) command)
  pub tells : UnlessFlash result ((v.state new.files).tells ≡ (v.state old.files).tells)
  pub running : UnlessFlash result (Runs v new)
  pub untouched : OnNothingDone result (v.state new.files ≡ v.state old.files)
  pub same : Reads command → v.state new.files ≡ v.state old.files
  pub reads : Tells v old → Reads command
      → v.reads new.files ≤ v.reads old.files + cost_of (database v old) (aheads v old) command
  pub frame : ChangesAndSends v k old.files new.files before now result
