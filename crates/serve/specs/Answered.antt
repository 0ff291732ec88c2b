-- What comes of an entry that a session is asked to answer.
use Rattle.std.specs.Prelude.{◌≡◌, ◌≤◌, ℕ, ◌+◌, [], ◌∷◌, IsOk, Result, Ok, Err}
use Rattle.std.specs.List.{AllByRecursion}
use Rattle.run_entries.specs.Carried.{Carried, Limits, Standing}
use Rattle.db_model.specs.declared.commands.Command.{Command}
use Rattle.db_model.specs.Ahead.{cost_of}
use Rattle.db_model.specs.ReplyText.{text}
use Rattle.db_model.specs.Step.{Reads, outcome}
use Rattle.reply_text.specs.WroteLess.{WroteLess}
use Rattle.run_model.specs.Talk.{AsksCommand, AsksToRead, Talk, after_entry, talk_costs}
use Rattle.session_model.specs.declared.step.Step.{Step}
use Rattle.session_model.specs.declared.step.Step.TheVariants.{Done, NoSpace}
use Rattle.afl_base.specs.declared.fault.Fault.{Fault}
use Rattle.afl_base.specs.declared.fault.Fault.TheVariants.{Flash, Sink}
use Rattle.session_model.specs.Steps.{WrotePart, outcome_of}

module _ {E : Type 0} (talk : Talk E) (entry : E) where
  -- where it only reads, it reads no more than is counted for it
  abbrev pub ReadsFew : Standing → Standing → Type 0
  ReadsFew old new = AllByRecursion (AsksToRead talk) (entry ∷ []) → new.reads ≤ old.reads + talk_costs talk old.database old.aheads (entry ∷ [])

  -- it asks for a command that is not refused and finds no space: nothing was written, and the database is as before
  pub record FindsNone (limits : Limits) (n : ℕ) (old new : Standing) : Type 0 where
    pub command : Command
    pub asks : AsksCommand talk entry command
    pub accepted : IsOk (outcome old.database command)
    pub lacks : limits.Lacks command n
    pub tells : new.tells ≡ old.tells
    pub database : new.database ≡ old.database
    pub held : new.held ≡ old.held
    pub reads : Reads command → new.reads ≤ old.reads + cost_of old.database old.aheads command

  -- it was carried out, and less than the reply was written
  pub record SaysLess (old new : Standing) : Type 0 where
    pub tells : new.tells ≡ old.tells
    pub database : new.database ≡ (after_entry talk old.database entry).0
    pub held : WroteLess old.held new.held (talk.sent entry (text ((after_entry talk old.database entry).1)))
    pub reads : ReadsFew old new

  -- it asks for a command that broke off: a part of the reply was written, and nothing where it changes more than a cursor
  pub record SaysPart (limits : Limits) (old new : Standing) : Type 0 where
    pub command : Command
    pub asks : AsksCommand talk entry command
    pub unsaid : (Reads command → ⊥) → new.held ≡ old.held
    pub breaks : limits.Breaks old.database command
    pub held : WrotePart old.held new.held (talk.sent entry (text ((after_entry talk old.database entry).1)))
    pub reads : ReadsFew old new

  -- by the answer to it
  abbrev pub Answered : Limits → Result Step Fault → Standing → Standing → Type 0
  Answered limits (Ok (Done came)) old new = Carried talk (entry ∷ []) old new × (outcome_of ((after_entry talk old.database entry).1) ≡ came)
  Answered limits (Ok (NoSpace n)) old new = FindsNone limits n old new
  Answered limits (Err Sink) old new = SaysLess old new
  Answered limits (Err Flash) old new = SaysPart limits old new
