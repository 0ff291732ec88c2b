-- What a run makes of given commands, after which it writes one line.
use Rattle.std.specs.Prelude.{◌≡◌, ◌⊎◌, ℕ, List, ◌++◌, Option}
use Rattle.std.specs.Io.KnownBytes.{append_known}
use Rattle.run_entries.specs.Carried.{Limits}
use Rattle.db_model.specs.declared.commands.Command.{Command}
use Rattle.db_model.specs.declared.refusals.Refusal.TheVariants as no
use Rattle.db_model.specs.Database.{Database}
use Rattle.db_model.specs.ReplyText.{refusal_text}
use Rattle.db_model.specs.Step.{after_all, replies}
use Rattle.db_model.specs.Workload.{nothing, tally, tally_text}
use Rattle.run_input.specs.declared.ending.Ending.{Ending}
use Rattle.run_input.specs.declared.ending.Ending.TheVariants.{Space, Flash, Sink}
use Rattle.reply_text.specs.WroteLess.{WroteLess}
use Rattle.run_generated.specs.Counted.{BreaksAtCommand, StopsAtCommand}

-- the line over commands
abbrev pub summed : Database → List Command → List ℕ
summed db commands = tally_text (tally nothing (replies db commands))

-- what is written where commands stop: the line over those that were replied to, and that there is no space for the next
abbrev pub summed_until : Database → List Command → ℕ → List ℕ
summed_until db front n = summed db front ++ refusal_text (no.Space n)

-- all were carried out, and the line over them was written
pub record SummedUp (commands : List Command) (old new : Database) (before now : Option (List ℕ)) : Type 0 where
  pub database : new ≡ after_all old commands
  pub held : now ≡ append_known before (summed old commands)

-- or less than the line
pub record LeftLineUnsaid (commands : List Command) (old new : Database) (before now : Option (List ℕ)) : Type 0 where
  pub database : new ≡ after_all old commands
  pub held : WroteLess before now (summed old commands)

module _ (limits : Limits) where
  -- they stopped where there was no space, and that was written
  pub record SaidNoRoom (commands : List Command) (old new : Database) (before now : Option (List ℕ)) : Type 0 where
    pub n : ℕ
    pub stops : StopsAtCommand limits commands old new n
    pub held : now ≡ append_known before (summed_until old stops.front n)

  -- or less than that
  pub record LeftSpaceUnsaid (commands : List Command) (old new : Database) (before now : Option (List ℕ)) : Type 0 where
    pub n : ℕ
    pub stops : StopsAtCommand limits commands old new n
    pub held : WroteLess before now (summed_until old stops.front n)

  -- why no more of them was carried out
  abbrev pub StopsCommands : List Command → Database → Database → Option (List ℕ) → Option (List ℕ) → Ending → Type 0
  StopsCommands commands old new before now Space = SaidNoRoom commands old new before now
  StopsCommands commands old new before now Sink = LeftLineUnsaid commands old new before now ⊎ LeftSpaceUnsaid commands old new before now
  StopsCommands commands old new before now Flash = (now ≡ before) × BreaksAtCommand limits commands old
