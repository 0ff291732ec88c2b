-- How the entries of an input are answered, one after the other.
use Rattle.std.specs.Prelude.{◌≡◌, ℕ, ◌+◌, List, [], ◌∷◌, ◌++◌, Result, Ok, Err}
use Rattle.db_model.specs.declared.commands.Command.{Command}
use Rattle.db_model.specs.declared.refusals.Refusal.{Refusal}
use Rattle.db_model.specs.Ahead.{Aheads, aheads_after, cost_of}
use Rattle.db_model.specs.Database.{Database}
use Rattle.db_model.specs.ReplyText.{text}
use Rattle.db_model.specs.Step.{Reads, Refused, Reply, step}

-- what is heard in an entry: the command that it asks for, or why it is refused; and what is sent for the text of a reply to it
pub record Talk (E : Type 0) : Type 0 where
  pub heard : E → Result Command Refusal
  pub sent : E → List ℕ → List ℕ

-- the database after it, and the reply
abbrev pub answered : Database → Result Command Refusal → Database × Reply
answered db (Ok command) = step db command
answered db (Err refusal) = (db, Refused refusal)

-- what the cursors have ahead after it
abbrev pub aheads_answered : Database → Aheads → Result Command Refusal → Aheads
aheads_answered db aheads (Ok command) = aheads_after db aheads command
aheads_answered db aheads (Err refusal) = aheads

-- what it may read
abbrev pub cost_answered : Database → Aheads → Result Command Refusal → ℕ
cost_answered db aheads (Ok command) = cost_of db aheads command
cost_answered db aheads (Err refusal) = 0

module _ {E : Type 0} (talk : Talk E) where
  abbrev pub AsksCommand : E → Command → Type 0
  AsksCommand entry command = talk.heard entry ≡ Ok command

  -- it only reads, or is refused before it is carried out
  abbrev pub AsksToRead : E → Type 0
  AsksToRead entry = (command : Command) → AsksCommand entry command → Reads command

  -- the database after an entry, and the reply to it
  abbrev pub after_entry : Database → E → Database × Reply
  after_entry db entry = answered db (talk.heard entry)

  -- what is written for entries, one after the other
  abbrev pub talk_output : Database → List E → List ℕ
  talk_output db [] = []
  talk_output db (entry ∷ entries) = talk.sent entry (text ((after_entry db entry).1)) ++ talk_output ((after_entry db entry).0) entries

  -- the database after all of them
  abbrev pub last_database : Database → List E → Database
  last_database db [] = db
  last_database db (entry ∷ entries) = last_database ((after_entry db entry).0) entries

  -- what the cursors have ahead then
  abbrev pub talk_aheads : Database → Aheads → List E → Aheads
  talk_aheads db aheads [] = aheads
  talk_aheads db aheads (entry ∷ entries) = talk_aheads ((after_entry db entry).0) (aheads_answered db aheads (talk.heard entry)) entries

  -- what they may read
  abbrev pub talk_costs : Database → Aheads → List E → ℕ
  talk_costs db aheads [] = 0
  talk_costs db aheads (entry ∷ entries) =
      cost_answered db aheads (talk.heard entry) + talk_costs ((after_entry db entry).0) (aheads_answered db aheads (talk.heard entry)) entries
