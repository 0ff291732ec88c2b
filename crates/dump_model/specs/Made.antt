-- The database that a script makes.
use Rattle.std.specs.Prelude.{◌≡◌, ℕ, ◌≤◌, List, [], ◌∷◌, map, length, flat_map, Result, Ok}
use Rattle.std.specs.List.{AllByRecursion}
use Rattle.db_model.specs.declared.commands.Command.{Command}
use Rattle.db_model.specs.declared.refusals.Refusal.{Refusal}
use Rattle.db_model.specs.Database.{Database, empty_database}
use Rattle.db_model.specs.ReplyText.{ok_text}
use Rattle.db_model.specs.Script.{Entry, Bytes, after, commands, last, output, whole}
use Rattle.db_model.specs.Step.{outcome, Reply, Fine}
use Rattle.dump_model.specs.Packed.{packed}
use Rattle.dump_model.specs.Script.{command_text, script, script_commands}

-- each command is replied to by `ok`, and they make the one database of the other
abbrev pub Makes : Database → List Command → Database → Type 0
Makes db [] made = db ≡ made
Makes db (c ∷ commands) made =
    (next : Database) × (outcome db c ≡ Ok (next, Fine)) × Makes next commands made

-- a text of at most 512 bytes
abbrev pub IsShortText : Command → Type 0
IsShortText command = length (command_text command) ≤ 512

abbrev pub IsFine : Reply → Type 0
IsFine reply = reply ≡ Fine

-- `read` reads the bytes of a command (see `Reading` of db_model)
module _ (read : List ℕ → Result Command Refusal) where
  -- the replies to the entries of a script
  abbrev pub replies_to : Database → List Entry → List Reply
  replies_to db [] = []
  replies_to db (entry ∷ entries) = (after read db entry).1 ∷ replies_to ((after read db entry).0) entries

  -- what the script of a database does to the database of an erased flash
  pub record MakesPacked (db : Database) : Type 0 where
    -- it is cut into the texts of its commands, and none is left unfinished
    pub cut : commands (script db) ≡ map (λ command. Bytes (command_text command)) (script_commands db)
    pub whole : whole (script db) ≡ commands (script db)
    pub short : AllByRecursion IsShortText (script_commands db)
    -- these make the packed database
    pub makes : Makes empty_database (script_commands db) (packed db)
    pub replies : AllByRecursion IsFine (replies_to empty_database (commands (script db)))
    pub output : output read empty_database (commands (script db)) ≡ flat_map (λ _. ok_text) (script_commands db)
    pub made : last read empty_database (commands (script db)) ≡ packed db
