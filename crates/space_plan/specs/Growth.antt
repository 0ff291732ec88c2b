-- Commands that insert and read, and how many rows they bring.
use Rattle.std.specs.Prelude.{⊤, ℕ, ◌+◌, ◌≤◌, Bool, false, ◌&&◌, not, List, [], ◌∷◌, length, Result, Ok, Err, if◌then◌else◌}
use Rattle.std.specs.List.{AllByRecursion}
use Rattle.std.specs.Str.{bytes_eq}
use Rattle.db_model.specs.declared.commands.Command.{Command}
use Rattle.db_model.specs.declared.commands.Command.TheVariants as command
use Rattle.db_model.specs.declared.refusals.Refusal.{Refusal}
use Rattle.db_model.specs.Ahead.{is_refused}
use Rattle.db_model.specs.Database.{Relation, Database}
use Rattle.db_model.specs.Script.{Entry, Bytes}
use Rattle.db_model.specs.Sound.{StandsIn}
use Rattle.db_model.specs.Step.{Reads, step}

-- it is an INSERT, a query, an aggregate, an OPEN, a FETCH or a CLOSE
abbrev pub IsInsertOrRead : Command → Type 0
IsInsertOrRead (command.Insert values relation) = ⊤
IsInsertOrRead c = Reads c

-- whether it is an INSERT into the relation of a name
abbrev pub inserts_into : List ℕ → Command → Bool
inserts_into name (command.Insert values relation) = bytes_eq relation name
inserts_into name _ = false

-- whether a command brings a row to the relation of a name
abbrev pub brings_row : Database → List ℕ → Command → Bool
brings_row db name c = inserts_into name c && not (is_refused (step db c).1)

-- how many rows some commands bring to the relation of a name
abbrev pub rows_brought : Database → List Command → List ℕ → ℕ
rows_brought db [] name = 0
rows_brought db (c ∷ commands) name = (if brings_row db name c then 1 else 0) + rows_brought (step db c).0 commands name

-- commands that insert and read, and bring at most this many rows to the relation of each name
pub record KeepsToPlan (most : List ℕ → ℕ) (db : Database) (commands : List Command) : Type 0 where
  pub kinds : AllByRecursion IsInsertOrRead commands
  pub few : (name : List ℕ) → rows_brought db commands name ≤ most name

-- no relation has more than 32,768 rows
abbrev pub HasFewRows : Database → Type 0
HasFewRows db = (slot : ℕ) (r : Relation) → StandsIn db.relations slot r → length r.rows ≤ 32768

-- ---- the entries of a script

-- `read` reads the bytes of a command, or says why they are none (see `Reading`)
module _ (read : List ℕ → Result Command Refusal) where
  abbrev pub before_others : Result Command Refusal → List Command → List Command
  before_others (Ok c) commands = c ∷ commands
  before_others (Err refusal) commands = commands

  -- the commands among them; the others leave the database
  abbrev pub commands_of : List Entry → List Command
  commands_of [] = []
  commands_of (Bytes bytes ∷ entries) = before_others (read bytes) (commands_of entries)
  commands_of (_ ∷ entries) = commands_of entries
