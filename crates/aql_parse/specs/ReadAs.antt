-- What an answer and the command beside it say together.
use Rattle.std.specs.Prelude.{Result, Ok, Err}
use Rattle.db_model.specs.declared.commands.Command.{Command}
use Rattle.db_model.specs.declared.refusals.Refusal.{Refusal}

-- the command where the answer is Ok, else the refusal
abbrev pub read_as : {A : Type 0} → Result A Refusal → Command → Result Command Refusal
read_as (Ok done) command = Ok command
read_as (Err refusal) command = Err refusal
