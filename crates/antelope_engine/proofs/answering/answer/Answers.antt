use Rattle.std.proofs.Common.{◌≡◌, ℤ, refl}
use Rattle.db_model.specs.declared.commands.Command.{Command}
use Rattle.db_model.specs.declared.commands.Command.TheVariants.{Ask, Aggregate, CloseCursor, FetchCursor, OpenCursor}
use Rattle.db_model.specs.declared.commands.Query.{Query}
use Rattle.db_model.specs.Step.{Reads}
use Rattle.antelope_engine.specs.Writes.{WritesRows}
use Rattle.antelope_engine.proofs.answering.answer.Goals as goal

-- a command that writes no rows, and neither opens nor closes a cursor, changes more
reads_not : (c : Command) → (WritesRows c → ⊥) → ((number : ℤ) (query : Query) → c ≡ OpenCursor number query → ⊥)
    → ((number : ℤ) → c ≡ CloseCursor number → ⊥) → Reads c → ⊥
reads_not (Ask query) w o s r = w tt
reads_not (Aggregate list relation nodes) w o s r = w tt
reads_not (FetchCursor number) w o s r = w tt
reads_not (OpenCursor number query) w o s r = o number query refl
reads_not (CloseCursor number) w o s r = s number refl
reads_not _ w o s r = r

pub change-requires : goal.change-requires
change-requires g c = record {
  running = c.requires.running;
  changes = reads_not c.args.command.now c.requires.rows c.in_default.not-OpenCursor c.in_default.not-CloseCursor;
  command = c.requires.command;
}

pub returns-in-OpenCursor : goal.returns-in-OpenCursor
returns-in-OpenCursor g c = record { carried = rw c.in-OpenCursor.is c.open_cursor.ensures.carried }

pub returns-in-CloseCursor : goal.returns-in-CloseCursor
returns-in-CloseCursor g c = record { carried = rw c.in-CloseCursor.is c.close_cursor.ensures.carried }
