-- Which commands write rows by themselves.
use Rattle.std.specs.Prelude.{⊤}
use Rattle.db_model.specs.declared.commands.Command.{Command}
use Rattle.db_model.specs.declared.commands.Command.TheVariants as command

-- a query, an aggregate or a FETCH writes each row as it is found
abbrev pub WritesRows : Command → Type 0
WritesRows (command.Ask query) = ⊤
WritesRows (command.Aggregate list relation nodes) = ⊤
WritesRows (command.FetchCursor number) = ⊤
WritesRows _ = ⊥
