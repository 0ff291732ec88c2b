-- What a command that is handed in has to be.
use Rattle.std.specs.Prelude.{⊤}
use Rattle.db_model.specs.declared.commands.Command.{Command}
use Rattle.db_model.specs.declared.commands.Command.TheVariants as command
use Rattle.db_model.specs.declared.commands.Query.{Query}
use Rattle.db_model.specs.declared.commands.Query.TheVariants.{Select, Join}
use Rattle.db_model.specs.Cond.{IsCondition}

-- the nodes of a query's condition are none, or those of a condition
abbrev pub HasConditions : Query → Type 0
HasConditions (Select list name nodes) = IsCondition nodes
HasConditions (Join left right on list) = ⊤

-- and so are those of a command
abbrev pub IsWellFormed : Command → Type 0
IsWellFormed (command.Ask query) = HasConditions query
IsWellFormed (command.Aggregate list relation nodes) = IsCondition nodes
IsWellFormed (command.RemoveFrom relation nodes) = IsCondition nodes
IsWellFormed (command.OpenCursor number query) = HasConditions query
IsWellFormed _ = ⊤
