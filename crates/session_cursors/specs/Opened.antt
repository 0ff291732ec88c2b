-- What an OPEN begins.
use Rattle.std.specs.Prelude.{◌≡◌, Ok, Some}
use Rattle.afl_base.specs.Files.{Table}
use Rattle.db_model.specs.declared.commands.Query.{Query}
use Rattle.db_model.specs.Ahead.{opened}
use Rattle.db_model.specs.Database.{Database}
use Rattle.db_model.specs.Step.{answer_of, relations_read}
use Rattle.session_model.specs.declared.held.Open.{Open}
use Rattle.session_model.specs.Aheads.{ahead_in}
use Rattle.session_model.specs.View.{cursor_in}

-- an open cursor has the whole answer of a query to come, and ahead what the machine's has
pub record BeginsAnswer (db : Database) (files : Table) (query : Query) (o : Open) : Type 0 where
  pub rows : answer_of db query ≡ Ok (cursor_in files o).rows
  pub reads : (cursor_in files o).reads ≡ relations_read query
  pub ahead : opened db query ≡ Some (ahead_in files o)
