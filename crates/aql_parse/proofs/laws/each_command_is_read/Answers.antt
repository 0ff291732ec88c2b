use Rattle.aql_parse.proofs.Readers.{some_reader}
use Rattle.aql_parse.proofs.laws.each_command_is_read.Goals as goal

pub returns : goal.returns
returns c = some_reader
