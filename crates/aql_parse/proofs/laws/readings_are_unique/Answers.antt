use Rattle.aql_parse.proofs.ReadRight.{one_command, one_condition, one_reading}
use Rattle.aql_parse.proofs.laws.readings_are_unique.Goals as goal

pub returns-clause-command : goal.returns-clause-command
returns-clause-command c = one_command

pub returns-clause-condition : goal.returns-clause-condition
returns-clause-condition c = one_condition c.conditions_are_read_back.ensures.back

pub returns-clause-reading : goal.returns-clause-reading
returns-clause-reading c = one_reading
