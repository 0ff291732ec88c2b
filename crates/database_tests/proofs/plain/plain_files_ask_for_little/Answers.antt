use Rattle.database_tests.proofs.Little.{plain_little}
use Rattle.database_tests.proofs.plain.plain_files_ask_for_little.Goals as goal

pub returns : goal.returns
returns g c = plain_little _
