use Rattle.stored.proofs.Empty.{empty_base, empty_sound}
use Rattle.stored.proofs.no_files_are_an_empty_database.Goals as goal

pub returns-clause-base : goal.returns-clause-base
returns-clause-base c = empty_base

pub returns-clause-sound : goal.returns-clause-sound
returns-clause-sound c = empty_sound
