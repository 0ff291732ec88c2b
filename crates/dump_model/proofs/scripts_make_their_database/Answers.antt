use Rattle.dump_model.proofs.Made.{script_makes}
use Rattle.dump_model.proofs.scripts_make_their_database.Goals as goal

pub returns : goal.returns
returns c = script_makes c.readings_are_unique.ensures.reading
