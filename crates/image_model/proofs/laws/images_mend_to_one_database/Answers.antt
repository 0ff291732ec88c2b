use Rattle.image_model.proofs.OneBase.{one_base, sound_is, sound_mends, table_mends}
use Rattle.image_model.proofs.laws.images_mend_to_one_database.Goals as goal

pub returns-clause-one : goal.returns-clause-one
returns-clause-one c = one_base

pub returns-clause-sound : goal.returns-clause-sound
returns-clause-sound c = sound_is

pub returns-clause-itself : goal.returns-clause-itself
returns-clause-itself c = sound_mends

pub returns-clause-files : goal.returns-clause-files
returns-clause-files c = table_mends
