use Rattle.image_model.proofs.Erased.{erased_sound}
use Rattle.image_model.proofs.laws.erased_image_is_sound.Goals as goal

pub returns-clause-sound : goal.returns-clause-sound
returns-clause-sound c = erased_sound
