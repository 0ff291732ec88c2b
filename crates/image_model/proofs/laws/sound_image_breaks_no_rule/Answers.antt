use Rattle.image_model.proofs.Judged.{sound_unbroken}
use Rattle.image_model.proofs.laws.sound_image_breaks_no_rule.Goals as goal

pub returns : goal.returns
returns c = sound_unbroken
