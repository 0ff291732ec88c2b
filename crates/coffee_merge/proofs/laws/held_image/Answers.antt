use Rattle.coffee_merge.proofs.MovedFiles.{held_place}
use Rattle.coffee_merge.proofs.SoundImages.{held_rule, held_sound}
use Rattle.coffee_merge.proofs.laws.held_image.Goals as goal

pub returns : goal.returns
returns c = record { sound = held_sound; rule = held_rule; place = held_place }
