use Rattle.dump_model.proofs.PackedTwice.{packed_sound, packed_twice, same_script}
use Rattle.dump_model.proofs.packed_databases_have_the_same_script.Goals as goal

pub returns-clause-sound : goal.returns-clause-sound
returns-clause-sound c = packed_sound c.sound_databases_stay_sound.ensures.kept c.sound_databases_stay_sound.ensures.empty

pub returns-clause-script : goal.returns-clause-script
returns-clause-script c = same_script

pub returns-clause-twice : goal.returns-clause-twice
returns-clause-twice c = packed_twice
