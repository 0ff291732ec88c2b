use Rattle.stored.proofs.SoundBase.{sound_base}
use Rattle.stored.proofs.sound_files_are_a_sound_database.Goals as goal

pub returns : goal.returns
returns c = sound_base
