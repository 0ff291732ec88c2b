use Rattle.coffee_merge.proofs.SoundTables.{sound_few, sound_held, sound_sparing}
use Rattle.coffee_merge.proofs.laws.sound_table.Goals as goal

pub returns : goal.returns
returns c = record { held = sound_held; few = sound_few; sparing = sound_sparing }
