use Rattle.stored.proofs.SoundCut.{sound_table_is_cut}
use Rattle.stored.proofs.sound_files_are_ones_that_a_cut_can_have_left.Goals as goal

pub returns : goal.returns
returns c = λ files size sound. sound_table_is_cut files sound size
