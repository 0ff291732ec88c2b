use Rattle.stored.proofs.StoreOf.{store_of}
use Rattle.stored.proofs.sound_files_have_their_sizes.Goals as goal

pub returns : goal.returns
returns c = store_of
