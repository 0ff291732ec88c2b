use Rattle.stored.proofs.HasFiles.{its_files}
use Rattle.stored.proofs.sound_catalogs_have_their_files.Goals as goal

pub returns : goal.returns
returns c = its_files
