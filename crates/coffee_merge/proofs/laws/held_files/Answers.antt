use Rattle.coffee_merge.proofs.MovedFiles.{held_listed}
use Rattle.coffee_merge.proofs.SoundFiles.{entry_file, file_entry}
use Rattle.coffee_merge.proofs.SoundHolders.{stored_size}
use Rattle.coffee_merge.proofs.laws.held_files.Goals as goal

pub returns : goal.returns
returns c = record { each = entry_file; only = file_entry; size = λ image table i e holds is. stored_size image e (holds.stored i e is); listed = held_listed }
