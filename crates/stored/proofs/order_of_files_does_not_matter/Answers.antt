use Rattle.stored.proofs.FilesOf.{in_table}
use Rattle.stored.proofs.SameBase.{base_same, sound_same}
use Rattle.stored.proofs.SameCut.{cut_same}
use Rattle.stored.proofs.order_of_files_does_not_matter.Goals as goal

pub returns-clause-base : goal.returns-clause-base
returns-clause-base c = base_same

pub returns-clause-sound : goal.returns-clause-sound
returns-clause-sound c = λ old new d k s size t. sound_same old new d k s (in_table old size) t

pub returns-clause-cut : goal.returns-clause-cut
returns-clause-cut c = cut_same
