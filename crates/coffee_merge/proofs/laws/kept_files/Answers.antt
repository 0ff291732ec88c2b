use Rattle.coffee_merge.proofs.MovedFiles.{moves_files, stays_files}
use Rattle.coffee_merge.proofs.laws.kept_files.Goals as goal

pub returns : goal.returns
returns c = record { stays = stays_files; moves = moves_files }
