use Rattle.stored.proofs.Crowded.{crowded}
use Rattle.stored.proofs.crowded_files_have_too_few_sectors.Goals as goal

pub returns : goal.returns
returns c = crowded
