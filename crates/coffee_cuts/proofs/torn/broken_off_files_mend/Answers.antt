use Rattle.coffee_cuts.proofs.BrokenOff.{broken_off_mends}
use Rattle.coffee_cuts.proofs.torn.broken_off_files_mend.Goals as goal

pub returns : goal.returns
returns c = record { mends = broken_off_mends }
