use Rattle.coffee_cuts.proofs.Commits.{copied_mends}
use Rattle.coffee_cuts.proofs.torn.torn_replacings_mend.Goals as goal

pub returns : goal.returns
returns c = record { mends = copied_mends }
