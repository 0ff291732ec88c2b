use Rattle.coffee_cuts.proofs.Logs.{naming_mends}
use Rattle.coffee_cuts.proofs.torn.torn_namings_mend.Goals as goal

pub returns : goal.returns
returns c = record { mends = naming_mends }
