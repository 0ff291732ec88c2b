use Rattle.coffee_cuts.proofs.TornContents.{appended_mends, overwritten_mends}
use Rattle.coffee_cuts.proofs.torn.torn_contents_mend.Goals as goal

pub returns : goal.returns
returns c = record { overwritten = overwritten_mends; appended = appended_mends }
