use Rattle.coffee_cuts.proofs.Drafts.{written_mends}
use Rattle.coffee_cuts.proofs.torn.written_drafts_mend.Goals as goal

pub returns : goal.returns
returns c = record { mends = written_mends }
