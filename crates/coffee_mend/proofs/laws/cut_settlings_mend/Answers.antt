use Rattle.coffee_mend.proofs.Settlings.{settling_mends}
use Rattle.coffee_mend.proofs.laws.cut_settlings_mend.Goals as goal

pub returns : goal.returns
returns c = settling_mends
