use Rattle.coffee_cuts.proofs.Commits.{removed_mends}
use Rattle.coffee_cuts.proofs.torn.torn_removals_mend.Goals as goal

pub returns : goal.returns
returns c = record { mends = λ whole new table e i t is cut. removed_mends whole table i e t is new cut }
