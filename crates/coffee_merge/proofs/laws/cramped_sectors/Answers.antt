use Rattle.coffee_merge.proofs.CrampedImages.{cramped_shares}
use Rattle.coffee_merge.proofs.laws.cramped_sectors.Goals as goal

pub returns : goal.returns
returns c = cramped_shares
