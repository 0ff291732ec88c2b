use Rattle.coffee_volume.proofs.MountedShares.{mounted_cramped}
use Rattle.coffee_volume.proofs.laws.cramped_volume_is_small.Goals as goal

pub returns : goal.returns
returns c = mounted_cramped
