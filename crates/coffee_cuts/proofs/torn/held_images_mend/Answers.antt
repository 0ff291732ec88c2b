use Rattle.coffee_cuts.proofs.Drafts.{drafted_mends}
use Rattle.coffee_cuts.proofs.Mended.{whole_mends}
use Rattle.coffee_cuts.proofs.torn.held_images_mend.Goals as goal

pub returns : goal.returns
returns c = record { whole = whole_mends; drafted = drafted_mends }
