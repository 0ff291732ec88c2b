use Rattle.coffee_cuts.proofs.BrokenOff.{torn_collection_mends}
use Rattle.coffee_cuts.proofs.torn.torn_collections_mend.Goals as goal

pub returns : goal.returns
returns c = record { mends = torn_collection_mends }
