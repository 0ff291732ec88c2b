use Rattle.coffee_cuts.proofs.BrokenOff.{torn_extent_mends}
use Rattle.coffee_cuts.proofs.Logs.{torn_log_mends}
use Rattle.coffee_cuts.proofs.torn.torn_headers_mend.Goals as goal

pub returns : goal.returns
returns c = record { extent = torn_extent_mends; log = torn_log_mends }
