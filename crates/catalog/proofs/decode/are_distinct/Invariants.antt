use Rattle.std.proofs.Common.{◌≡◌, drop}
use Rattle.db_model.specs.Sound.{are_distinct, attribute_names}
use Rattle.catalog.proofs.decode.are_distinct.Given as goal

abbrev pub invariant-loop-at : goal.invariant-loop-at
invariant-loop-at l = are_distinct (attribute_names l.attributes) ≡ are_distinct (attribute_names (drop l.at l.attributes))
