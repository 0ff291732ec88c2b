use Rattle.std.proofs.Common.{◌≡◌, drop}
use Rattle.db_model.specs.Database.{is_among}
use Rattle.db_model.specs.Sound.{attribute_names}
use Rattle.catalog.proofs.decode.is_among.Given as goal

abbrev pub invariant-loop-attribute : goal.invariant-loop-attribute
invariant-loop-attribute l = is_among l.name (attribute_names l.attributes) ≡ is_among l.name (attribute_names (drop l.attribute-index l.attributes))
