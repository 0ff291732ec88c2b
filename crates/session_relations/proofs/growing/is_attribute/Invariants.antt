use Rattle.std.proofs.Common.{◌≡◌, drop}
use Rattle.db_model.specs.Item.{place_from, place_of}
use Rattle.session_relations.proofs.growing.is_attribute.Given as goal

abbrev pub invariant-loop-attribute : goal.invariant-loop-attribute
invariant-loop-attribute l = place_of l.name l.attributes ≡ place_from l.name l.attribute-index (drop l.attribute-index l.attributes)
