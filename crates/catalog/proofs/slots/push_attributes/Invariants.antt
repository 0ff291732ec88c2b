use Rattle.std.proofs.Common.{◌≡◌, ◌+◌, ◌*◌, ◌++◌, flat_map, length, take}
use Rattle.db_model.specs.Catalog.{attribute_bytes}
use Rattle.catalog.proofs.slots.push_attributes.Given as goal

abbrev pub invariant-loop-attribute : goal.invariant-loop-attribute
invariant-loop-attribute l = record {
  pushed : l.slot ≡ l.fn.slot ++ flat_map attribute_bytes (take l.attribute-index l.attributes);
  long : length l.slot ≡ length l.fn.slot + 18 * l.attribute-index;
}
