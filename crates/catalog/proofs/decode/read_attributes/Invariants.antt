use Rattle.std.proofs.Common.{◌≡◌, true}
use Rattle.std.specs.List.{list_all}
use Rattle.db_model.specs.Catalog.{attributes_of}
use Rattle.catalog.specs.Rules.{is_attribute_slot}
use Rattle.catalog.proofs.decode.read_attributes.Given as goal

abbrev pub invariant-loop-j : goal.invariant-loop-j
invariant-loop-j l = record {
  read : l.attributes ≡ attributes_of l.j l.bytes;
  good : list_all (is_attribute_slot l.version) (attributes_of l.j l.bytes) ≡ true;
}
