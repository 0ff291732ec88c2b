use Rattle.std.proofs.Common.{◌≡◌, ◌+◌, ◌*◌, ◌≤◌, drop}
use Rattle.db_model.specs.Row.{fields_length}
use Rattle.db_model.proofs.widths.fields_length.Given as goal

abbrev pub invariant-loop-attribute : goal.invariant-loop-attribute
invariant-loop-attribute l = record {
  sum : l.length + fields_length (drop l.attribute-index l.attributes) ≡ fields_length l.attributes;
  short : l.length ≤ 255 * l.attribute-index;
}
