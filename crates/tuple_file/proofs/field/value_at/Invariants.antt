use Rattle.std.proofs.Common.{◌≡◌, ◌≤◌, drop, length, slice_get}
use Rattle.db_model.specs.Row.{fields_length, tuple_of}
use Rattle.tuple_file.proofs.field.value_at.Given as goal

abbrev pub invariant-loop-attribute : goal.invariant-loop-attribute
invariant-loop-attribute l = record {
  value : slice_get (tuple_of l.attributes l.row) l.place ≡ slice_get (tuple_of (drop l.attribute-index l.attributes) l.rest) l.before;
  long : fields_length (drop l.attribute-index l.attributes) ≤ length l.rest;
}
