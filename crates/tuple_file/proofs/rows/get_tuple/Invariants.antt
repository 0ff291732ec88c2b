use Rattle.std.proofs.Common.{◌≡◌, ◌++◌, ◌≤◌, drop, length}
use Rattle.db_model.specs.Row.{fields_length, tuple_of}
use Rattle.tuple_file.proofs.rows.get_tuple.Given as goal

abbrev pub invariant-loop-attribute : goal.invariant-loop-attribute
invariant-loop-attribute l = record {
  tuple : l.into ++ tuple_of (drop l.attribute-index l.attribute-items) l.rest ≡ tuple_of l.attribute-items l.row;
  size : length l.into ≡ l.attribute-index;
  long : fields_length (drop l.attribute-index l.attribute-items) ≤ length l.rest;
}
