use Rattle.std.proofs.Common.{◌≡◌, drop, length}
use Rattle.std.specs.Prelude.{◌↔◌}
use Rattle.db_model.specs.Row.{row_length}
use Rattle.tuple_file.proofs.Judged.{IsRow}
use Rattle.stored_mend.proofs.rows.is_row.Given as goal

abbrev pub invariant-loop-attribute : goal.invariant-loop-attribute
invariant-loop-attribute l = record {
  same : IsRow (drop l.attribute-index l.attribute-items) l.rest ↔ IsRow l.attribute-items l.row;
  size : length l.rest ≡ row_length (drop l.attribute-index l.attribute-items);
}
