use Rattle.std.proofs.Common.{◌≡◌, ◌+◌, drop}
use Rattle.afl_base.specs.Fields.{put_at}
use Rattle.db_model.specs.Row.{AllSuit, fields_bytes, fields_length}
use Rattle.tuple_file.proofs.rows.put_row.Given as goal

abbrev pub invariant-loop-i : goal.invariant-loop-i
invariant-loop-i l = record {
  row : put_at l.row l.at (fields_bytes (drop l.i l.attribute-items) (drop l.i l.tuple)) ≡ put_at l.initial.row 0 (fields_bytes l.attribute-items l.tuple);
  place : l.at + fields_length (drop l.i l.attribute-items) ≡ fields_length l.attribute-items;
  suits : AllSuit (drop l.i l.attribute-items) (drop l.i l.tuple);
}
