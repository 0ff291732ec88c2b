use Rattle.std.proofs.Common.{ℕ, ◌+◌, ◌*◌, ◌<◌}
use Rattle.std.specs.Prelude.{slice_range}
use Rattle.db_model.specs.Row.{row_length}
use Rattle.tuple_file.proofs.Judged.{IsRow}
use Rattle.tuple_file.proofs.rows.are_rows.Given as goal

abbrev pub invariant-loop-slot : goal.invariant-loop-slot
invariant-loop-slot l = record {
  each : (k : ℕ) → k < l.slot → IsRow l.attributes (slice_range l.bytes (row_length l.attributes * k) (row_length l.attributes * k + row_length l.attributes));
}
