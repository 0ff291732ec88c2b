use Rattle.std.proofs.Common.{◌≡◌, ◌≤◌, length, drop}
use Rattle.db_model.specs.Step.{fallen_from}
use Rattle.session_rows.specs.Refused.{is_ordered_by}
use Rattle.session_rows.proofs.suiting.fallen.Given as goal

abbrev pub invariant-loop-at : goal.invariant-loop-at
invariant-loop-at l = record {
  within : l.at ≤ length l.values;
  so_far : fallen_from (is_ordered_by l.indexes) 0 l.last l.values ≡ fallen_from (is_ordered_by l.indexes) l.at (drop l.at l.last) (drop l.at l.values);
}
