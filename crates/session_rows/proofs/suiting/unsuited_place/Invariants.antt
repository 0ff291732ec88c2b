use Rattle.std.proofs.Common.{◌≡◌, ◌≤◌, length, drop}
use Rattle.db_model.specs.Step.{unsuited_from}
use Rattle.session_rows.proofs.suiting.unsuited_place.Given as goal

abbrev pub invariant-loop-at : goal.invariant-loop-at
invariant-loop-at l = record {
  within : l.at ≤ length l.values;
  so_far : unsuited_from 0 l.attributes l.values ≡ unsuited_from l.at (drop l.at l.attributes) (drop l.at l.values);
}
