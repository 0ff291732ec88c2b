use Rattle.std.proofs.Common.{◌≡◌, ◌≤◌, length, take}
use Rattle.db_model.specs.Row.{tuple_of}
use Rattle.session_model.specs.View.{project}
use Rattle.session_queries.proofs.listed.gather.Given as goal

abbrev pub invariant-loop-place : goal.invariant-loop-place
invariant-loop-place l = record {
  into : l.into ≡ project (take l.place-index l.place-items) (tuple_of l.attributes l.row);
  few : length l.place-items ≤ 8;
  size : length l.into ≡ l.place-index;
}
