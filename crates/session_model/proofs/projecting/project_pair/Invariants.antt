use Rattle.std.proofs.Common.{◌≡◌, ◌≤◌, length, take}
use Rattle.session_model.specs.View.{project_pair}
use Rattle.session_model.proofs.projecting.project_pair.Given as goal

abbrev pub invariant-loop-side : goal.invariant-loop-side
invariant-loop-side l = record {
  into : l.into ≡ project_pair (take l.side-index l.side-items) (l.left, l.right);
  few : length l.side-items ≤ 8;
  size : length l.into ≡ l.side-index;
}
