use Rattle.std.proofs.Common.{◌≡◌, ◌++◌, ◌≤◌, drop, length}
use Rattle.session_model.specs.Indexed.{infos_of}
use Rattle.session_model.proofs.finding.indexes_of.Given as goal

abbrev pub invariant-loop-i : goal.invariant-loop-i
invariant-loop-i l = record {
  so_far : infos_of l.relation l.tuples l.slots ≡ l.infos ++ infos_of l.relation l.tuples (drop l.i l.slots);
  few : length l.infos ≤ l.i;
}
