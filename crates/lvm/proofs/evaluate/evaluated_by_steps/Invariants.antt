use Rattle.std.proofs.Common.{◌≡◌, ◌≤◌, [], length, drop}
use Rattle.lvm.specs.Evaluate as spec
use Rattle.lvm.specs.Lent.{items_of}
use Rattle.lvm.proofs.evaluate.evaluated_by_steps.Given as goal

abbrev pub invariant-loop-instruction : goal.invariant-loop-instruction
invariant-loop-instruction g l = record {
  result : spec.evaluated l.instructions (g.V.Values.values l.values) [] ≡ spec.evaluated (drop l.instruction-index l.instructions) (g.V.Values.values l.values) (items_of l.stack);
  room : length l.stack ≤ l.instruction-index;
}
