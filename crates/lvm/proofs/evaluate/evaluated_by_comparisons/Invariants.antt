use Rattle.std.proofs.Common.{◌≡◌, ◌≤◌, ◌-◌, [], drop, length, map}
use Rattle.lvm.specs.Evaluate as spec
use Rattle.lvm.specs.Evaluate.{Truth}
use Rattle.lvm.specs.Lent.{IsRead}
use Rattle.lvm.proofs.evaluate.evaluated_by_comparisons.Given as goal

abbrev pub invariant-loop-at : goal.invariant-loop-at
invariant-loop-at g l = record {
  value : spec.evaluated l.fn.instructions (g.V.Values.values l.fn.values) [] ≡ spec.evaluated (drop l.at l.fn.instructions) (g.V.Values.values l.fn.values) (map Truth l.truths);
  within : l.at ≤ length l.fn.instructions;
  room : length l.truths ≤ l.at;
  read : IsRead (g.V.Values.values l.fn.values) l.last;
}

abbrev pub decreases-loop-at : goal.decreases-loop-at
decreases-loop-at g l = length l.instructions - l.at
