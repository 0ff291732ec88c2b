use Rattle.std.proofs.Common.{◌<◌, ◌≤◌, ◌-◌, Some, length}
use Rattle.lvm.specs.Evaluate.{Number, PutsItem}
use Rattle.lvm.specs.Lent.{IsRead}
use Rattle.lvm.proofs.comparing.sum_from.Given as goal

abbrev pub invariant-loop-sum : goal.invariant-loop-sum
invariant-loop-sum g l = record {
  value : PutsItem l.fn.instructions (g.V.Values.values l.fn.values) l.fn.from l.sum.next (Number (Some l.sum.number));
  onward : l.fn.from < l.sum.next;
  within : l.sum.next ≤ length l.fn.instructions;
  read : IsRead (g.V.Values.values l.fn.values) l.last;
}

abbrev pub decreases-loop-sum : goal.decreases-loop-sum
decreases-loop-sum g l = length l.instructions - l.sum.next
