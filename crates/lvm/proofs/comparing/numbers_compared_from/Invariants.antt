use Rattle.std.proofs.Common.{◌<◌, ◌≤◌, ◌-◌, Some, length}
use Rattle.lvm.specs.Evaluate.{Number, PutsItem}
use Rattle.lvm.specs.Lent.{IsRead}
use Rattle.lvm.proofs.comparing.numbers_compared_from.Given as goal

abbrev pub invariant-loop-left : goal.invariant-loop-left
invariant-loop-left g l = record {
  value : PutsItem l.fn.instructions (g.V.Values.values l.fn.values) l.fn.from l.left.next (Number (Some l.left.number));
  onward : l.fn.from < l.left.next;
  within : l.left.next ≤ length l.fn.instructions;
  read : IsRead (g.V.Values.values l.fn.values) l.last;
}

abbrev pub decreases-loop-left : goal.decreases-loop-left
decreases-loop-left g l = length l.instructions - l.left.next
