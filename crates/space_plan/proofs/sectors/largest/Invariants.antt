use Rattle.std.proofs.Common.{◌≡◌, ◌≤◌, drop, max}
use Rattle.space_model.specs.Enough.{largest}
use Rattle.space_plan.proofs.sectors.largest.Given as goal

abbrev pub invariant-loop-size : goal.invariant-loop-size
invariant-loop-size l = record {
  most : max l.most (largest (drop l.size-index l.sizes)) ≡ largest l.sizes;
  few : l.most ≤ 32768;
}
