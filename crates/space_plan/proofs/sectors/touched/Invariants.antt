use Rattle.std.proofs.Common.{◌≡◌, ◌+◌, ◌*◌, ◌≤◌, drop, map}
use Rattle.db_model.specs.Cost.{sum}
use Rattle.space_model.specs.Enough.{touched}
use Rattle.space_plan.proofs.sectors.touched.Given as goal

abbrev pub invariant-loop-size : goal.invariant-loop-size
invariant-loop-size l = record {
  sum : l.sectors + sum (map touched (drop l.size-index l.sizes)) ≡ sum (map touched l.sizes);
  few : l.sectors ≤ 4097 * l.size-index;
}
