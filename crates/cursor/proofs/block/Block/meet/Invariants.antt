use Rattle.std.proofs.Common.{◌≡◌, ◌<◌, ◌≤◌, ℕ, Some}
use Rattle.cursor.specs.Blocks.{LiesBetween, number_held}
use Rattle.cursor.proofs.block.Block.meet.Given as goal

abbrev pub invariant-loop-nth : goal.invariant-loop-nth
invariant-loop-nth l = record {
  kept : l.self ≡ record l.fn.self { firsts = l.self.firsts; ends = l.self.ends };
  widens : (k s : ℕ) → LiesBetween l.fn.self k s → LiesBetween l.self k s;
  meets : (k : ℕ) → l.first ≤ k → k < l.nth → number_held l.fn.self k ≡ Some l.number → LiesBetween l.self k l.slot;
}
