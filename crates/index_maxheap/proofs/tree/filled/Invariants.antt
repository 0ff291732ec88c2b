use Rattle.std.proofs.Common.{◌≢◌, ◌<◌, ℕ}
use Rattle.index_tree.specs.TreeFile.{slot_at}
use Rattle.index_maxheap.proofs.tree.filled.Given as goal

abbrev pub invariant-loop-pair : goal.invariant-loop-pair
invariant-loop-pair l = (i : ℕ) → i < l.pair → slot_at l.bytes 0 i ≢ 0
