use Rattle.std.proofs.Common.{◌≡◌, ◌≤◌, ◌<◌, ℕ, pos}
use Rattle.index_tree.specs.TreeFile.{key_at, slot_at}
use Rattle.index_maxheap.proofs.verifying.is_blank.Given as goal

abbrev pub invariant-loop-pair : goal.invariant-loop-pair
invariant-loop-pair l = (i : ℕ) → l.from ≤ i → i < l.pair → (slot_at l.bytes 0 i ≡ 0) × (key_at l.bytes 0 i ≡ pos 0)
