use Rattle.std.proofs.Common.{◌≡◌, ◌⊎◌, ◌<◌, ◌+◌, ◌-◌, ◌*◌, ◌%◌, ℕ, get_or}
use Rattle.afl_base.specs.Fields.{u16_at}
use Rattle.index_maxheap.proofs.verifying.are_done.Given as goal

abbrev pub invariant-loop-node : goal.invariant-loop-node
invariant-loop-node l = (n : ℕ) → n < l.node → ((get_or l.seen.loads n 0 ≡ 0) × (u16_at l.heads (2 * n) ≡ 0)) ⊎ ((0 < get_or l.seen.loads n 0) × (get_or l.seen.fills n 0 ≡ (get_or l.seen.loads n 0 - 1) % 32 + 1) × (get_or l.seen.nexts n 0 ≡ 0))
