use Rattle.std.proofs.Common.{◌≡◌, ℕ, ◌+◌, ◌≤◌, ◌<◌, ◌⊎◌, length, get_or}
use Rattle.flash_views.proofs.over.put_zeros.Given as goal

-- the bytes so far are zero where they are among the count, and all others are as they were
abbrev pub invariant-loop-i : goal.invariant-loop-i
invariant-loop-i l = record {
  size : length l.into ≡ length l.fn.into;
  zero : (k : ℕ) → k < l.i → l.from ≤ l.place + k → l.place + k < l.from + l.count → get_or l.into k 0 ≡ 0;
  other : (k : ℕ) → (l.place + k < l.from) ⊎ (l.from + l.count ≤ l.place + k) → get_or l.into k 0 ≡ get_or l.fn.into k 0;
}
