use Rattle.std.proofs.Common.{◌≡◌, ℕ, ◌-◌, ◌≤◌, ◌<◌}
use Rattle.std.specs.Prelude.{slice_index}
use Rattle.coffee_find.proofs.behind.is_zero_from.Given as goal

-- all bytes so far are zero
abbrev pub invariant-loop-at : goal.invariant-loop-at
invariant-loop-at l = (l.fn.from ≤ l.at) × ((l.at ≤ 128) × ((k : ℕ) → l.fn.from ≤ k → k < l.at → slice_index l.bytes k ≡ 0))

abbrev pub decreases-loop-at : goal.decreases-loop-at
decreases-loop-at l = 128 - l.at
