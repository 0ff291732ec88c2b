use Rattle.std.proofs.Common.{◌≡◌, ℕ, ◌-◌, ◌≤◌, ◌<◌}
use Rattle.std.specs.Prelude.{slice_index}
use Rattle.coffee_find.proofs.behind.same_front.Given as goal

-- all bytes so far are the same
abbrev pub invariant-loop-done : goal.invariant-loop-done
invariant-loop-done l = (l.done ≤ 128) × ((k : ℕ) → k < l.done → slice_index l.bytes k ≡ slice_index l.region k)

abbrev pub decreases-loop-done : goal.decreases-loop-done
decreases-loop-done l = 128 - l.done
