use Rattle.std.proofs.Common.{◌≡◌, ℕ, ◌-◌, ◌≤◌, ◌<◌, bit_or}
use Rattle.std.specs.Prelude.{slice_index}
use Rattle.coffee_mend.proofs.completing.has_all_bits.Given as goal

-- none of the bits so far is lacking
abbrev pub invariant-loop-at : goal.invariant-loop-at
invariant-loop-at l = (l.at ≤ 128) × ((k : ℕ) → k < l.at → bit_or (slice_index l.torn k) (slice_index l.bytes k) ≡ slice_index l.bytes k)

abbrev pub decreases-loop-at : goal.decreases-loop-at
decreases-loop-at l = 128 - l.at
