use Rattle.std.proofs.Common.{◌≡◌, ℕ, ◌<◌, length, get_or}
use Rattle.padded.specs.Padded.{padded}
use Rattle.coffee_header.proofs.write.put_name.Given as goal

abbrev pub invariant-loop-i : goal.invariant-loop-i
invariant-loop-i l = (k : ℕ) → k < l.i → get_or l.field k 0 ≡ get_or (padded (length l.fn.field) l.name) k 0
