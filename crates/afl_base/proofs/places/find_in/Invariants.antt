use Rattle.std.proofs.Common.{◌≢◌, ◌<◌, ℕ, Some}
use Rattle.afl_base.specs.Places.{name_in}
use Rattle.afl_base.proofs.places.find_in.Given as goal

-- no place so far has the name
abbrev pub invariant-loop-number : goal.invariant-loop-number
invariant-loop-number g l = (k : ℕ) → k < l.number → name_in g.P.Named.named l.table k ≢ Some l.name
