use Rattle.afl_base.specs.Places.{AreTaken}
use Rattle.afl_base.proofs.places.free_in.Given as goal

-- every place so far is taken
abbrev pub invariant-loop-number : goal.invariant-loop-number
invariant-loop-number g l = AreTaken l.table l.number
