use Rattle.afl_sim.proofs.Writes.{Erased}
use Rattle.afl_sim.proofs.bytes.erase_bytes.Given as goal

abbrev pub invariant-loop-i : goal.invariant-loop-i
invariant-loop-i l = Erased l.initial.image l.image l.at l.i
