use Rattle.afl_sim.proofs.Writes.{Programmed}
use Rattle.afl_sim.proofs.bytes.program_bytes.Given as goal

abbrev pub invariant-loop-i : goal.invariant-loop-i
invariant-loop-i l = Programmed l.initial.image l.image l.at l.bytes l.i
