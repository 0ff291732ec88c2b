use Rattle.std.proofs.Common.{arith}
use Rattle.afl_sim.proofs.Writes.{programmed-all}
use Rattle.afl_sim.proofs.bytes.program_bytes.Goals as goal

pub returns : goal.returns
returns c =
    programmed-all c.args.image.now c.loop-i.image c.args.at c.args.bytes.now c.loop-i.i (omega arith) (omega arith) c.requires c.loop-i.invariant
