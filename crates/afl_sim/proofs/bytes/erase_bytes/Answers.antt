use Rattle.std.proofs.Common.{◌≡◌, subst, arith}
use Rattle.afl_sim.proofs.Writes.{Erased, erased-all}
use Rattle.afl_sim.proofs.bytes.erase_bytes.Goals as goal

pub returns : goal.returns
returns c =
    let e : c.loop-i.i ≡ c.args.count = omega arith in
    erased-all c.args.image.now c.loop-i.image c.args.at c.args.count c.requires (subst (λ n. Erased c.args.image.now c.loop-i.image c.args.at n) e c.loop-i.invariant)
