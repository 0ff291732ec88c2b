use Rattle.std.proofs.Common.{◌+◌, ◌-◌, ◌*◌, arith, replicate}
use Rattle.stored_mend.proofs.ReadSlots.{zeros_put}
use Rattle.stored_mend.proofs.decoding.without_more.Goals as goal

pub returns : goal.returns
returns c = zeros_put (replicate 176 0) c.args.slot.now _ _ (16 + 18 * c.args.count) (144 - 18 * c.args.count) 144 c.requires.length c.put_bytes.ensures c.put_bytes-2.ensures (omega arith)
