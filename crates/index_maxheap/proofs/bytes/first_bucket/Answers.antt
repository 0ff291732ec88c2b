use Rattle.std.proofs.Common.{rules, arith, ◌+◌}
use Rattle.std.specs.Prelude.{FitsSigned}
use Rattle.std.specs.Int.{w32}
use Rattle.std.proofs.lemmas.Int.{to_z-of_z}
use Rattle.index_tree.proofs.Inserted.{long_i32, first_is}
use Rattle.index_maxheap.proofs.bytes.first_bucket.Goals as goal
use Rattle.afl_base.proofs.Bits.{length_u16_bytes}

pub returns : goal.returns
returns c =
    let fits : FitsSigned w32 c.args.key.now = search rules in
    first_is c.put_i32.new.bytes c.put_u16.new.bytes c.args.key.now (c.number.result + 1) c.args.slot (rw (to_z-of_z w32 c.args.key.now fits) at c.put_i32.ensures) c.put_u16.ensures (long_i32 c.args.key.now) (length_u16_bytes (c.number.result + 1)) fits (omega (arith, c.number.ensures.value)) (omega (arith, c.number.ensures.below))
