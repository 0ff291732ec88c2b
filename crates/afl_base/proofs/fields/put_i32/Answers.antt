use Rattle.std.proofs.Common.{refl, w32}
use Rattle.std.proofs.lemmas.Int.{to_z-of_z}
use Rattle.afl_base.specs.Fields.{i32_bytes}
use Rattle.afl_base.proofs.FieldLaws.{put_at_rest}
use Rattle.afl_base.proofs.fields.put_i32.Goals as goal

pub returns : goal.returns
unfolding i32_bytes
returns c =
    let bits = rw (to_z-of_z w32 c.args.value c.ranges.value) at c.cast_unsigned.ensures in
    put_at_rest c.args.bytes.now _ (i32_bytes c.args.value) c.args.at 4 c.requires refl (rw bits at c.write_u32.ensures)
