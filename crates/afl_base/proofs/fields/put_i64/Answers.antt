use Rattle.std.proofs.Common.{refl, w64}
use Rattle.std.proofs.lemmas.Int.{to_z-of_z}
use Rattle.afl_base.specs.Fields.{i64_bytes}
use Rattle.afl_base.proofs.FieldLaws.{put_at_rest}
use Rattle.afl_base.proofs.fields.put_i64.Goals as goal

pub returns : goal.returns
unfolding i64_bytes
returns c =
    let bits = rw (to_z-of_z w64 c.args.value c.ranges.value) at c.cast_unsigned.ensures in
    put_at_rest c.args.bytes.now _ (i64_bytes c.args.value) c.args.at 8 c.requires refl (rw bits at c.write_u64.ensures)
