use Rattle.std.proofs.Common.{refl}
use Rattle.afl_base.specs.Fields.{u16_bytes}
use Rattle.afl_base.proofs.FieldLaws.{put_at_rest}
use Rattle.afl_base.proofs.fields.put_u16.Goals as goal

pub returns : goal.returns
unfolding u16_bytes
returns c = put_at_rest c.args.bytes.now _ (u16_bytes c.args.value) c.args.at 2 c.requires refl c.write_u16.ensures
