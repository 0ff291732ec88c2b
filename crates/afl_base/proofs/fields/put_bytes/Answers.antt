use Rattle.std.proofs.Common.{arith}
use Rattle.afl_base.proofs.PutLaws.{put_mid_whole}
use Rattle.afl_base.proofs.fields.put_bytes.Goals as goal

pub returns : goal.returns
returns c = put_mid_whole c.args.bytes.now _ c.args.part.now c.args.at _ c.copy_from_slice.ensures.after (omega arith)
