use Rattle.std.proofs.Common.{arith}
use Rattle.afl_base.proofs.PutLaws.{put_at-put_at}
use Rattle.tuple_file.proofs.fields.put_text.Goals as goal
use Rattle.std.proofs.lemmas.Grind.{common_steps}

pub returns : goal.returns
returns c = grind (arith, common_steps, put_at-put_at)
