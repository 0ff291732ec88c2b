use Rattle.std.proofs.Common.{arith}
use Rattle.std.proofs.lemmas.List.{length-replicate, length-take-le, length-drop}
use Rattle.afl_base.proofs.PutLaws.{put_mid_whole}
use Rattle.tuple_file.proofs.fields.put_zeros.Goals as goal
use Rattle.std.proofs.lemmas.Grind.{common_steps}

pub returns : goal.returns
returns c = grind (arith, common_steps, length-replicate, length-take-le, length-drop, put_mid_whole)
