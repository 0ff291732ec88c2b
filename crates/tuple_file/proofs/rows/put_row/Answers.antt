use Rattle.std.proofs.Common.{arith}
use Rattle.std.proofs.Math.ListN.{drop_of_length-le}
use Rattle.db_model.proofs.Rows.{length-field, length-fields}
use Rattle.db_model.proofs.Decoded.{length-suits}
use Rattle.afl_base.proofs.PutLaws.{put_at-put_at, put_at_nothing}
use Rattle.tuple_file.proofs.Puts.{put_then_set}
use Rattle.tuple_file.proofs.rows.put_row.Goals as goal
use Rattle.std.proofs.lemmas.Grind.{common_steps}
use Rattle.padded.proofs.Facts.{drop_item}

pub loop-i-preserved : goal.loop-i-preserved
loop-i-preserved c = grind (arith, common_steps, length-suits, drop_item, length-field, put_at-put_at)

pub returns : goal.returns
returns c = grind (arith, common_steps, length-fields, drop_of_length-le, put_at_nothing, put_then_set)
