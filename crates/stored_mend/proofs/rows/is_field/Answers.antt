use Rattle.std.proofs.Common.{arith}
use Rattle.tuple_file.proofs.Judged.{IsField, text_field, text_is}
use Rattle.stored_mend.proofs.rows.is_field.Goals as goal
use Rattle.std.proofs.lemmas.Grind.{common_steps}

pub returns-in-Str : goal.returns-in-Str
returns-in-Str c = grind (arith, common_steps, IsField, text_field, text_is)
