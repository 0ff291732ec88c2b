use Rattle.std.proofs.Common.{arith}
use Rattle.tuple_file.proofs.Slots.{length-rows}
use Rattle.tuple_file.proofs.tuples.Tuples.count.Goals as goal
use Rattle.std.proofs.lemmas.Grind.{common_steps}

pub returns-clause-rows : goal.returns-clause-rows
returns-clause-rows g c = grind (arith, common_steps, length-rows)
