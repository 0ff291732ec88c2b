use Rattle.std.proofs.Common.{arith}
use Rattle.std.proofs.Math.Nat.{mul-mod_right}
use Rattle.tuple_file.proofs.Written.{length-written}
use Rattle.tuple_file.proofs.tuples.Tuples.valid.Goals as goal
use Rattle.tuple_file.proofs.tuples.Tuples.valid.Goals.{then-size-length-ne0-via-then-size-length-ne0, then-size-length-ne0-via-else-size-length-ne0+then-size-length}
use Rattle.std.proofs.lemmas.Grind.{common_steps}

pub returns-then-size-length-ne0-clause-valid : goal.returns-then-size-length-ne0-clause-valid
returns-then-size-length-ne0-clause-valid g c told = grind (arith, common_steps, then-size-length-ne0-via-then-size-length-ne0, length-written, mul-mod_right, then-size-length-ne0-via-else-size-length-ne0+then-size-length)
