use Rattle.std.proofs.Common.{arith}
use Rattle.std.proofs.lemmas.List.{append-nil}
use Rattle.std.proofs.Math.ListN.{drop_of_length-le}
use Rattle.db_model.proofs.Decoded.{tuple_suits}
use Rattle.tuple_file.proofs.rows.get_tuple.Goals as goal
use Rattle.std.proofs.lemmas.Grind.{common_steps}

pub returns-clause-suits : goal.returns-clause-suits
returns-clause-suits c = grind (arith, common_steps, tuple_suits, drop_of_length-le, append-nil)
