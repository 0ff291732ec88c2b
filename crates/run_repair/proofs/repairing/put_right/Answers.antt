use Rattle.std.proofs.Common.{rules}
use Rattle.run_repair.proofs.repairing.put_right.Goals as goal

pub returns-in-Cut-clause-needed : goal.returns-in-Cut-clause-needed
returns-in-Cut-clause-needed g c = λ told. (rw c.find_out.ensures.same at c.put_cut_right.ensures.needed) told (search rules)
