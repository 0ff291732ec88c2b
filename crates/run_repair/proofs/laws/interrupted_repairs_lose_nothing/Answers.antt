use Rattle.run_repair.proofs.Interrupted.{ended_times, interrupted_times}
use Rattle.run_repair.proofs.laws.interrupted_repairs_lose_nothing.Goals as goal

pub returns-clause-mends : goal.returns-clause-mends
returns-clause-mends c = interrupted_times

pub returns-clause-ended : goal.returns-clause-ended
returns-clause-ended c = ended_times
