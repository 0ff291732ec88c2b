use Rattle.afl_sim.proofs.PlainStates.{only_named}
use Rattle.afl_sim.proofs.plain_files.PlainFilesFiles.find.Goals as goal

pub returns-clause-only : goal.returns-clause-only
returns-clause-only g c = rw (← c.self.view_is) (only_named c.self.inside.table c.args.name c.find_in.result c.self.invariant.distinct c.find_in.ensures.found)
