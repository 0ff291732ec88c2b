use Rattle.std.proofs.Common.{◌+◌, ◌-◌, ◌*◌, arith}
use Rattle.afl_sim.proofs.Caches.{others_written}
use Rattle.afl_sim.proofs.cached.read_into.Goals as goal

pub returns-in_err-read_sector-clause-others : goal.returns-in_err-read_sector-clause-others
returns-in_err-read_sector-clause-others g c = others_written c.args.memory.now c.read_sector.new.into (4096 * c.from-start.result) (4096 * c.from-start.result + 4096 - 4096 * c.from-start.result) c.args.sector (omega (arith, c.from-start.ensures)) (omega arith) (omega (arith, c.read_sector.auto.into)) c.requires.room

pub returns-clause-others : goal.returns-clause-others
returns-clause-others g c = others_written c.args.memory.now c.read_sector.new.into (4096 * c.from-start.result) (4096 * c.from-start.result + 4096 - 4096 * c.from-start.result) c.args.sector (omega (arith, c.from-start.ensures)) (omega arith) (omega (arith, c.read_sector.auto.into)) c.requires.room
