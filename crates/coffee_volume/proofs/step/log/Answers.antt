use Rattle.coffee_volume.proofs.Takings.{log_takes}
use Rattle.coffee_volume.proofs.step.log.Goals as goal

pub returns-clause-moved : goal.returns-clause-moved
returns-clause-moved g c = λ told table i h is.
    log_takes (g.F.Flash.image c.args.flash.now) (g.F.Flash.image c.add_log.new.flash) table i c.args.file.now c.in_ok-log.log h is c.requires.none (c.in_ok-log.ensures.logged told table i h is c.requires.none)
