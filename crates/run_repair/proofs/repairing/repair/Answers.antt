use Rattle.run_repair.proofs.SettledTo.{said_needed}
use Rattle.run_repair.proofs.repairing.repair.Goals as goal

pub returns-clause-needed : goal.returns-clause-needed
returns-clause-needed g c = λ told three.
    said_needed (g.F.Flash.image c.args.flash.now) (g.F.Flash.image c.put_right-came.new.flash) _ c.put_right-came.result c.say.result _ _ c.say.ensures.says three (c.put_right-came.ensures.needed told)
