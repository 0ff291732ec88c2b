use Rattle.std.proofs.Common.{arith}
use Rattle.std.proofs.lemmas.Result.{on_err_weaker}
use Rattle.coffee_merge.proofs.CutMarkLaws.{one_of}
use Rattle.coffee_mend.proofs.settling.mark.Goals as goal

pub returns-clause-cut : goal.returns-clause-cut
returns-clause-cut g c = λ t u. on_err_weaker c.program.result (λ cut. one_of (g.F.Flash.image c.args.flash.now) (g.F.Flash.image c.program.new.self) _ _ cut (omega arith)) (c.program.ensures.cut t u)
