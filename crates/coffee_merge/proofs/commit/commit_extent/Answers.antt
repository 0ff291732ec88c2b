use Rattle.std.proofs.Common.{sym, subst, arith}
use Rattle.std.proofs.lemmas.Result.{on_err_weaker, on_ok_weaker}
use Rattle.coffee_merge.specs.Holding.{CommitsExtent}
use Rattle.coffee_merge.proofs.CutMarkLaws.{one_of}
use Rattle.coffee_merge.proofs.Commits.{commits}
use Rattle.coffee_merge.specs.Takes.{KeepsFree}
use Rattle.coffee_merge.proofs.Lowest.{commit_free}
use Rattle.coffee_merge.proofs.commit.commit_extent.Goals as goal

pub returns-clause-committed : goal.returns-clause-committed
returns-clause-committed g c =
    λ told.
    on_ok_weaker c.program.result
    (λ is table d i holds place inside free fresh last.
    subst (λ image. CommitsExtent (g.F.Flash.image c.args.flash.now) image table i d) (sym is) (commits (g.F.Flash.image c.args.flash.now) table d i c.args.page holds place inside free fresh last))
    (c.program.ensures.programmed told)

pub returns-clause-free : goal.returns-clause-free
returns-clause-free g c =
    λ told.
    on_ok_weaker c.program.result
    (λ is table d holds place. subst (λ image. KeepsFree (g.F.Flash.image c.args.flash.now) image) (sym is) (commit_free (g.F.Flash.image c.args.flash.now) table d c.args.page holds place))
    (c.program.ensures.programmed told)

pub returns-clause-cut : goal.returns-clause-cut
returns-clause-cut g c = λ t u. on_err_weaker c.program.result (λ cut. one_of (g.F.Flash.image c.args.flash.now) (g.F.Flash.image c.program.new.self) _ _ cut (omega arith)) (c.program.ensures.cut t u)
