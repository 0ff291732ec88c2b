use Rattle.std.proofs.Common.{sym, subst}
use Rattle.std.proofs.lemmas.Result.{on_ok_weaker}
use Rattle.std.specs.Prelude.{None}
use Rattle.coffee_merge.specs.Holding.{Sets, TakesOnly}
use Rattle.coffee_merge.proofs.Commits.{retired}
use Rattle.coffee_merge.proofs.Taken.{retire_takes}
use Rattle.coffee_merge.proofs.commit.retire_file.Goals as goal

pub returns-clause-retired : goal.returns-clause-retired
returns-clause-retired g c =
    λ told.
    on_ok_weaker c.mark_obsolete.result
    (λ is table i holds place. subst (λ image. Sets (g.F.Flash.image c.args.flash.now) image table i None) (sym is) (retired (g.F.Flash.image c.args.flash.now) table i c.args.file.now holds place))
    (c.mark_obsolete.ensures.obsolete told)

pub returns-clause-taken : goal.returns-clause-taken
returns-clause-taken g c =
    λ told.
    on_ok_weaker c.mark_obsolete.result
    (λ is table i holds place. subst (λ image. TakesOnly (g.F.Flash.image c.args.flash.now) image 0 0) (sym is) (retire_takes (g.F.Flash.image c.args.flash.now) table i c.args.file.now holds place))
    (c.mark_obsolete.ensures.obsolete told)
