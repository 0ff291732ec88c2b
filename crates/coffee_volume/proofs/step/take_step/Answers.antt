use Rattle.std.proofs.Common.{sym, subst, IsTrue}
use Rattle.std.specs.Prelude.{IfOk}
use Rattle.coffee_layout.proofs.Tests.{if_ok}
use Rattle.coffee_volume.specs.Lowest.{TakesStep}
use Rattle.coffee_volume.specs.Steps.{WhereStands}
use Rattle.coffee_volume.specs.declared.step.Step.{Step}
use Rattle.coffee_volume.proofs.Takings.{grow_takes, merge_takes}
use Rattle.coffee_volume.proofs.step.take_step.Goals as goal

pub returns-in-Grow-clause-moved : goal.returns-in-Grow-clause-moved
returns-in-Grow-clause-moved g c =
    let old = g.F.Flash.image c.args.flash.now in
    let new = g.F.Flash.image c.grow.new.flash in
    subst (λ (step : Step). IsTrue g.F.Flash.tells → IfOk c.grow.result (λ to. WhereStands old c.args.file.now (λ table i. TakesStep step old new table i c.args.file.now to))) (sym c.in-Grow.is)
    (λ told. if_ok c.grow.result _ _ (c.grow.ensures.moved told) (λ to moves table i h is. grow_takes old new table i c.args.file.now to (moves table i h is)))

pub returns-in-Merge-clause-moved : goal.returns-in-Merge-clause-moved
returns-in-Merge-clause-moved g c =
    let old = g.F.Flash.image c.args.flash.now in
    let new = g.F.Flash.image c.merge.new.flash in
    subst (λ (step : Step). IsTrue g.F.Flash.tells → IfOk c.merge.result (λ to. WhereStands old c.args.file.now (λ table i. TakesStep step old new table i c.args.file.now to))) (sym c.in-Merge.is)
    (λ told. if_ok c.merge.result _ _ (c.merge.ensures.moved told) (λ to moves table i h is. merge_takes old new table i c.args.file.now to (moves table i h is)))
