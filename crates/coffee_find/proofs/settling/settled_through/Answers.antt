use Rattle.std.proofs.Common.{length, subst, arith, ap, ◌∙◌}
use Rattle.std.specs.Prelude.{IfOk}
use Rattle.flash_views.proofs.Overlays.{length_overlaid}
use Rattle.coffee_find.specs.Search.{HasTorn}
use Rattle.coffee_find.proofs.settling.settled_through.Goals as goal

pub returns-clause-inside : goal.returns-clause-inside
returns-clause-inside g c =
    subst (λ n. IfOk c.judged.result (λ v. HasTorn n v))
    (ap (λ xs. length xs) c.new-view.ensures.image ∙ length_overlaid (g.F.Flash.image c.args.flash) c.args.overlay c.requires.inside)
    c.judged.ensures.inside

pub returns-clause-reads : goal.returns-clause-reads
returns-clause-reads g c =
    omega (
      arith,
      c.judged.ensures.reads,
      c.new-view.ensures.reads,
      c.into_flash.ensures.reads,
      ap (λ xs. length xs) c.new-view.ensures.image ∙ length_overlaid (g.F.Flash.image c.args.flash) c.args.overlay c.requires.inside,
    )
