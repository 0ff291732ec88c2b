use Rattle.std.proofs.Common.{length, subst, arith, ap, ◌∙◌}
use Rattle.std.specs.Prelude.{IfNone, IfOk}
use Rattle.flash_views.proofs.Overlays.{length_overlaid}
use Rattle.coffee_find.specs.Search.{NamesNone}
use Rattle.coffee_find.proofs.behind.region_through.Goals as goal

pub returns-clause-none : goal.returns-clause-none
returns-clause-none g c = λ t.
    subst (λ x. IfOk c.first_region.result (λ o. IfNone o (NamesNone x c.args.log))) c.new-view.ensures.image (c.first_region.ensures.none t)

pub returns-clause-reads : goal.returns-clause-reads
returns-clause-reads g c =
    omega (
      arith,
      c.first_region.ensures.reads,
      c.new-view.ensures.reads,
      c.into_flash.ensures.reads,
      ap (λ xs. length xs) c.new-view.ensures.image ∙ length_overlaid (g.F.Flash.image c.args.flash) c.args.overlay c.requires.inside,
    )
