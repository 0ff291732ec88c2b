use Rattle.std.proofs.lemmas.Result.{on_ok_weaker}
use Rattle.flash_views.specs.Views.{FitsImage}
use Rattle.std.proofs.Common.{None, Some, length, arith, ap, ◌∙◌}
use Rattle.flash_views.specs.declared.overlay.Overlay.{Overlay}
use Rattle.flash_views.proofs.Overlays.{length_overlaid}
use Rattle.coffee_find.proofs.Insides.{sector_inside}
use Rattle.coffee_find.proofs.erased.erased_through.Goals as goal

pub idle_front-requires : goal.idle_front-requires
idle_front-requires g c =
    let image = g.F.Flash.image c.args.flash in
    let o : Overlay = record { first = None; second = None; sector = Some c.args.sector; blank = None; two = None } in
    record { sector = omega (arith, c.requires.sector, ap (λ xs. length xs) c.new-view.ensures.image ∙ length_overlaid image o (sector_inside (length image) c.args.sector c.requires.sector)) }

pub returns-clause-reads : goal.returns-clause-reads
returns-clause-reads g c =
    let image = g.F.Flash.image c.args.flash in
    let o : Overlay = record { first = None; second = None; sector = Some c.args.sector; blank = None; two = None } in
    omega (arith, c.idle_front.ensures.reads, c.new-view.ensures.reads, c.into_flash.ensures.reads, ap (λ xs. length xs) c.new-view.ensures.image ∙ length_overlaid image o (sector_inside (length image) c.args.sector c.requires.sector))

pub returns-clause-frame : goal.returns-clause-frame
returns-clause-frame g c =
    let image = g.F.Flash.image c.args.flash in
    let o : Overlay = record { first = None; second = None; sector = Some c.args.sector; blank = None; two = None } in
    let inside : FitsImage (length image) o = sector_inside (length image) c.args.sector c.requires.sector in
    let seen = c.idle_front.ensures.frame.same ∙ c.new-view.ensures.image in
    let held = c.idle_front.ensures.frame.lent ∙ c.new-view.ensures.lent in
    let same = c.into_flash.ensures.same c.args.flash o inside seen held in
    let faults = c.into_flash.ensures.faults c.args.flash o inside seen held in
    record {
      same = same.image;
      lent = same.lent;
      later = omega (arith, c.new-view.ensures.reads, c.idle_front.ensures.frame.later, c.into_flash.ensures.reads);
      faultless = on_ok_weaker c.idle_front.result (λ e. faults ∙ e ∙ c.new-view.ensures.faults) c.idle_front.ensures.frame.faultless;
      cause = rw (faults, ← c.new-view.ensures.faults) c.idle_front.ensures.frame.cause;
    }
