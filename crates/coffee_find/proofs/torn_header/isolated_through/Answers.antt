use Rattle.std.proofs.lemmas.Result.{on_ok_weaker}
use Rattle.coffee_find.proofs.Insides.{mark_inside}
use Rattle.std.proofs.Common.{None, Some, length, arith, ap, ◌∙◌}
use Rattle.flash_views.specs.Views.{FitsImage}
use Rattle.flash_views.specs.declared.overlay.Overlay.{Overlay}
use Rattle.flash_views.proofs.Overlays.{length_overlaid}
use Rattle.coffee_find.proofs.torn_header.isolated_through.Goals as goal

pub returns-clause-reads : goal.returns-clause-reads
returns-clause-reads g c =
    let image = g.F.Flash.image c.args.flash in
    let o : Overlay = record { first = Some (record { page = c.args.page; bits = 34 }); second = None; sector = None; blank = None; two = None } in
    let inside : FitsImage (length image) o = record { sector = λ s e. cc; blank = λ p e. cc; records = λ t e. cc; number = λ t e. cc } in
    omega (arith, c.begins_isolated.ensures.reads, c.new-view.ensures.reads, c.into_flash.ensures.reads, ap (λ xs. length xs) c.new-view.ensures.image ∙ length_overlaid image o inside)

pub returns-clause-frame : goal.returns-clause-frame
returns-clause-frame g c =
    let image = g.F.Flash.image c.args.flash in
    let o : Overlay = record { first = Some (record { page = c.args.page; bits = 34 }); second = None; sector = None; blank = None; two = None } in
    let inside : FitsImage (length image) o = mark_inside (length image) (Some (record { page = c.args.page; bits = 34 })) in
    let seen = c.begins_isolated.ensures.frame.same ∙ c.new-view.ensures.image in
    let held = c.begins_isolated.ensures.frame.lent ∙ c.new-view.ensures.lent in
    let same = c.into_flash.ensures.same c.args.flash o inside seen held in
    let faults = c.into_flash.ensures.faults c.args.flash o inside seen held in
    record {
      same = same.image;
      lent = same.lent;
      later = omega (arith, c.new-view.ensures.reads, c.begins_isolated.ensures.frame.later, c.into_flash.ensures.reads);
      faultless = on_ok_weaker c.begins_isolated.result (λ e. faults ∙ e ∙ c.new-view.ensures.faults) c.begins_isolated.ensures.frame.faultless;
      cause = rw (faults, ← c.new-view.ensures.faults) c.begins_isolated.ensures.frame.cause;
    }
