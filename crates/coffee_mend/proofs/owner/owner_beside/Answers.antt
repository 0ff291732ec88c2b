use Rattle.std.proofs.Common.{◌/◌, length, subst}
use Rattle.std.specs.Prelude.{IfOk, IfSome}
use Rattle.flash_views.proofs.Overlays.{length_overlaid}
use Rattle.coffee_layout.specs.Files.{FitsIn}
use Rattle.coffee_mend.proofs.owner.owner_beside.Goals as goal

pub returns-clause-fits : goal.returns-clause-fits
returns-clause-fits g c =
    let image = g.F.Flash.image c.args.flash.now in
    subst (λ n. IfOk c.owner_through-handed.new.found (λ o. IfSome o (FitsIn (n / 256))))
    (length_overlaid image c.overlay_of-overlay.result (c.overlay_of-overlay.ensures.inside (length image) tt c.requires.inside)) c.owner_through-handed.ensures.fits
