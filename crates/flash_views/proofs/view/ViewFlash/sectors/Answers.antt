use Rattle.std.proofs.Common.{◌∙◌}
use Rattle.flash_views.specs.Views.{overlaid}
use Rattle.flash_views.proofs.Overlays.{length_overlaid, length_spoilt}
use Rattle.flash_views.proofs.view.ViewFlash.sectors.Goals as goal

pub returns-clause-size : goal.returns-clause-size
returns-clause-size g c =
    let v = c.self.inside in
    rw (← c.self.view_is) (length_spoilt (overlaid (g.F.Flash.image v.inner) v.overlay) v.spoilt ∙ length_overlaid (g.F.Flash.image v.inner) v.overlay c.self.invariant.inside ∙ c.sectors.ensures.size)
