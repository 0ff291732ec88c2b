use Rattle.std.proofs.Common.{◌+◌, ◌*◌, ◌≤◌, length, arith}
use Rattle.flash_views.specs.Views.{overlaid, spoilt}
use Rattle.flash_views.proofs.Overlays.{length_view, spoilt_range}
use Rattle.flash_views.proofs.view.ViewFlash.program.Goals as goal

pub refuse-requires : goal.refuse-requires
refuse-requires g c =
    let v = c.self.inside in
    rw (← c.self.view_is) (
    let page : 256 * c.args.page.0 + 256 ≤ length (spoilt (overlaid (g.F.Flash.image v.inner) v.overlay) v.spoilt) = rw (← c.self.view_is) at c.requires.page in
    record { page = omega (arith, page, length_view (g.F.Flash.image v.inner) v.overlay v.spoilt c.self.invariant.inside) })

pub returns-in_err-refuse-clause-other_pages : goal.returns-in_err-refuse-clause-other_pages
returns-in_err-refuse-clause-other_pages g c = λ t p other.
    let v = c.args.self.now in
    rw c.refuse.ensures.counts (spoilt_range (overlaid (g.F.Flash.image v.inner) v.overlay) v.spoilt c.args.page (256 * p) (256 * p + 256) (λ k low high e. other (omega (arith, low, high, e))))
