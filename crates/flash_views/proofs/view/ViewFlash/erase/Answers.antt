use Rattle.std.proofs.Common.{◌+◌, ◌*◌, ◌≤◌, ◌<◌, length, arith, rules}
use Rattle.flash_views.specs.Views.{overlaid, spoilt}
use Rattle.flash_views.proofs.Overlays.{length_view, spoilt_range}
use Rattle.flash_views.proofs.view.ViewFlash.erase.Goals as goal

pub overflow_mul-sector : goal.overflow_mul-sector
overflow_mul-sector g c =
    let v = c.self.inside in
    let sector : 4096 * c.args.sector.0 + 4096 ≤ length (spoilt (overlaid (g.F.Flash.image v.inner) v.overlay) v.spoilt) = rw (← c.self.view_is) at c.requires.sector in
    let most : 16 * c.args.sector.0 < 65536 = omega (arith, sector, length_view (g.F.Flash.image v.inner) v.overlay v.spoilt c.self.invariant.inside, c.sectors.ensures.size, c.sectors.ensures.most) in
    search rules

pub refuse-requires : goal.refuse-requires
refuse-requires g c =
    let v = c.self.inside in
    rw (← c.self.view_is) (
    let sector : 4096 * c.args.sector.0 + 4096 ≤ length (spoilt (overlaid (g.F.Flash.image v.inner) v.overlay) v.spoilt) = rw (← c.self.view_is) at c.requires.sector in
    record { page = omega (arith, sector, length_view (g.F.Flash.image v.inner) v.overlay v.spoilt c.self.invariant.inside) })

pub returns-in_err-refuse-clause-other_sectors : goal.returns-in_err-refuse-clause-other_sectors
returns-in_err-refuse-clause-other_sectors g c = λ t s other.
    let v = c.args.self.now in
    rw c.refuse.ensures.counts (spoilt_range (overlaid (g.F.Flash.image v.inner) v.overlay) v.spoilt (record { 0 = 16 * c.args.sector.0 }) (4096 * s) (4096 * s + 4096) (λ k low high e. other (omega (arith, low, high, e))))
