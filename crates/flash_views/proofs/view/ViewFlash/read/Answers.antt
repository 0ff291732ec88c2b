use Rattle.std.proofs.Common.{◌≡◌, ◌+◌, ◌*◌, ◌≤◌, length, slice_range, None, sym, subst, arith, ◌∙◌}
use Rattle.flash_views.specs.Views.{overlaid, spoilt}
use Rattle.flash_views.proofs.Overlays.{length_view, not_some, stand_is, stand_read}
use Rattle.flash_views.proofs.view.ViewFlash.read.Goals as goal

pub read-requires-clause-page : goal.read-requires-clause-page
read-requires-clause-page g c =
    let v = c.self.inside in
    let page : 256 * c.args.page.0 + 256 ≤ length (spoilt (overlaid (g.F.Flash.image v.inner) v.overlay) v.spoilt) = rw (← c.self.view_is) at c.requires.page in
    omega (arith, page, length_view (g.F.Flash.image v.inner) v.overlay v.spoilt c.self.invariant.inside)

pub refuse-requires : goal.refuse-requires
refuse-requires g c =
    let v = c.self.inside in
    let page : 256 * c.args.page.0 + 256 ≤ length (spoilt (overlaid (g.F.Flash.image v.inner) v.overlay) v.spoilt) = rw (← c.self.view_is) at c.requires.page in
    let inner : 256 * c.args.page.0 + 256 ≤ length (g.F.Flash.image v.inner) = omega (arith, page, length_view (g.F.Flash.image v.inner) v.overlay v.spoilt c.self.invariant.inside) in
    record { page = rw c.read.ensures.frame.same inner }

pub returns-clause-bytes : goal.returns-clause-bytes
returns-clause-bytes g c =
    let v = c.self.inside in
    let image = g.F.Flash.image v.inner in
    let place = 256 * c.args.page.0 + c.args.at in
    let page : 256 * c.args.page.0 + 256 ≤ length (spoilt (overlaid image v.overlay) v.spoilt) = rw (← c.self.view_is) at c.requires.page in
    let inside = c.self.invariant.inside in
    let none : v.spoilt ≡ None = not_some v.spoilt (sym c.is_some.ensures ∙ c.if-is_some.false) in
    rw (← c.self.view_is) (λ told.
    subst (λ s. c.put_over.new.into ≡ slice_range (spoilt (overlaid image v.overlay) s) place (place + length c.args.into.now)) (sym none)
    (stand_is (overlaid image v.overlay) c.put_over.new.into place (length c.args.into.now) (c.put_over.auto.into ∙ c.read.auto.into)
    (c.put_over.ensures.over image inside
    (stand_read image c.read.new.into place (length c.args.into.now) c.read.auto.into (omega (arith, page, c.requires.range, length_view image v.overlay v.spoilt inside))
    (c.in_ok-read.ensures.bytes told)))))
