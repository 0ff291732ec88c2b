use Rattle.std.proofs.Common.{arith}
use Rattle.flash_views.proofs.Overlays.{shown}
use Rattle.flash_views.proofs.view.View.into_flash.Goals as goal

pub returns-clause-same : goal.returns-clause-same
returns-clause-same g c = rw (← c.self.view_is) (λ flash overlay inside image lent.
    let v = c.self.inside in
    let s = shown (g.F.Flash.image v.inner) (g.F.Flash.lent v.inner) (g.F.Flash.image flash) (g.F.Flash.lent flash) v.overlay overlay v.spoilt v.refused c.self.invariant inside image lent in
    record { image = s.image_is; lent = s.lent_is })

pub returns-clause-faults : goal.returns-clause-faults
returns-clause-faults g c = rw (← c.self.view_is) (λ flash overlay inside image lent.
    let v = c.self.inside in
    let s = shown (g.F.Flash.image v.inner) (g.F.Flash.lent v.inner) (g.F.Flash.image flash) (g.F.Flash.lent flash) v.overlay overlay v.spoilt v.refused c.self.invariant inside image lent in
    rw s.unrefused (omega arith))
