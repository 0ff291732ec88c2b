-- That overlays lie inside a flash.
use Rattle.std.proofs.Common.{ℕ, ◌+◌, ◌*◌, ◌≤◌, Option, None, Some, subst}
use Rattle.afl_base.specs.declared.ids.SectorId.{SectorId}
use Rattle.padded.proofs.Facts.{some_same}
use Rattle.flash_views.specs.Views.{FitsImage}
use Rattle.flash_views.specs.declared.overlay.Mark.{Mark}

pub sector_inside : (size : ℕ) (sector : SectorId) → 4096 * sector.0 + 4096 ≤ size → FitsImage size (record { first = None; second = None; sector = Some sector; blank = None; two = None })
sector_inside size sector fits = record {
  sector = λ s e. subst (λ (x : SectorId). 4096 * x.0 + 4096 ≤ size) (some_same sector s e) fits;
  blank = λ p e. cc;
  records = λ t e. cc;
  number = λ t e. cc;
}

pub mark_inside : (size : ℕ) (m : Option Mark) → FitsImage size (record { first = m; second = None; sector = None; blank = None; two = None })
mark_inside size m = record {
  sector = λ s e. cc;
  blank = λ p e. cc;
  records = λ t e. cc;
  number = λ t e. cc;
}
