-- Room for a catalog in front of a sector that was being erased.
use Rattle.std.proofs.Common.{◌≡◌, ℕ, ◌*◌, Bool, List, length, Option, None, Some, sym, subst, ◌∙◌, arith}
use Rattle.std.specs.Bool.{Decides}
use Rattle.afl_base.specs.declared.ids.SectorId.{SectorId}
use Rattle.coffee_layout.specs.Rules.{broken_image}
use Rattle.coffee_layout.specs.Tiling.{IsTiled, nowhere, units_of}
use Rattle.coffee_layout.specs.Units.{pages_of}
use Rattle.coffee_layout.proofs.Judging.{sound_tiled}
use Rattle.padded.proofs.Facts.{some_same}
use Rattle.run_repair.specs.Rooms.{FindsRoom, HasRoomInFront}

-- the units of a sound image tile it
pub tiled : (image : List ℕ) (sectors : ℕ) → length image ≡ 4096 * sectors → broken_image image ≡ None → IsTiled nowhere image (units_of image)
tiled image sectors size unbroken =
    let whole : 256 * pages_of image ≡ length image = omega (arith, size) in
    sound_tiled image whole unbroken

pub finds_in : (image : List ℕ) (erased : Option SectorId) (sector : SectorId) (has : Bool) → erased ≡ Some sector → Decides has (HasRoomInFront (units_of image) sector.0)
    → Decides has (FindsRoom image erased)
finds_in image erased sector has is d = (
  λ yes. record { sector = sector; is = is; room = d.0 yes },
  λ f. d.1 (subst (λ (s : SectorId). HasRoomInFront (units_of image) s.0) (some_same f.sector sector (sym f.is ∙ is)) f.room),
)
