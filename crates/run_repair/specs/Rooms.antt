-- Room for a catalog.
use Rattle.std.specs.Prelude.{◌≡◌, ℕ, ◌+◌, ◌*◌, ◌≤◌, List, Option, Some}
use Rattle.afl_base.specs.declared.ids.SectorId.{SectorId}
use Rattle.coffee_layout.specs.Marks.{IsRun, free_pages}
use Rattle.coffee_layout.specs.Tiling.{units_of}
use Rattle.coffee_layout.specs.declared.unit.Unit.{Unit}

-- the six pages of a catalog are free in a row in front of a sector
abbrev pub HasRoomInFront : List Unit → ℕ → Type 0
HasRoomInFront us sector = (page : ℕ) × IsRun (free_pages us) page 6 × (page + 6 ≤ 16 * sector)

-- so they are in an image of which this sector was being erased
pub record FindsRoom (image : List ℕ) (erased : Option SectorId) : Type 0 where
  pub sector : SectorId
  pub is : erased ≡ Some sector
  pub room : HasRoomInFront (units_of image) sector.0
