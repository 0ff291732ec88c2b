-- What a flash over another one reads, and what is seen of it.
use Rattle.std.specs.Prelude.{◌≡◌, ℕ, ◌+◌, ◌-◌, ◌*◌, ◌^◌, ◌≤◌, ◌<◌, ◌⊎◌, min, List, [], ◌∷◌, length, Option, None, Some, slice_index, slice_set, ◌++◌}
use Rattle.afl_base.specs.Image.{or_at, zeros_at}
use Rattle.afl_base.specs.declared.ids.PageId.{PageId}
use Rattle.afl_base.specs.declared.ids.SectorId.{SectorId}
use Rattle.flash_views.specs.declared.overlay.Mark.{Mark}
use Rattle.flash_views.specs.declared.overlay.Overlay.{Overlay}
use Rattle.flash_views.specs.declared.overlay.Two.{Two}

-- the image with a mark, if any
abbrev pub with_mark : List ℕ → Option Mark → List ℕ
with_mark image None = image
with_mark image (Some m) = or_at image (256 * m.page.0 + 9) (m.bits ∷ [])

-- the image with a sector erased, if any
abbrev pub emptied : List ℕ → Option SectorId → List ℕ
emptied image None = image
emptied image (Some s) = zeros_at image (4096 * s.0) 4096

-- the image with 128 bytes from a place on zero, if any
abbrev pub blanked : List ℕ → Option ℕ → List ℕ
blanked image None = image
blanked image (Some place) = zeros_at image place 128

-- the image with two records and a number zero, if any
abbrev pub cleared : List ℕ → Option Two → List ℕ
cleared image None = image
cleared image (Some t) = zeros_at (zeros_at image t.records 256) t.number 2

-- the image as if the writes of an overlay had been done
abbrev pub overlaid : List ℕ → Overlay → List ℕ
overlaid image o = cleared (blanked (emptied (with_mark (with_mark image o.first) o.second) o.sector) o.blank) o.two

-- the sector and the bytes of an overlay lie inside an image of this many bytes
pub record FitsImage (size : ℕ) (o : Overlay) : Type 0 where
  pub sector : (s : SectorId) → o.sector ≡ Some s → 4096 * s.0 + 4096 ≤ size
  pub blank : (place : ℕ) → o.blank ≡ Some place → place + 128 ≤ size
  pub records : (t : Two) → o.two ≡ Some t → t.records + 256 ≤ size
  pub number : (t : Two) → o.two ≡ Some t → t.number + 2 ≤ size

-- the image of which a page can no longer be read, if any: its first byte is more than it was
abbrev pub spoilt : List ℕ → Option PageId → List ℕ
spoilt image None = image
spoilt image (Some page) = slice_set image (256 * page.0) (slice_index image (256 * page.0) + 1)

-- an overlay as thirteen numbers
abbrev pub mark_code : Option Mark → List ℕ
mark_code None = 0 ∷ 0 ∷ 0 ∷ []
mark_code (Some m) = 1 ∷ m.page.0 ∷ m.bits ∷ []

abbrev pub sector_code : Option SectorId → List ℕ
sector_code None = 0 ∷ 0 ∷ []
sector_code (Some s) = 1 ∷ s.0 ∷ []

abbrev pub blank_code : Option ℕ → List ℕ
blank_code None = 0 ∷ 0 ∷ []
blank_code (Some place) = 1 ∷ place ∷ []

abbrev pub two_code : Option Two → List ℕ
two_code None = 0 ∷ 0 ∷ 0 ∷ []
two_code (Some t) = 1 ∷ t.records ∷ t.number ∷ []

abbrev pub code : Overlay → List ℕ
code o = mark_code o.first ++ (mark_code o.second ++ (sector_code o.sector ++ (blank_code o.blank ++ two_code o.two)))

-- bytes stand in an image from a place on
pub record StandAt (image : List ℕ) (place : ℕ) (bytes : List ℕ) : Type 0 where
  pub inside : place + length bytes ≤ length image
  pub same : (k : ℕ) → k < length bytes → slice_index bytes k ≡ slice_index image (place + k)

-- a flash, what is laid over it, the page at which a write was first refused, and how many were refused
pub record FlashInView (F : Type 0) : Type 0 where
  pub inner : F
  pub overlay : Overlay
  pub spoilt : Option PageId
  pub refused : ℕ

-- the overlay lies inside the flash, and so does a page that is spoilt. One is where a write was refused
pub record IsView (size : ℕ) (overlay : Overlay) (spoilt : Option PageId) (refused : ℕ) : Type 0 where
  pub inside : FitsImage size overlay
  pub page : (p : PageId) → spoilt ≡ Some p → 256 * p.0 + 256 ≤ size
  pub unspoilt : spoilt ≡ None → refused ≡ 0

-- a flash holds and borrows what another does
pub record IsSameFlash {F : Type 0} (holds borrows : F → List ℕ) (flash other : F) : Type 0 where
  pub image : holds other ≡ holds flash
  pub lent : borrows other ≡ borrows flash

-- one refusal more, up to the last number of a u64
abbrev pub refusals_after : ℕ → ℕ
refusals_after refused = min (refused + 1) (2 ^ 64 - 1)

-- the refusals, and the faults of the flash inside
abbrev pub faults_in_all : (refused faults : ℕ) → ℕ
faults_in_all refused faults = refused + faults
