-- What a cut left of an image: what was found, in the words of its definition, and that it lies inside the flash.
use Rattle.std.specs.Prelude.{◌≡◌, ◌≢◌, ◌⊎◌, ⊤, ◌≤◌, ◌<◌, ℕ, ◌+◌, ◌*◌, List, nat_lt, Option, Some, None, if◌then◌else◌}
use Rattle.afl_base.specs.Image.{zeros_at}
use Rattle.coffee_cuts.specs.Cuts.{IsActiveAt, IsFound, IsSuperseding, MendsTo, UnderWay as CutWay, Beginning as was_beginning, Building as was_building, Erasing as was_erasing, Naming as was_naming, Nothing as was_nothing, Replacing as was_replacing, Unnamed as was_unnamed, next_record, settled, without_two}
use Rattle.coffee_layout.specs.FileBytes.{record_place, table_of, used_in}
use Rattle.coffee_layout.specs.Files.{NamedFile, Placed}
use Rattle.coffee_layout.specs.Rules.{broken_image}
use Rattle.coffee_layout.specs.declared.unit.BadImage.{BadImage}
use Rattle.coffee_find.specs.declared.trouble.Judgement.{Judgement}
use Rattle.coffee_find.specs.declared.trouble.Judgement.TheVariants.{Sound, Cut, Strange}
use Rattle.coffee_find.specs.declared.trouble.PlacedFile.{PlacedFile}
use Rattle.coffee_find.specs.declared.trouble.TornRecord.{TornRecord}
use Rattle.coffee_find.specs.declared.trouble.Trouble.{Trouble}
use Rattle.coffee_find.specs.declared.trouble.UnderWay.{UnderWay}
use Rattle.coffee_find.specs.declared.trouble.UnderWay.TheVariants.{Nothing, Beginning, Building, Erasing, Unnamed, Naming, Replacing}

-- a file that was found, as a file of the image
abbrev pub placed_of : PlacedFile → Placed
placed_of f = record { page = f.page.0; header = f.header }

-- what was under way, in the words of its definition
abbrev pub meant : UnderWay → CutWay
meant Nothing = was_nothing
meant (Beginning page) = was_beginning page.0
meant (Building page) = was_building page.0
meant (Erasing sector page) = was_erasing sector.0 page.0
meant (Unnamed log) = was_unnamed log.0
meant (Naming page) = was_naming page.0
meant (Replacing dropped kept) = was_replacing (placed_of dropped) (placed_of kept)

-- an image is sound but for the next record of a log, which begins at a place
pub record IsTornAt (image : List ℕ) (log place : ℕ) : Type 0 where
  pub is_log : IsActiveAt image log 19
  pub free : used_in (table_of image log) < 30
  pub next : place ≡ next_record image log
  pub sound : broken_image (zeros_at image place 128) ≡ None

-- the torn record of a log is being superseded by the one behind it, or may be
pub record IsSupersededAt (image : List ℕ) (r : TornRecord) : Type 0 where
  pub superseding : IsSuperseding image
  pub log_is : superseding.log ≡ r.log
  pub used_is : superseding.file.used ≡ r.used

-- an image is sound, or it is but for a torn record: the last of its log, or one that may be superseded
abbrev pub IsSoundBut : List ℕ → Option TornRecord → Type 0
IsSoundBut image None = broken_image image ≡ None
IsSoundBut image (Some r) = ((r.used ≡ 29) × IsTornAt image r.log.0 r.place) ⊎ IsSupersededAt image r

-- the image without a torn record, and without the one behind that
abbrev pub without_record : List ℕ → Option TornRecord → List ℕ
without_record image None = image
without_record image (Some r) = if nat_lt r.used 29 then without_two image r.log.0 r.used else zeros_at image r.place 128

-- an image is what a cut left: what was under way is found in it, and once that is settled the image is sound, but for a torn record
pub record IsCutBy (image : List ℕ) (trouble : Trouble) : Type 0 where
  pub found : IsFound image (meant trouble.under_way)
  pub settles : IsSoundBut (settled image (meant trouble.under_way)) trouble.torn

-- a page lies inside a flash of this many bytes
abbrev pub HasPage : (size page : ℕ) → Type 0
HasPage size page = 256 * page + 256 ≤ size

-- what was under way lies inside the flash
abbrev pub IsInFlash : (size : ℕ) → UnderWay → Type 0
IsInFlash size Nothing = ⊤
IsInFlash size (Beginning page) = HasPage size page.0
IsInFlash size (Building page) = HasPage size page.0
IsInFlash size (Erasing sector page) = 4096 * sector.0 + 4096 ≤ size
IsInFlash size (Unnamed log) = HasPage size log.0
IsInFlash size (Naming page) = HasPage size page.0
IsInFlash size (Replacing dropped kept) = HasPage size dropped.page.0

-- the torn record and its log do
pub record IsRecordInside (size : ℕ) (r : TornRecord) : Type 0 where
  pub log : 256 * r.log.0 + 4096 ≤ size
  pub few : r.used < 30
  pub place : r.place ≡ record_place r.log.0 r.used

abbrev pub HasRecord : (size : ℕ) → Option TornRecord → Type 0
HasRecord size None = ⊤
HasRecord size (Some r) = IsRecordInside size r

-- what a cut left lies inside the flash
pub record IsTroubleInside (size : ℕ) (trouble : Trouble) : Type 0 where
  pub under_way : IsInFlash size trouble.under_way
  pub torn : HasRecord size trouble.torn

-- an image mends to no files
abbrev pub MendsToNone : List ℕ → Type 0
MendsToNone image = (files : List NamedFile) → MendsTo image files → ⊥

-- no cut leaves such an image: this is the first rule that it breaks, and it mends to no files
pub record IsBeyondMending (image : List ℕ) (bad : BadImage) : Type 0 where
  pub broken : broken_image image ≡ Some bad
  pub mends : MendsToNone image

-- what a judgement says of an image
abbrev pub IsJudged : List ℕ → Judgement → Type 0
IsJudged image Sound = broken_image image ≡ None
IsJudged image (Cut trouble) = (broken_image image ≢ None) × IsCutBy image trouble
IsJudged image (Strange bad) = IsBeyondMending image bad

-- what a judgement names lies inside the flash
abbrev pub IsJudgedInside : (size : ℕ) → Judgement → Type 0
IsJudgedInside size Sound = ⊤
IsJudgedInside size (Cut trouble) = IsTroubleInside size trouble
IsJudgedInside size (Strange bad) = ⊤
