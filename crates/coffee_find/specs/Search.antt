-- What the steps of the search answer.
use Rattle.std.specs.Prelude.{slice_index, slice_range, ◌/◌, ◌≡◌, ◌≢◌, ◌⊎◌, ◌≤◌, ◌<◌, ⊤, ℕ, ◌+◌, ◌*◌, true, false, List, Option, Some, None}
use Rattle.std.specs.List.{Contains}
use Rattle.coffee_cuts.specs.Cuts.{HasTornRecord, IsActiveAt, IsHeadless, IsIdle, IsNumbered, IsSettled, IsSuperseding, next_record}
use Rattle.coffee_header.specs.declared.header.Header.{Header}
use Rattle.coffee_layout.specs.FileBytes.{file_byte, table_of, used_in}
use Rattle.coffee_layout.specs.Files.{Placed, files_in, is_file, listed}
use Rattle.afl_base.specs.declared.ids.PageId.{PageId}
use Rattle.coffee_layout.specs.Rules.{broken_image}
use Rattle.coffee_layout.specs.Tiling.{IsTiled, nowhere, units_of}
use Rattle.coffee_layout.specs.Units.{is_active, unit_at}
use Rattle.padded.specs.Zeros.{is_zeros}
use Rattle.coffee_layout.specs.declared.file.FileAt.{FileAt}
use Rattle.coffee_layout.specs.declared.unit.Unit.{Unit}
use Rattle.coffee_layout.specs.declared.unit.Unit.TheVariants.{Extent, Free}
use Rattle.coffee_merge.specs.Begun.{unit_begun}
use Rattle.coffee_find.specs.Found.{HasRecord, placed_of}
use Rattle.coffee_find.specs.declared.trouble.PlacedFile.{PlacedFile}
use Rattle.coffee_find.specs.declared.trouble.TornRecord.{TornRecord}
use Rattle.coffee_find.specs.declared.settling.Verdict.{Verdict}
use Rattle.coffee_find.specs.declared.settling.Verdict.TheVariants.{Sound, Torn, Broken}

-- where a unit with these pages has one in a sector, it is not active
abbrev pub AreIdle : Unit → (page next sector : ℕ) → Type 0
AreIdle u page next sector = (q : ℕ) → page ≤ q → q < next → 16 * sector ≤ q → q < 16 * sector + 16 → is_active u ≡ false

-- a unit with these pages is active, and has one in a sector
pub record HasActivePart (u : Unit) (page next sector : ℕ) : Type 0 where
  pub active : is_active u ≡ true
  pub from : 16 * sector < next
  pub to : page < 16 * sector + 16

-- a record is the next one of an active log
pub record IsNextRecord (image : List ℕ) (r : TornRecord) : Type 0 where
  pub is_log : IsActiveAt image r.log.0 19
  pub free : used_in (table_of image r.log.0) < 30
  pub used : r.used ≡ used_in (table_of image r.log.0)
  pub next : r.place ≡ next_record image r.log.0

-- an image is sound, or a record of it may be torn, or else nothing is known
abbrev pub IsVerdict : List ℕ → Verdict → Type 0
IsVerdict image Sound = broken_image image ≡ None
IsVerdict image (Torn r) = IsNextRecord image r
IsVerdict image Broken = ⊤

-- the record that may be torn lies inside the flash
abbrev pub HasTorn : (size : ℕ) → Verdict → Type 0
HasTorn size Sound = ⊤
HasTorn size (Torn r) = HasRecord size (Some r)
HasTorn size Broken = ⊤

-- a unit is an extent with these flags
pub record HasFlags (u : Unit) (flags : ℕ) : Type 0 where
  pub header : Header
  pub is : u ≡ Extent header
  pub flags_are : header.flags ≡ flags

-- an active file stands in an image
abbrev pub IsFileIn : List ℕ → PlacedFile → Type 0
IsFileIn image f = Contains (files_in (units_of image)) (placed_of f)

-- two active files have one name, and the first stands before the second
pub record AreTwins (image : List ℕ) (first second : PlacedFile) : Type 0 where
  pub first_there : IsFileIn image first
  pub second_there : IsFileIn image second
  pub order : first.page.0 < second.page.0
  pub one_name : first.header.name ≡ second.header.name

-- a unit at a page is an active file
pub record IsFileAt (u : Unit) (page : ℕ) (f : PlacedFile) : Type 0 where
  pub at : f.page.0 ≡ page
  pub is : u ≡ Extent f.header
  pub active : is_file (placed_of f) ≡ true

-- a page lies in a sector
pub record LiesInSector (sector page : ℕ) : Type 0 where
  pub from : 16 * sector ≤ page
  pub within : page < 16 * sector + 16

-- the first page of a sector at which a unit begins is free, and the sector has no active page
pub record IsFreeFront (image : List ℕ) (sector page : ℕ) : Type 0 where
  pub begins : unit_begun (units_of image) 0 page ≡ Some Free
  pub idle : IsIdle (units_of image) sector

-- no free page begins at a page from one up to another
abbrev pub NoneFree : List ℕ → (from to : ℕ) → Type 0
NoneFree image from to = (page : ℕ) → from ≤ page → page < to
    → unit_begun (units_of image) 0 page ≡ Some Free → ⊥

-- where the units tile an image, no page of a sector is such a first one
abbrev pub HasNoFront : List ℕ → (sector : ℕ) → Type 0
HasNoFront image sector = IsTiled nowhere image (units_of image)
    → (page : ℕ) → LiesInSector sector page → IsFreeFront image sector page → ⊥

-- a sector is zero up to a page in it, and that is blank
pub record IsBlankFrom (image : List ℕ) (sector page : ℕ) : Type 0 where
  pub zeros : is_zeros (slice_range image (4096 * sector) (256 * page)) ≡ true
  pub blank : IsHeadless image page

-- a unit is an extent without pages
pub record IsEmpty (u : Unit) : Type 0 where
  pub header : Header
  pub is : u ≡ Extent header
  pub empty : header.max_pages ≡ 0

-- a name is the one that is looked for, if one is
abbrev pub IsWanted : Option (List ℕ) → List ℕ → Type 0
IsWanted None name = ⊤
IsWanted (Some wanted) name = name ≡ wanted

-- no active file from a page up to another has the wanted name
abbrev pub HasNoFile : List ℕ → (from to : ℕ) → Option (List ℕ) → Type 0
HasNoFile image from to wanted = (f : Placed) → Contains (files_in (units_of image)) f
    → from ≤ f.page → f.page < to → IsWanted wanted f.header.name → ⊥

-- a unit at a page is no active file that is looked for
abbrev pub IsNoFile : Unit → (page from : ℕ) → Option (List ℕ) → Type 0
IsNoFile u page from wanted = (f : Placed) → u ≡ Extent f.header → f.page ≡ page → is_file f ≡ true
    → from ≤ page → IsWanted wanted f.header.name → ⊥

-- a unit is none of an extent under construction, a file without a log, or a log
abbrev pub IsOfOthers : Unit → Type 0
IsOfOthers u = (h : Header) → u ≡ Extent h → (h.flags ≢ 2) × (h.flags ≢ 3) × (h.flags ≢ 19)

-- no such one begins at a page
abbrev pub ShowsNoHeader : List ℕ → ℕ → Type 0
ShowsNoHeader image page = (flags : ℕ) → (flags ≡ 2) ⊎ ((flags ≡ 3) ⊎ (flags ≡ 19)) → IsActiveAt image page flags → ⊥

-- no unit begins at a page, and all after it in its sector is zero
pub record IsTornHead (image : List ℕ) (page : ℕ) : Type 0 where
  pub torn : unit_at image page ≡ None
  pub last : is_zeros (slice_range image (256 * page + 256) (4096 * (page / 16) + 4096)) ≡ true

-- the image breaks a rule, and no record but that of one log may be torn, or be superseded
pub record IsTornAtMost (image : List ℕ) (log : ℕ) : Type 0 where
  pub broken : broken_image image ≢ None
  pub torn : (t : HasTornRecord image) → t.log ≡ log
  pub superseding : (t : IsSuperseding image) → t.log.0 ≡ log

-- what a verdict leaves open: the record of no other log may be torn, and an image of which nothing is known is not settled
abbrev pub MissesNone : List ℕ → Verdict → Type 0
MissesNone image Sound = ⊤
MissesNone image (Torn r) = IsTornAtMost image r.log.0
MissesNone image Broken = IsSettled image → ⊥

-- bytes that stand behind a torn record are a front part of a region and zeros, with a number that goes with that
pub record IsBegunOf (record_bytes region : List ℕ) (number size : ℕ) : Type 0 where
  pub done : ℕ
  pub within : done ≤ 128
  pub numbered : IsNumbered number done size
  pub front : (k : ℕ) → k < done → slice_index record_bytes k ≡ slice_index region k
  pub rest : (k : ℕ) → done ≤ k → k < 128 → slice_index record_bytes k ≡ 0

-- one of 128 bytes, from one on, is not zero
pub record HasOtherFrom (bytes : List ℕ) (from : ℕ) : Type 0 where
  pub at : ℕ
  pub behind : from ≤ at
  pub below : at < 128
  pub other : slice_index bytes at ≢ 0

-- a file that is listed in an image has a log, and these are the bytes of its first region
pub record IsFirstRegion (image : List ℕ) (log : PageId) (file : FileAt) (region : List ℕ) : Type 0 where
  pub sound : broken_image image ≡ None
  pub there : Contains (listed image) file
  pub logged : file.log ≡ Some log
  pub bytes : (k : ℕ) → k < 128 → slice_index region k ≡ file_byte image file.page.0 file.log k

-- an image is not sound, or no file that is listed in it has the log
abbrev pub NamesNone : List ℕ → PageId → Type 0
NamesNone image log = broken_image image ≡ None → (file : FileAt) → Contains (listed image) file → file.log ≡ Some log → ⊥
