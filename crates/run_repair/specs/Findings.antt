-- What an image is found to be.
use Rattle.std.specs.Prelude.{◌≡◌, ⊤, ℕ, Bool, true, false, List, Option, Some, None}
use Rattle.afl_base.specs.Files.{Table}
use Rattle.afl_base.specs.declared.ids.SectorId.{SectorId}
use Rattle.coffee_cuts.specs.Cuts.{settled}
use Rattle.coffee_find.specs.Found.{IsCutBy, IsTroubleInside, meant, without_record}
use Rattle.coffee_find.specs.declared.trouble.Trouble.{Trouble}
use Rattle.coffee_find.specs.declared.trouble.UnderWay.{UnderWay}
use Rattle.coffee_find.specs.declared.trouble.UnderWay.TheVariants.{Erasing}
use Rattle.coffee_volume.specs.Cuts.{MendsToFiles}
use Rattle.image_model.specs.Images.{IsFirstBroken, IsSound, files_of_image}
use Rattle.space_model.specs.FileNames.{catalog_file, is_there}
use Rattle.stored.specs.CutTables.{IsCutTable}
use Rattle.run_repair.specs.Rooms.{FindsRoom}
use Rattle.run_repair.specs.declared.finding.Finding.{Finding}
use Rattle.run_repair.specs.declared.finding.Finding.TheVariants.{Sound, Cut, Strange}

-- ---- the image as it reads

-- the image, once what a cut left of its files is settled, without the torn record
abbrev pub settled_image : List ℕ → Trouble → List ℕ
settled_image image trouble = without_record (settled image (meant trouble.under_way)) trouble.torn

-- the sector that was being erased
abbrev pub erased_sector : UnderWay → Option SectorId
erased_sector (Erasing sector page) = Some sector
erased_sector _ = None

-- ---- its database

-- a sector was being erased, although there is no catalog, and the pages of one are free in front of that sector
pub record ErasesInVain (image : List ℕ) (erased : Option SectorId) : Type 0 where
  pub without : is_there catalog_file (files_of_image image) ≡ false
  pub room : FindsRoom image erased

-- a cut can have left the database, while this sector was being erased: its files are such ones, and the sector was
-- not erased in vain
pub record IsCutDatabase (image : List ℕ) (erased : Option SectorId) : Type 0 where
  pub files : IsCutTable (files_of_image image)
  pub needed : ErasesInVain image erased → ⊥

-- the answer whether that is so is right
abbrev pub IsSurveyed : List ℕ → (erased : Option SectorId) → Bool → Type 0
IsSurveyed image erased true = IsCutDatabase image erased
IsSurveyed image erased false = IsCutTable (files_of_image image) → ErasesInVain image erased

-- ---- the image as it is

-- a cut left this of the files of an image, and can have left its database
pub record IsLeftByCut (image : List ℕ) (trouble : Trouble) : Type 0 where
  pub files : IsCutBy image trouble
  pub database : IsCutDatabase (settled_image image trouble) (erased_sector trouble.under_way)

-- a cut can have left the image
abbrev pub MayBeCut : List ℕ → Type 0
MayBeCut image = (trouble : Trouble) × IsLeftByCut image trouble

-- a cut left this of the files of an image, in which a sector was erased in vain
pub record IsErasedInVain (image : List ℕ) (trouble : Trouble) : Type 0 where
  pub files : IsCutBy image trouble
  pub in_vain : ErasesInVain (settled_image image trouble) (erased_sector trouble.under_way)

-- no cut can have left the image: it mends to no files that a cut can have left, or to ones without a catalog, and a
-- sector was erased in vain
abbrev pub IsOfNoCut : List ℕ → Type 0
IsOfNoCut image = (files : Table) → MendsToFiles image files → IsCutTable files
    → (is_there catalog_file files ≡ false) × (trouble : Trouble) × IsErasedInVain image trouble

-- no cut can have left the image, of which this is the first broken rule
pub record IsStrange (image : List ℕ) (rule place : ℕ) : Type 0 where
  pub first : IsFirstBroken image rule place
  pub of_no_cut : IsOfNoCut image

-- ---- what is said of it

-- what is said of an image is true of it
abbrev pub IsTrueOf : List ℕ → Finding → Type 0
IsTrueOf image Sound = IsSound image
IsTrueOf image (Cut trouble bad) = (IsSound image → ⊥) × IsLeftByCut image trouble
IsTrueOf image (Strange bad) = IsStrange image bad.rule bad.place

-- what a cut left lies inside a flash of this many bytes
abbrev pub IsFindingInside : (size : ℕ) → Finding → Type 0
IsFindingInside size Sound = ⊤
IsFindingInside size (Cut trouble bad) = IsTroubleInside size trouble
IsFindingInside size (Strange bad) = ⊤
