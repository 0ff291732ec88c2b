-- What mending leaves of an image, and what may hinder it.
use Rattle.std.specs.Prelude.{◌≡◌, ◌⊎◌, ⊤, ℕ, List}
use Rattle.afl_base.specs.Files.{Table}
use Rattle.coffee_layout.specs.Marks.{IsCramped}
use Rattle.coffee_layout.specs.Tiling.{units_of}
use Rattle.db_model.specs.Database.{Database}
use Rattle.image_model.specs.Images.{IsSound, base}
use Rattle.image_model.specs.Mending.{ImageMendsTo, ImageReadsAs}
use Rattle.stored.specs.Mended.{mended_base}
use Rattle.stored_mend.specs.Mending.{IsPutRight}
use Rattle.run_repair.specs.declared.came.Hindrance.{Hindrance}
use Rattle.run_repair.specs.declared.came.Hindrance.TheVariants.{Spaceless, Unsettled, Failed}

-- an image is sound, and stands for the database that files mend to, put right
pub record IsRestored (files : Table) (image : List ℕ) : Type 0 where
  pub sound : IsSound image
  pub base_is : IsPutRight (mended_base files) (base image)

-- what may hinder a repair: that pages are lacking, or that the flash failed; never that an image is not what was found
abbrev pub IsHindered : Hindrance → Type 0
IsHindered (Spaceless need) = ⊤
IsHindered (Unsettled bad) = ⊥
IsHindered Failed = ⊤

-- ---- what is left of an image where a repair was interrupted: another repair can end what it began

-- an image mends to files that a cut can have left, and so to a database, put right
abbrev pub MendsPutRight : Database → List ℕ → Type 0
MendsPutRight db image = ImageMendsTo image (λ now. IsPutRight db now)

-- and no extent of this many pages is available in it
pub record MendsButLacks (db : Database) (image : List ℕ) (need : ℕ) : Type 0 where
  pub mends : MendsPutRight db image
  pub cramped : IsCramped (units_of image) need

-- an image still mends to the database that it mended to, put right
abbrev pub StillMends : (old new : List ℕ) → Type 0
StillMends old new = ImageReadsAs old (λ db. MendsPutRight db new)

-- and no extent of this many pages is available in it
abbrev pub StillMendsButLacks : (old new : List ℕ) → (need : ℕ) → Type 0
StillMendsButLacks old new need = ImageReadsAs old (λ db. MendsButLacks db new need)

-- it is as it was, or still mends
abbrev pub StaysOrMends : (old new : List ℕ) → Type 0
StaysOrMends old new = (new ≡ old) ⊎ StillMends old new

-- ---- what hindered it

-- P of the pages that were lacking, where that is it
abbrev pub OnSpaceless : Hindrance → (ℕ → Type 0) → Type 0
OnSpaceless (Spaceless need) P = P need
OnSpaceless (Unsettled bad) P = ⊤
OnSpaceless Failed P = ⊤

-- P, where the flash failed
abbrev pub OnFault : Hindrance → Type 0 → Type 0
OnFault (Spaceless need) P = ⊤
OnFault (Unsettled bad) P = ⊤
OnFault Failed P = P
