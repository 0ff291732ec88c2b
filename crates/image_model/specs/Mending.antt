-- The database that an image stands for once what a cut left of it is mended.
use Rattle.std.specs.Prelude.{ℕ, List}
use Rattle.afl_base.specs.Files.{Table}
use Rattle.coffee_volume.specs.Cuts.{MendsToFiles}
use Rattle.db_model.specs.Database.{Database}
use Rattle.stored.specs.Mended.{mended_base}
use Rattle.stored.specs.Mends.{MendsToDatabase}

-- an image mends to files that a cut can have left, which mend to a database that is so
abbrev pub ImageMendsTo : List ℕ → (Database → Type 0) → Type 0
ImageMendsTo image Is = MendsToDatabase MendsToFiles image Is

-- an image mends to files that are read as a database which is so, whatever else they hold
pub record ImageReadsAs (image : List ℕ) (Is : Database → Type 0) : Type 0 where
  pub files : Table
  pub mends_to : MendsToFiles image files
  pub is : Is (mended_base files)
