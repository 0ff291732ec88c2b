-- What a store mends to: files that a cut can have left, and the database that they are read as.
use Rattle.std.specs.Prelude.{ℕ, List}
use Rattle.afl_base.specs.Files.{Table}
use Rattle.db_model.specs.Database.{Database}
use Rattle.stored.specs.CutTables.{IsCutTable}
use Rattle.stored.specs.Mended.{mended_base}

-- a store mends to files that a cut can have left, which mend to a database that is so
pub record MendsToDatabase (mends : List ℕ → Table → Type 0) (store : List ℕ) (Is : Database → Type 0) : Type 0 where
  pub files : Table
  pub mends_to : mends store files
  pub cut : IsCutTable files
  pub is : Is (mended_base files)
