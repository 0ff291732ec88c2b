-- What is found of the files of an image.
use Rattle.std.specs.Prelude.{◌≡◌, true, false}
use Rattle.afl_base.specs.Files.{Table}
use Rattle.space_model.specs.FileNames.{catalog_file, is_there}
use Rattle.stored.specs.CutTables.{IsCutTable}
use Rattle.run_repair.specs.declared.surveying.Surveyed.{Surveyed}
use Rattle.run_repair.specs.declared.surveying.Surveyed.TheVariants.{Strange, WithoutCatalog, Cut}

-- no cut can have left the files; or one can, and there is no catalog among them, or one
abbrev pub AreSurveyed : Table → Surveyed → Type 0
AreSurveyed files Strange = IsCutTable files → ⊥
AreSurveyed files WithoutCatalog = IsCutTable files × (is_there catalog_file files ≡ false)
AreSurveyed files Cut = IsCutTable files × (is_there catalog_file files ≡ true)
