-- Sound images of a flash, and the database that each stands for.
use Rattle.std.specs.Prelude.{◌≡◌, ◌⊎◌, ℕ, ◌-◌, List, ◌++◌, map, length, replicate, Some, None}
use Rattle.afl_base.specs.Files.{File, Table}
use Rattle.coffee_layout.specs.Files.{NamedFile, files_of}
use Rattle.coffee_layout.specs.Rules.{broken_image}
use Rattle.db_model.specs.Database.{Database}
use Rattle.stored.specs.Base.{base_of}
use Rattle.stored.specs.Sound.{BreaksFirst, IsSoundTable}

abbrev pub file_from : NamedFile → File
file_from f = record { name = f.name; kind = f.kind; bytes = f.bytes; records = 0; room = 0 }

-- the files of an image in page order, under the ids from 0 on; a table has 32 places
unfoldable pub files_of_image : List ℕ → Table
files_of_image image = map (λ f. Some (file_from f)) (files_of image) ++ replicate (32 - length (files_of image)) None

-- the database that an image stands for
unfoldable pub base : List ℕ → Database
base image = base_of (files_of_image image)

-- the rules 1 to 13, of units, files and logs, and the rules 14 to 20, of the database in the files
pub record IsSound (image : List ℕ) : Type 0 where
  pub volume : broken_image image ≡ None
  pub database : IsSoundTable (files_of_image image)

-- this is the first broken rule of the image, and its first place
abbrev pub IsFirstBroken : List ℕ → (rule place : ℕ) → Type 0
IsFirstBroken image rule place =
    (broken_image image ≡ Some (record { rule = rule; place = place })) ⊎ ((broken_image image ≡ None) × BreaksFirst (files_of_image image) rule place)
