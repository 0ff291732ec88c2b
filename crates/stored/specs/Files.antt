-- Which files stand beside a sound catalog.
use Rattle.std.specs.Prelude.{◌≤◌, ◌<◌, ◌⊎◌, ℕ, Bool, true, false, List, get_or, None, is_some}
use Rattle.afl_base.specs.Files.{IsLive, IsNamed, IsUnnamed, Table, size_at, used}
use Rattle.catalog.specs.CatalogFile.{IsCatalogSize}
use Rattle.catalog.specs.Rules.{catalog_in, is_tree}
use Rattle.space_model.specs.FileNames.{catalog_file, rows_file, tree_file}
use Rattle.space_model.specs.Wants.{IsGrowing, IsOfSixPages}

-- a growing file has the name
pub record HasGrowing (files : Table) (name : List ℕ) : Type 0 where
  pub id : ℕ
  pub named : IsNamed files id name
  pub growing : IsGrowing files id

-- the catalog has 6 pages, and is empty or of the size of a version
pub record HasCatalog (files : Table) : Type 0 where
  pub id : ℕ
  pub named : IsNamed files id catalog_file
  pub fixed : IsOfSixPages files id
  pub size : IsCatalogSize (size_at files id)

-- the file is there where it is wanted, and else none has its name
abbrev pub IsMatched : Table → List ℕ → Bool → Type 0
IsMatched files name true = HasGrowing files name
IsMatched files name false = IsUnnamed files name

-- a catalog or none, the rows of each relation, the tree of each index that has one, and no other file: at most 17
pub record HasItsFiles (files : Table) : Type 0 where
  pub catalog : HasCatalog files ⊎ IsUnnamed files catalog_file
  pub rows : (slot : ℕ) → slot < 8 → IsMatched files (rows_file slot) (is_some (get_or (catalog_in files).relations slot None))
  pub trees : (slot : ℕ) → slot < 8 → IsMatched files (tree_file slot) (is_tree (get_or (catalog_in files).indexes slot None))
  pub kinds : (id : ℕ) → IsLive files id → IsGrowing files id ⊎ IsOfSixPages files id
  pub few : used files ≤ 17
