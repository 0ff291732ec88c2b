-- The files of a database, with the sizes that it says.
use Rattle.std.specs.Prelude.{◌≡◌, ◌⊎◌, ℕ, length, get_or, Some, None}
use Rattle.afl_base.specs.Files.{AreDistinct, File, Table, place}
use Rattle.afl_base.specs.declared.kind.Kind.TheVariants.{Doubling, Fixed}
use Rattle.db_model.specs.declared.schemas.IndexKind.TheVariants.{MaxHeap}
use Rattle.db_model.specs.Catalog.{Index}
use Rattle.db_model.specs.Database.{Relation, Database}
use Rattle.db_model.specs.Step.{keys}
use Rattle.space_model.specs.Enough.{rows_in, rows_size, tree_size}
use Rattle.space_model.specs.FileNames.{catalog_file, rows_file, tree_file}

pub record IsCatalogFile (f : File) : Type 0 where
  pub name : f.name ≡ catalog_file
  pub kind : f.kind ≡ Fixed 6

pub record IsRowsOf (db : Database) (f : File) : Type 0 where
  pub slot : ℕ
  pub relation : Relation
  pub there : get_or db.relations slot None ≡ Some relation
  pub name : f.name ≡ rows_file slot
  pub kind : f.kind ≡ Doubling
  pub size : length f.bytes ≡ rows_size relation

pub record IsTreeFileOf (db : Database) (f : File) : Type 0 where
  pub slot : ℕ
  pub index : Index
  pub there : get_or db.indexes slot None ≡ Some index
  pub heap : index.kind ≡ MaxHeap
  pub name : f.name ≡ tree_file slot
  pub kind : f.kind ≡ Doubling
  pub size : length f.bytes ≡ tree_size (keys index.attribute (rows_in db index.relation))

-- no file but those of a database
pub record HasFilesOf (db : Database) (files : Table) : Type 0 where
  pub distinct : AreDistinct files
  pub each : (id : ℕ) (f : File) → place files id ≡ Some f → IsCatalogFile f ⊎ (IsRowsOf db f ⊎ IsTreeFileOf db f)
