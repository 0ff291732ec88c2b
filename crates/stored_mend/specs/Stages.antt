-- The files of a database while they are repaired, stage by stage.
use Rattle.std.specs.Prelude.{◌≡◌, ℕ, false, get_or, Some, None}
use Rattle.afl_base.specs.Files.{Table}
use Rattle.catalog.specs.Rules.{catalog_in, first_broken, is_stranger}
use Rattle.db_model.specs.Catalog.{Catalog, Index}
use Rattle.db_model.specs.Step.{keys}
use Rattle.db_model.specs.declared.schemas.Schema.{Schema}
use Rattle.space_model.specs.Enough.{rows_in}
use Rattle.space_model.specs.FileNames.{bytes_named, rows_file, tree_file}
use Rattle.stored.specs.CutTables.{HoldsRowsOr, IsIndexWhile, relation}
use Rattle.stored.specs.Mended.{mended_base, mended_catalog}
use Rattle.stored.specs.declared.half.Half.{Half}
use Rattle.tuple_file.specs.Tuples.{AreRows}

-- the catalog and the files that it asks for keep the rules 14 to 18, and of rows and trees one thing at most is half done
pub record IsCatalogSound (files : Table) (half : Half) : Type 0 where
  pub known : (id : ℕ) → is_stranger files id ≡ false
  pub catalog : first_broken files ≡ None
  pub rows : (k : ℕ) (schema : Schema) → relation files k ≡ Some schema
      → HoldsRowsOr half (mended_catalog files).version k schema.attributes (bytes_named (rows_file k) files)
  pub keys : (i : ℕ) (index : Index) → get_or (mended_catalog files).indexes i None ≡ Some index
      → IsIndexWhile half index (bytes_named (tree_file i) files) (keys index.attribute (rows_in (mended_base files) index.relation))

-- so it is with files whose catalog was read
pub record IsReadSound (read : Catalog) (files : Table) (half : Half) : Type 0 where
  pub same : read ≡ catalog_in files
  pub stage : IsCatalogSound files half

-- the same, with whole rows in every relation
pub record HasWholeRelations (files : Table) (half : Half) : Type 0 where
  pub stage : IsCatalogSound files half
  pub rows : (k : ℕ) (schema : Schema) → relation files k ≡ Some schema
      → AreRows (mended_catalog files).version schema.attributes (bytes_named (rows_file k) files)
