-- The database that a table of files stands for.
use Rattle.std.specs.Prelude.{ℕ, List, map, replicate, get_or, Option, None, option_map}
use Rattle.std.specs.List.{range_with_len}
use Rattle.afl_base.specs.Files.{Table}
use Rattle.catalog.specs.Rules.{catalog_in}
use Rattle.db_model.specs.declared.schemas.Schema.{Schema}
use Rattle.db_model.specs.Database.{Database, Relation}
use Rattle.db_model.specs.Row.{rows_of}
use Rattle.space_model.specs.FileNames.{bytes_named, rows_file}

-- the relation in a slot of the catalog, with the rows of its file
abbrev pub relation_stored : Table → List (Option Schema) → ℕ → Option Relation
relation_stored files schemas slot =
    option_map
    (λ schema. record { schema = schema; rows = rows_of schema.attributes (bytes_named (rows_file slot) files) })
    (get_or schemas slot None)

-- the catalog of the files, the rows of each relation, and no cursors
abbrev pub base_of : Table → Database
base_of files = record {
  version = (catalog_in files).version;
  relations = map (relation_stored files (catalog_in files).relations) (range_with_len 0 8);
  indexes = (catalog_in files).indexes;
  cursors = replicate 4 None;
}
