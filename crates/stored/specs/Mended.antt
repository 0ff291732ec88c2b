-- The database that files mend to: that which they are read as, slot by slot, whatever a cut left of a change.
use Rattle.std.specs.Prelude.{ℕ, Bool, true, false, not, ◌&&◌, List, [], get_or, length, map, nat_lt, replicate, Option, Some, None, if◌then◌else◌}
use Rattle.std.specs.List.{list_any, range_with_len}
use Rattle.afl_base.specs.Files.{Table}
use Rattle.catalog.specs.Rules.{catalog_bytes_in, is_tree}
use Rattle.db_model.specs.declared.schemas.Domain.{Domain}
use Rattle.db_model.specs.declared.schemas.Domain.TheVariants.{Time}
use Rattle.db_model.specs.declared.schemas.Schema.{Schema}
use Rattle.db_model.specs.Catalog.{Catalog, Index, catalog_of, version_of}
use Rattle.db_model.specs.Database.{Database}
use Rattle.space_model.specs.FileNames.{is_there, tree_file}
use Rattle.stored.specs.Base.{relation_stored}

-- the bytes of a catalog, none where they are fewer than those of version 1: then there was no relation
abbrev pub whole_bytes : List ℕ → List ℕ
whole_bytes bytes = if nat_lt (length bytes) 1472 then [] else bytes

abbrev pub whole_catalog : Table → List ℕ
whole_catalog files = whole_bytes (catalog_bytes_in files)

abbrev pub is_time_domain : Domain → Bool
is_time_domain Time = true
is_time_domain _ = false

-- whether a relation has an attribute that only version 2 has
abbrev pub has_time : Option Schema → Bool
has_time None = false
has_time (Some schema) = list_any (λ a. is_time_domain a.domain) schema.attributes

-- version 2 too where a relation needs it and the mark is not there yet
abbrev pub mended_version : List ℕ → ℕ
mended_version bytes = if list_any has_time (catalog_of bytes).relations then 2 else version_of bytes

-- an index, where its tree is there if it has one
abbrev pub standing : Table → ℕ → Option Index → Option Index
standing files slot index = if is_tree index && not (is_there (tree_file slot) files) then None else index

-- relations and indexes as their slots are read: a slot without a name is unused, and an attribute after their number is none
unfoldable pub mended_catalog : Table → Catalog
mended_catalog files = let read = catalog_of (whole_catalog files) in record {
  version = mended_version (whole_catalog files);
  relations = read.relations;
  indexes = map (λ slot. standing files slot (get_or read.indexes slot None)) (range_with_len 0 8);
}

-- the whole rows of each relation, and no cursors
unfoldable pub mended_base : Table → Database
mended_base files = let catalog = mended_catalog files in record {
  version = catalog.version;
  relations = map (relation_stored files catalog.relations) (range_with_len 0 8);
  indexes = catalog.indexes;
  cursors = replicate 4 None;
}
