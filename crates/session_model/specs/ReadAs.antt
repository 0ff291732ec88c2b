-- What files are read as when they are opened anew, whatever their trees hold.
use Rattle.std.specs.Prelude.{◌≡◌, ℕ, true, length, get_or, map, Some, None, option_map}
use Rattle.afl_base.specs.Files.{Table, bytes_at}
use Rattle.catalog.specs.Rules.{is_tree}
use Rattle.db_model.specs.Catalog.{catalog_of}
use Rattle.space_model.specs.FileNames.{bytes_named, is_there, rows_file, tree_file}
use Rattle.stored.specs.Mended.{whole_catalog}
use Rattle.tuple_file.specs.declared.tuples.Tuples.{Tuples}
use Rattle.session_model.specs.declared.held.Held.{Held}
use Rattle.session_model.specs.declared.held.Indexed.{Indexed}
use Rattle.session_model.specs.Frames.{schema_in}
use Rattle.session_model.specs.Indexed.{index_known}

-- the catalog has the schemas and indexes that are held, each relation has the file of its slot, and each tree is there
pub record AreReadAs (files : Table) (held : Held) : Type 0 where
  pub eight : length held.relations ≡ 8
  pub eight_indexes : length held.indexes ≡ 8
  pub relations : (catalog_of (whole_catalog files)).relations ≡ map (option_map schema_in) held.relations
  pub indexes : (catalog_of (whole_catalog files)).indexes ≡ map (option_map index_known) held.indexes
  pub rows : (k : ℕ) (t : Tuples) → get_or held.relations k None ≡ Some t → bytes_named (rows_file k) files ≡ bytes_at files t.file
  pub trees : (i : ℕ) (x : Indexed) → get_or held.indexes i None ≡ Some x → is_tree (Some (index_known x)) ≡ true → is_there (tree_file i) files ≡ true
