-- What is so of a catalog that was read, also where files do not tell their bytes.
use Rattle.std.specs.Prelude.{◌≡◌, ◌⊎◌, ℕ, Bool, true, List, length, take, get_or, Option, Some, None}
use Rattle.afl_base.specs.Files.{IsNamed, Table, size_at}
use Rattle.catalog.specs.declared.types.Catalog.{Catalog}
use Rattle.catalog.specs.CatalogFile.{IsCatalogSize, indexes_in}
use Rattle.catalog.specs.Rules.{is_behind, is_schema}
use Rattle.db_model.specs.declared.schemas.Schema.{Schema}
use Rattle.db_model.specs.Catalog.{Index}
use Rattle.space_model.specs.FileNames.{catalog_file}

-- the slot is unused, or has a schema of the version
abbrev pub is_schema_slot : ℕ → Option Schema → Bool
is_schema_slot version None = true
is_schema_slot version (Some schema) = is_schema version schema

abbrev pub AreSchemas : ℕ → List (Option Schema) → Type 0
AreSchemas version relations = (k : ℕ) → is_schema_slot version (get_or relations k None) ≡ true

-- each index may stand after those before it
abbrev pub AreBehind : List (Option Schema) → List (Option Index) → Type 0
AreBehind relations indexes = (i : ℕ) → is_behind relations (take i indexes) (get_or indexes i None) ≡ true

-- eight slots of each kind, with schemas of the version, and indexes that may stand after those before them
pub record IsFormed (catalog : Catalog) : Type 0 where
  pub version : (catalog.version ≡ 1) ⊎ (catalog.version ≡ 2)
  pub eight_relations : length catalog.relations ≡ 8
  pub eight_indexes : length catalog.indexes ≡ 8
  pub schemas : AreSchemas catalog.version catalog.relations
  pub indexes : AreBehind catalog.relations (indexes_in catalog.indexes)

-- the catalog's file, if there is one, is empty or of the size of a version
abbrev pub HasCatalogSize : Table → Type 0
HasCatalogSize files = (id : ℕ) → IsNamed files id catalog_file → IsCatalogSize (size_at files id)
