-- What a catalog in memory stands for, and a catalog in which one slot is replaced.
use Rattle.std.specs.Prelude.{ℕ, Option, set}
use Rattle.catalog.specs.declared.types.Catalog.{Catalog}
use Rattle.catalog.specs.CatalogFile.{indexes_in}
use Rattle.db_model.specs.declared.schemas.Schema.{Schema}
use Rattle.db_model.specs.Catalog.{Catalog as Slots, Index}

-- the version and the slots of a catalog in memory
abbrev pub catalog_slots : Catalog → Slots
catalog_slots catalog = record { version = catalog.version; relations = catalog.relations; indexes = indexes_in catalog.indexes }

-- one relation slot is another, and the version is 2
abbrev pub relation_replaced : Slots → ℕ → Option Schema → Slots
relation_replaced catalog slot relation = record { version = 2; relations = set catalog.relations slot relation; indexes = catalog.indexes }

-- one index slot is another, and the version is 2
abbrev pub index_replaced : Slots → ℕ → Option Index → Slots
index_replaced catalog slot index = record { version = 2; relations = catalog.relations; indexes = set catalog.indexes slot index }
