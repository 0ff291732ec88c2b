-- What is read of a database by slots.
use Rattle.std.specs.Prelude.{◌≡◌, ℕ, ℤ, List, get_or, Option, Some, None, option_map}
use Rattle.db_model.specs.declared.schemas.IndexKind.TheVariants.{MaxHeap}
use Rattle.db_model.specs.declared.schemas.Schema.{Schema}
use Rattle.db_model.specs.Catalog.{Index}
use Rattle.db_model.specs.Database.{Database, Relation}
use Rattle.db_model.specs.Row.{Row, no_row}
use Rattle.db_model.specs.Step.{keys}
use Rattle.index_set.specs.declared.info.Access.TheVariants.{Order, Tree, Table}
use Rattle.session_model.specs.declared.held.Indexed.{Indexed}
use Rattle.space_model.specs.Enough.{rows_in}

abbrev pub relation_in_slot : Database → ℕ → Option Relation
relation_in_slot db slot = get_or db.relations slot None

abbrev pub index_in_slot : Database → ℕ → Option Index
index_in_slot db slot = get_or db.indexes slot None

abbrev pub schema_at : Database → ℕ → Option Schema
schema_at db slot = option_map (λ relation. relation.schema) (relation_in_slot db slot)

-- a row of the relation in a slot
abbrev pub row_in_slot : Database → ℕ → ℕ → Row
row_in_slot db relation slot = get_or (rows_in db relation) slot no_row

-- the keys of all rows at an index's attribute
abbrev pub keys_at_index : Database → Index → List ℤ
keys_at_index db index = keys index.attribute (rows_in db index.relation)

-- the file of a hash tree
abbrev pub tree_of : Indexed → Option ℕ
tree_of index = elim index.access [ Order ↦ None | Tree file ↦ Some file | Table number ↦ None ]

-- the index in a slot is a hash tree
abbrev pub IsTreeAt : Database → ℕ → Type 0
IsTreeAt db slot = (index : Index) × (index_in_slot db slot ≡ Some index) × (index.kind ≡ MaxHeap)
