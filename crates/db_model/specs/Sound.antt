-- A sound database: what holds of an empty one, and is kept by each command.
use Rattle.std.specs.Prelude.{◌≡◌, ℕ, ℤ, ◌≤◌, ◌⊎◌, Bool, true, not, ◌&&◌, List, [], ◌∷◌, map, length, filter, get_or, Option, Some, None, IsTrue, ⊤, is_some, slice_get}
use Rattle.std.specs.List.{AllByRecursion}
use Rattle.db_model.specs.declared.commands.Command.{Command}
use Rattle.db_model.specs.declared.commands.Command.TheVariants.{CreateRelation, CreateAttribute}
use Rattle.db_model.specs.declared.schemas.Attribute.{Attribute}
use Rattle.db_model.specs.declared.schemas.Domain.TheVariants.{Time}
use Rattle.db_model.specs.declared.schemas.IndexKind.{IndexKind}
use Rattle.db_model.specs.declared.schemas.IndexKind.TheVariants.{Inline, MaxHeap, MemHash}
use Rattle.db_model.specs.declared.schemas.Schema.{Schema}
use Rattle.db_model.specs.Catalog.{Index, IsDomain}
use Rattle.db_model.specs.Database.{Relation, Cursor, Database, used_things, is_among, is_hash_table, most_tables, relation_named}
use Rattle.db_model.specs.Names.{is_name}
use Rattle.db_model.specs.Row.{AllRowsSuit, row_length}
use Rattle.db_model.specs.Step.{allows, keys, first_fall, slots_limit}

-- what stands in the slot k
abbrev pub StandsIn : {A : Type 0} → List (Option A) → ℕ → A → Type 0
StandsIn slots k x = get_or slots k None ≡ Some x

-- ---- relations

-- no name stands twice
abbrev pub are_distinct : List (List ℕ) → Bool
are_distinct [] = true
are_distinct (name ∷ names) = not (is_among name names) && are_distinct names

abbrev pub attribute_names : List Attribute → List (List ℕ)
attribute_names attributes = map (λ a. a.name) attributes

-- a NAME and a domain, TIME in version 2 alone
pub record IsSoundAttribute (version : ℕ) (a : Attribute) : Type 0 where
  pub name : IsTrue (is_name a.name)
  pub domain : IsDomain a.domain
  pub time : a.domain ≡ Time → version ≡ 2

pub record IsSoundSchema (version : ℕ) (schema : Schema) : Type 0 where
  pub name : IsTrue (is_name schema.name)
  pub few : length schema.attributes ≤ 8
  pub attributes : AllByRecursion (IsSoundAttribute version) schema.attributes
  pub distinct : IsTrue (are_distinct (attribute_names schema.attributes))
  pub short : row_length schema.attributes ≤ 128

pub record IsSoundRelation (version : ℕ) (r : Relation) : Type 0 where
  pub schema : IsSoundSchema version r.schema
  pub rows : AllRowsSuit r.schema.attributes r.rows
  pub slots : length r.rows ≤ slots_limit version
  -- no row is of a relation without attributes
  pub filled : r.schema.attributes ≡ [] → r.rows ≡ []

-- ---- indexes

-- what a kind of index asks of the keys
abbrev pub SuitKind : IndexKind → List ℤ → Type 0
SuitKind Inline keys = first_fall keys ≡ None
SuitKind MaxHeap keys = ⊤
SuitKind MemHash keys = length keys ≤ 2048

-- an index is on an attribute of a relation that allows it, and the keys suit its kind
pub record IsIndexOf (r : Relation) (index : Index) : Type 0 where
  pub attribute : Attribute
  pub placed : slice_get r.schema.attributes index.attribute ≡ Some attribute
  pub allowed : allows index.kind attribute.domain ≡ true
  pub keys : SuitKind index.kind (keys index.attribute r.rows)

-- it is one of the relation in its slot
pub record IsSoundIndex (relations : List (Option Relation)) (index : Index) : Type 0 where
  pub relation : Relation
  pub stands : StandsIn relations index.relation relation
  pub suits : IsIndexOf relation index

-- ---- cursors

-- the relations that a cursor reads are there
abbrev pub IsSoundCursor : Database → Cursor → Type 0
IsSoundCursor db cursor = AllByRecursion (λ name. is_some (relation_named db name) ≡ true) cursor.reads

-- ---- databases

pub record IsSoundDatabase (db : Database) : Type 0 where
  pub version : (db.version ≡ 1) ⊎ (db.version ≡ 2)
  pub eight_relations : length db.relations ≡ 8
  pub eight_indexes : length db.indexes ≡ 8
  pub four_cursors : length db.cursors ≡ 4
  pub relations : (k : ℕ) (r : Relation) → StandsIn db.relations k r → IsSoundRelation db.version r
  -- no two relations have one name
  pub names : (j k : ℕ) (q r : Relation) → StandsIn db.relations j q → StandsIn db.relations k r → q.schema.name ≡ r.schema.name → j ≡ k
  pub indexes : (k : ℕ) (index : Index) → StandsIn db.indexes k index → IsSoundIndex db.relations index
  -- no two indexes are on one place
  pub places : (j k : ℕ) (a b : Index) → StandsIn db.indexes j a → StandsIn db.indexes k b → a.relation ≡ b.relation → a.attribute ≡ b.attribute → j ≡ k
  pub few_tables : length (filter is_hash_table (used_things db.indexes)) ≤ most_tables
  pub cursors : (k : ℕ) (cursor : Cursor) → StandsIn db.cursors k cursor → IsSoundCursor db cursor

-- ---- commands

-- the names that a command brings in are NAMEs
abbrev pub BringsNames : Command → Type 0
BringsNames (CreateRelation name) = IsTrue (is_name name)
BringsNames (CreateAttribute name domain relation) = IsTrue (is_name name)
BringsNames _ = ⊤
