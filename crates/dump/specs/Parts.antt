-- The parts of a script, as they are written.
use Rattle.std.specs.Prelude.{ℕ, zero, suc, ◌+◌, List, [], ◌∷◌, ◌++◌, flat_map, length, Option, Some, None, if◌then◌else◌}
use Rattle.db_model.specs.declared.commands.Command.TheVariants.{CreateRelation}
use Rattle.db_model.specs.declared.schemas.Attribute.{Attribute}
use Rattle.db_model.specs.declared.schemas.Schema.{Schema}
use Rattle.db_model.specs.Catalog.{Index}
use Rattle.db_model.specs.Database.{Relation}
use Rattle.db_model.specs.Row.{Row}
use Rattle.dump_model.specs.Script.{attribute_command, command_line, index_command, row_command}

-- a comma and a space, unless the place in the list is the first
abbrev pub comma_and_space : ℕ → List ℕ
comma_and_space zero = []
comma_and_space (suc n) = 44 ∷ 32 ∷ []

abbrev pub attribute_line : List ℕ → Attribute → List ℕ
attribute_line relation a = command_line (attribute_command relation a)

abbrev pub attribute_lines : List ℕ → List Attribute → List ℕ
attribute_lines relation attributes = flat_map (attribute_line relation) attributes

-- none for a removed row
abbrev pub row_lines : List ℕ → Row → List ℕ
row_lines relation row = if row.live then command_line (row_command relation row.tuple) else []

abbrev pub schema_lines : Schema → List ℕ
schema_lines schema = command_line (CreateRelation schema.name) ++ attribute_lines schema.name schema.attributes

-- none for an unused slot
abbrev pub relation_lines : Option Relation → List ℕ
relation_lines None = []
relation_lines (Some r) = schema_lines r.schema ++ flat_map (row_lines r.schema.name) r.rows

abbrev pub index_lines : List (Option Relation) → Option Index → List ℕ
index_lines relations None = []
index_lines relations (Some index) = command_line (index_command relations index)

-- the slots of all relations
abbrev pub slots_of_all : List (Option Relation) → ℕ
slots_of_all [] = 0
slots_of_all (None ∷ slots) = slots_of_all slots
slots_of_all (Some r ∷ slots) = length r.rows + slots_of_all slots
