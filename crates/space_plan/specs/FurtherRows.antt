-- How many further rows are planned for, relation by relation.
use Rattle.std.specs.Prelude.{ℕ, Bool, true, false, List, [], ◌∷◌, Option, is_some, if◌then◌else◌}
use Rattle.std.specs.List.{list_all}
use Rattle.std.specs.Option.{option_map_or}
use Rattle.std.specs.Str.{bytes_eq}
use Rattle.db_model.specs.Database.{Database, Relation, relation_named}
use Rattle.space_plan.specs.declared.further.FurtherRows.{FurtherRows}
use Rattle.space_plan.specs.declared.further.FurtherRows.TheVariants.{Each, Named}
use Rattle.space_plan.specs.declared.further.NamedRows.{NamedRows}

-- those of a name, none where it is not among the names
abbrev pub rows_for_name : List NamedRows → List ℕ → ℕ
rows_for_name [] name = 0
rows_for_name (first ∷ others) name = if bytes_eq first.relation name then first.rows else rows_for_name others name

-- how many come to the relation of a name
abbrev pub rows_to : FurtherRows → List ℕ → ℕ
rows_to (Each n) name = n
rows_to (Named all) name = rows_for_name all name

-- whether a slot has a relation of this name
abbrev pub has_relation_name : List ℕ → Option Relation → Bool
has_relation_name name slot = option_map_or (λ r. bytes_eq r.schema.name name) slot false

-- whether a relation of the database has this name
abbrev pub is_relation : Database → List ℕ → Bool
is_relation db name = is_some (relation_named db name)

-- whether each relation that is named is one of the database
abbrev pub are_relations : Database → FurtherRows → Bool
are_relations db (Each n) = true
are_relations db (Named all) = list_all (λ first. is_relation db first.relation) all
