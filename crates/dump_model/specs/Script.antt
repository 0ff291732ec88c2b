-- A database as a script that makes it again.
use Rattle.std.specs.Prelude.{ℕ, pos, List, [], ◌∷◌, ◌++◌, map, get_or, flat_map, Option, Some, None, codes}
use Rattle.std.specs.Fmt.{signed_decimal}
use Rattle.std.specs.List.{join_with_byte, slice_get}
use Rattle.db_model.specs.declared.commands.Command.{Command}
use Rattle.db_model.specs.declared.commands.Command.TheVariants.{CreateRelation, CreateAttribute, CreateIndex, Insert}
use Rattle.db_model.specs.declared.schemas.Attribute.{Attribute}
use Rattle.db_model.specs.declared.schemas.Domain.{Domain}
use Rattle.db_model.specs.declared.schemas.Domain.TheVariants as domain
use Rattle.db_model.specs.declared.schemas.DomainAsked.{DomainAsked}
use Rattle.db_model.specs.declared.schemas.DomainAsked.TheVariants as asked
use Rattle.db_model.specs.declared.values.Value.{Value}
use Rattle.db_model.specs.Answers.{live_tuples}
use Rattle.db_model.specs.Catalog.{Index}
use Rattle.db_model.specs.Database.{Relation, Database, used_things}
use Rattle.db_model.specs.Grammar.{kind_word}
use Rattle.db_model.specs.Keywords.{keyword_text}
use Rattle.db_model.specs.ReplyText.{value_text}

-- ---- the commands that make a database

abbrev pub domain_named : Domain → DomainAsked
domain_named domain.Int = asked.Int
domain_named domain.Long = asked.Long
domain_named domain.Time = asked.Time
domain_named (domain.Str n) = asked.Str (pos n)

abbrev pub attribute_command : List ℕ → Attribute → Command
attribute_command relation a = CreateAttribute a.name (domain_named a.domain) relation

abbrev pub row_command : List ℕ → List Value → Command
row_command relation tuple = Insert tuple relation

-- a relation, its attributes, and its live rows
abbrev pub relation_commands : Relation → List Command
relation_commands r =
    CreateRelation r.schema.name
    ∷ (map (attribute_command r.schema.name) r.schema.attributes
    ++ map (row_command r.schema.name) (live_tuples r.rows))

-- the name of the attribute at a place
abbrev pub attribute_name : List Attribute → ℕ → List ℕ
attribute_name attributes place = elim (slice_get attributes place) [ None ↦ [] | Some a ↦ a.name ]

abbrev pub index_command : List (Option Relation) → Index → Command
index_command relations index =
    elim (get_or relations index.relation None) [
      | None ↦ CreateIndex [] [] index.kind
      | Some r ↦ CreateIndex r.schema.name (attribute_name r.schema.attributes index.attribute) index.kind
    ]

-- all relations in slot order, then all indexes in slot order
abbrev pub script_commands : Database → List Command
script_commands db =
    flat_map relation_commands (used_things db.relations) ++ map (index_command db.relations) (used_things db.indexes)

-- ---- their text

-- texts with one space between them
abbrev pub spaced : List (List ℕ) → List ℕ
spaced texts = join_with_byte 32 texts

abbrev pub domain_text : DomainAsked → List ℕ
domain_text asked.Int = codes "INT"
domain_text asked.Long = codes "LONG"
domain_text asked.Time = codes "TIME"
domain_text (asked.Str n) = codes "STRING(" ++ signed_decimal n ++ codes ")"

-- the values with `, ` between them
abbrev pub values_text : List Value → List ℕ
values_text [] = []
values_text (v ∷ []) = value_text v
values_text (v ∷ w ∷ values) = value_text v ++ (codes ", " ++ values_text (w ∷ values))

-- no other command is written
abbrev pub command_text : Command → List ℕ
command_text (CreateRelation relation) = spaced (codes "CREATE RELATION" ∷ relation ∷ [])
command_text (CreateAttribute name domain relation) =
    spaced (codes "CREATE ATTRIBUTE" ∷ name ∷ codes "DOMAIN" ∷ domain_text domain ∷ codes "IN" ∷ relation ∷ [])
command_text (CreateIndex relation attribute kind) =
    spaced (codes "CREATE INDEX" ∷ (relation ++ (codes "." ++ attribute)) ∷ codes "TYPE" ∷ keyword_text (kind_word kind) ∷ [])
command_text (Insert values relation) =
    spaced (codes "INSERT" ∷ (codes "(" ++ values_text values ++ codes ")") ∷ codes "INTO" ∷ relation ∷ [])
command_text _ = []

-- a command, `;` and LF
unfoldable pub command_line : Command → List ℕ
command_line command = command_text command ++ codes ";\n"

abbrev pub script : Database → List ℕ
script db = flat_map command_line (script_commands db)
