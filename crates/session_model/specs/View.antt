-- The database that files and what is held in memory stand for.
use Rattle.std.specs.Prelude.{List, [], ◌∷◌, map, Option, unwrap_or, option_map}
use Rattle.afl_base.specs.Files.{File, Table, no_file, place}
use Rattle.db_model.specs.declared.schemas.Schema.{Schema}
use Rattle.db_model.specs.declared.values.Value.{Value}
use Rattle.db_model.specs.Database.{Cursor, Database, Relation}
use Rattle.db_model.specs.Row.{rows_of}
use Rattle.cursor.specs.Pairs.{pairs_left}
use Rattle.cursor.specs.Remaining.{remaining}
pub use Rattle.reply_text.specs.Projected.{project, value_at}
use Rattle.tuple_file.specs.declared.tuples.Tuples.{Tuples}
use Rattle.tuple_file.specs.Tuples.{rows}
use Rattle.session_model.specs.declared.held.Held.{Held}
use Rattle.session_model.specs.declared.held.Open.{Open}
use Rattle.session_model.specs.declared.held.Open.TheVariants.{Select, Join}
use Rattle.session_model.specs.declared.held.OpenJoin.{OpenJoin}
use Rattle.session_model.specs.declared.held.OpenSelect.{OpenSelect}
use Rattle.session_model.specs.declared.held.Side.{Side}
use Rattle.session_model.specs.declared.held.Side.TheVariants.{Left, Right}
use Rattle.session_model.specs.Indexed.{index_known}

-- a relation with the rows of its file
abbrev pub relation_of_file : Option File → Schema → Relation
relation_of_file place schema = record { schema = schema; rows = rows_of schema.attributes (unwrap_or place no_file).bytes }

abbrev pub relation_of_rows : Table → Tuples → Relation
relation_of_rows files t = relation_of_file (place files t.file) t.schema

-- ---- cursors

abbrev pub value_of_side : List Value × List Value → Side → Value
value_of_side pair (Left place) = value_at pair.0 place
value_of_side pair (Right place) = value_at pair.1 place

-- the values at some places of a pair of tuples
abbrev pub project_pair : List Side → List Value × List Value → List Value
project_pair places pair = map (value_of_side pair) places

abbrev pub select_left : Table → OpenSelect → List (List Value)
select_left files o = map (project o.places) (remaining o.cursor (rows files o.cursor.tuples))

abbrev pub join_left : Table → OpenJoin → List (List Value)
join_left files o = map (project_pair o.places) (pairs_left o.cursor (rows files o.cursor.left) (rows files o.cursor.right))

-- the relations that a cursor reads, and the rows of its answer that are still to come
abbrev pub cursor_in : Table → Open → Cursor
cursor_in files (Select o) = record { reads = o.cursor.tuples.schema.name ∷ []; rows = select_left files o }
cursor_in files (Join o) =
    record { reads = o.cursor.left.schema.name ∷ o.cursor.right.schema.name ∷ []; rows = join_left files o }

-- ---- all

abbrev pub view : Table → Held → List (Option Open) → Database
view files held opens = record {
  version = held.version;
  relations = map (option_map (relation_of_rows files)) held.relations;
  indexes = map (option_map index_known) held.indexes;
  cursors = map (option_map (cursor_in files)) opens;
}
