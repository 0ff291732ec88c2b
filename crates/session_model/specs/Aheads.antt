-- What the open cursors have ahead, for what a FETCH may read.
use Rattle.std.specs.Prelude.{ℕ, ◌+◌, ◌-◌, List, ◌++◌, length, map, take, drop, flat_map, get_or, replicate, Option, option_map}
use Rattle.std.specs.List.{range_with_len}
use Rattle.afl_base.specs.Files.{Table}
use Rattle.db_model.specs.Ahead.{Ahead, Aheads, OfJoin, OfSelect, partners}
use Rattle.db_model.specs.Row.{Row, no_row}
use Rattle.index_set.specs.Plans.{kinds}
use Rattle.index_set.specs.Walks.{ahead}
pub use Rattle.index_set.specs.Walks.{walk_of_search}
use Rattle.cursor.specs.declared.join.JoinCursor.{JoinCursor}
use Rattle.cursor.specs.Pairs.{lefts_of, matching, rights_of}
use Rattle.cursor.specs.Remaining.{slots_to_answer}
use Rattle.tuple_file.specs.Tuples.{rows}
use Rattle.session_model.specs.declared.held.Open.{Open}
use Rattle.session_model.specs.declared.held.Open.TheVariants.{Select, Join}
use Rattle.session_model.specs.declared.held.OpenJoin.{OpenJoin}
use Rattle.session_model.specs.declared.held.OpenSelect.{OpenSelect}

abbrev pub ahead_of_select : Table → OpenSelect → Ahead
ahead_of_select files o = record {
  source = OfSelect o.cursor.tuples.schema.name (walk_of_search o.cursor.candidates.search);
  slots = ahead o.cursor.candidates (rows files o.cursor.tuples);
  stops = slots_to_answer o.cursor (rows files o.cursor.tuples);
}

-- a left slot, as often as its row has partners
abbrev pub stops_at : JoinCursor → List Row → List Row → ℕ → List ℕ
stops_at c lefts rights slot = replicate (partners (c.left_on, c.right_on) (rights_of c rights) (get_or (lefts_of c lefts) slot no_row)) slot

-- the left slots of the pairs to come
abbrev pub join_stops : JoinCursor → List Row → List Row → List ℕ
join_stops c lefts rights =
    replicate (length (matching c.left_on c.right_on (take 1 (drop c.at (lefts_of c lefts))) (drop c.from (rights_of c rights)))) c.at
    ++ flat_map (stops_at c lefts rights) (range_with_len (c.at + 1) (c.left_slots - (c.at + 1)))

abbrev pub ahead_of_join : Table → OpenJoin → Ahead
ahead_of_join files o = record {
  source = OfJoin o.cursor.left.schema.name o.cursor.right.schema.name (o.cursor.left_on, o.cursor.right_on) (kinds o.cursor.right_indexes);
  slots = range_with_len o.cursor.at (o.cursor.left_slots - o.cursor.at);
  stops = join_stops o.cursor (rows files o.cursor.left) (rows files o.cursor.right);
}

abbrev pub ahead_in : Table → Open → Ahead
ahead_in files (Select o) = ahead_of_select files o
ahead_in files (Join o) = ahead_of_join files o

abbrev pub aheads_of : Table → List (Option Open) → Aheads
aheads_of files opens = map (option_map (ahead_in files)) opens
