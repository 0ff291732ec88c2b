-- What is ahead of the open cursors, and what a command may read: a FETCH pays for the slots that it passes.
use Rattle.std.specs.Prelude.{◌≡◌, ⊤, ℕ, ℤ, ◌-◌, Bool, true, false, ◌&&◌, List, [], ◌∷◌, length, drop, filter, flat_map, get_or, set, replicate, Option, Some, None, option_map, option_and_then, if◌then◌else◌, slice_get}
use Rattle.std.specs.List.{range_with_len}
use Rattle.std.specs.Option.{option_map_or}
use Rattle.db_model.specs.declared.commands.Command.{Command}
use Rattle.db_model.specs.declared.commands.Command.TheVariants as command
use Rattle.db_model.specs.declared.commands.Query.{Query}
use Rattle.db_model.specs.declared.commands.Query.TheVariants.{Select, Join}
use Rattle.db_model.specs.declared.schemas.Range.{Range}
use Rattle.db_model.specs.Answers.{live_tuples, same_value}
use Rattle.db_model.specs.Cond.{Cond, condition_of}
use Rattle.db_model.specs.Cost.{aggregate_cost, fetch_join_cost, fetch_select_cost, open_cost, passed, places_of, query_cost}
use Rattle.db_model.specs.Database.{Relation, Cursor, Database, cursor_place, indexes_of, relation_named}
use Rattle.db_model.specs.Item.{selects}
use Rattle.db_model.specs.Plan.{Kinds, Plan, ByTree, kinds_of, passes, place_at, plan, ranges_of}
use Rattle.db_model.specs.Row.{Row, no_row}
use Rattle.db_model.specs.Step.{Reply, Refused, key_of, step}

-- where the rows of a cursor come from, as its OPEN left it
pub data Source : Type 0 where
  -- a relation by name; the place and the key of the hash tree that is walked, where one is
  OfSelect : List ℕ → Option (ℕ × ℤ) → Source
  -- two relations by name, the places of their ON attributes, and the indexes of the right one
  OfJoin : List ℕ → List ℕ → ℕ × ℕ → Kinds → Source

-- the slots that a cursor has not passed, and those at which its coming FETCHes stop, one for each row to come; those of a
-- join are left slots
pub record Ahead : Type 0 where
  pub source : Source
  pub slots : List ℕ
  pub stops : List ℕ

-- ---- OPEN

-- the slots from one up to another whose rows pass a test
abbrev pub slots_in : (Row → Bool) → List Row → ℕ → ℕ → List ℕ
slots_in test rows from end = filter (λ slot. test (get_or rows slot no_row)) (range_with_len from (end - from))

-- whether a plan passes a row
abbrev pub takes : Kinds → List Range → Plan → Row → Bool
takes indexes ranges plan row = passes indexes ranges plan (λ place. key_of (slice_get row.tuple place))

-- the place and the key of a plan that walks a hash tree
abbrev pub walk_of : Kinds → Plan → Option (ℕ × ℤ)
walk_of indexes (ByTree nth key) = Some (place_at indexes nth, key)
walk_of indexes _ = None

abbrev pub select_ahead : List ℕ → Kinds → List Range → Relation → Option Cond → Ahead
select_ahead name indexes ranges r condition = record {
  source = OfSelect name (walk_of indexes (plan indexes ranges));
  slots = slots_in (takes indexes ranges (plan indexes ranges)) r.rows 0 (length r.rows);
  stops = slots_in (λ row. row.live && selects r.schema.attributes condition row.tuple) r.rows 0 (length r.rows);
}

-- how many live right rows a left row meets, by the places of the ON attributes
abbrev pub partners : ℕ × ℕ → List Row → Row → ℕ
partners on rights l = if l.live then length (filter (λ r. same_value (slice_get l.tuple on.0) (slice_get r on.1)) (live_tuples rights)) else 0

-- the left slots, each as often as its row has partners
abbrev pub pair_slots : ℕ × ℕ → List Row → List Row → List ℕ
pair_slots on lefts rights = flat_map (λ slot. replicate (partners on rights (get_or lefts slot no_row)) slot) (range_with_len 0 (length lefts))

abbrev pub join_ahead : List ℕ → List ℕ → ℕ × ℕ → Kinds → List Row → List Row → Ahead
join_ahead left right on indexes lefts rights = record {
  source = OfJoin left right on indexes;
  slots = range_with_len 0 (length lefts);
  stops = pair_slots on lefts rights;
}

-- what is ahead of a cursor that is opened
abbrev pub opened : Database → Query → Option Ahead
opened db (Select list name nodes) =
    option_map (λ s. select_ahead name (kinds_of (indexes_of db s.0)) (ranges_of s.1.schema.attributes (condition_of nodes)) s.1 (condition_of nodes)) (relation_named db name)
opened db (Join left right on list) =
    option_and_then
    (λ l. option_map (λ r. join_ahead left right (places_of on l.1 r.1) (kinds_of (indexes_of db r.0)) l.1.rows r.1.rows) (relation_named db right))
    (relation_named db left)

-- ---- FETCH

-- the slots that the next FETCH passes: up to and with its stop, all where no row comes
abbrev pub next_passed : Ahead → List ℕ
next_passed ahead = passed (slice_get ahead.stops 0) ahead.slots

-- the slots after them; of a join the left slot of the pair stays ahead, and none does where no pair came
abbrev pub slots_behind : Source → List ℕ → List ℕ → List ℕ
slots_behind (OfSelect name walk) passed slots = drop (length passed) slots
slots_behind (OfJoin left right on indexes) passed slots = drop (length passed - 1) slots

abbrev pub slots_left : Source → List ℕ → List ℕ → List ℕ
slots_left source [] slots = []
slots_left source (stop ∷ stops) slots = slots_behind source (passed (Some stop) slots) slots

-- what is ahead of a cursor after a FETCH
abbrev pub fetched : Ahead → Ahead
fetched ahead = record ahead { slots = slots_left ahead.source ahead.stops ahead.slots; stops = drop 1 ahead.stops }

abbrev pub rows_named : Database → List ℕ → List Row
rows_named db name = option_map_or (λ s. s.1.rows) (relation_named db name) []

-- what a FETCH that passes these slots may read
abbrev pub fetch_cost : Database → Source → List ℕ → ℕ
fetch_cost db (OfSelect name walk) slots = fetch_select_cost walk (rows_named db name) (length slots)
fetch_cost db (OfJoin left right on indexes) slots = fetch_join_cost indexes on (rows_named db left) (rows_named db right) slots

-- ---- commands

-- what the cursors 1 to 4 have ahead
abbrev pub Aheads : Type 0
Aheads = List (Option Ahead)

abbrev pub no_cursors : Aheads
no_cursors = replicate 4 None

-- an open cursor, and no other, has something ahead: one stop for each row to come
abbrev pub IsAhead : Option Cursor → Option Ahead → Type 0
IsAhead None None = ⊤
IsAhead (Some cursor) (Some ahead) = length ahead.stops ≡ length cursor.rows
IsAhead _ _ = ⊥

abbrev pub AreAhead : List (Option Cursor) → Aheads → Type 0
AreAhead [] [] = ⊤
AreAhead (cursor ∷ cursors) (ahead ∷ aheads) = IsAhead cursor ahead × AreAhead cursors aheads
AreAhead _ _ = ⊥

abbrev pub ahead_of : Aheads → ℤ → Option Ahead
ahead_of aheads number = option_and_then (λ place. get_or aheads place None) (cursor_place number)

abbrev pub with_ahead : Aheads → ℤ → Option Ahead → Aheads
with_ahead aheads number ahead = option_map_or (λ place. set aheads place ahead) (cursor_place number) aheads

-- what is ahead after a command that is not refused
abbrev pub moved : Database → Aheads → Command → Aheads
moved db aheads (command.OpenCursor number query) = with_ahead aheads number (opened db query)
moved db aheads (command.FetchCursor number) = with_ahead aheads number (option_map fetched (ahead_of aheads number))
moved db aheads (command.CloseCursor number) = with_ahead aheads number None
moved db aheads _ = aheads

-- what a command that is not refused may read; one that changes a relation or an index has no bound
abbrev pub price : Database → Aheads → Command → ℕ
price db aheads (command.Ask query) = query_cost db query
price db aheads (command.Aggregate list name nodes) = aggregate_cost db list name nodes
price db aheads (command.OpenCursor number query) = open_cost db query
price db aheads (command.FetchCursor number) = option_map_or (λ ahead. fetch_cost db ahead.source (next_passed ahead)) (ahead_of aheads number) 0
price db aheads _ = 0

abbrev pub is_refused : Reply → Bool
is_refused (Refused refusal) = true
is_refused _ = false

-- one that is refused moves and reads nothing
abbrev pub aheads_after : Database → Aheads → Command → Aheads
aheads_after db aheads c = if is_refused ((step db c).1) then aheads else moved db aheads c

abbrev pub cost_of : Database → Aheads → Command → ℕ
cost_of db aheads c = if is_refused ((step db c).1) then 0 else price db aheads c
