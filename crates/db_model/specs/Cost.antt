-- How many pages a query, an aggregate or a cursor may read: a row and a key touch at most two regions of a file, a bucket
-- three and a node's number one, and a region costs at most three reads.
use Rattle.std.specs.Prelude.{ℕ, ℤ, zero, suc, ◌+◌, ◌*◌, ◌/◌, Bool, true, false, ◌==◌, List, [], ◌∷◌, map, length, filter, get_or, slice_get, Option, Some, None, unwrap_or, if◌then◌else◌}
use Rattle.std.specs.List.{list_any, range_with_len}
use Rattle.std.specs.Option.{option_map_or}
use Rattle.std.specs.Ordering.{int_eq}
use Rattle.db_model.specs.declared.commands.Agg.{Agg}
use Rattle.db_model.specs.declared.commands.Agg.TheVariants.{Count, Sum, Min, Max, Mean, Median}
use Rattle.db_model.specs.declared.commands.Node.{Node}
use Rattle.db_model.specs.declared.commands.Query.{Query}
use Rattle.db_model.specs.declared.commands.Query.TheVariants.{Select, Join}
use Rattle.db_model.specs.declared.schemas.Range.{Range}
use Rattle.db_model.specs.declared.schemas.Range.TheVariants.{Between}
use Rattle.db_model.specs.declared.values.Value.{Value}
use Rattle.db_model.specs.declared.values.Value.TheVariants as value
use Rattle.db_model.specs.Answers.{join, live_tuples}
use Rattle.db_model.specs.Cond.{Cond, condition_of}
use Rattle.db_model.specs.Database.{Relation, Database, relation_named, indexes_of}
use Rattle.db_model.specs.HashTree.{same_path}
use Rattle.db_model.specs.Item.{place_of}
use Rattle.db_model.specs.Plan.{Plan, Nothing, Scan, ByOrder, ByTree, ByTable, Kinds, kinds_of, plan, place_at, range_at, ranges_of, lies_in}
use Rattle.db_model.specs.Ranges.{everything}
use Rattle.db_model.specs.Row.{Row, no_row}
use Rattle.db_model.specs.Step.{keys}

-- the number of binary digits of n, 0 for 0, of at most this many
abbrev pub halvings : ℕ → ℕ → ℕ
halvings zero n = 0
halvings (suc turns) zero = 0
halvings (suc turns) (suc n) = 1 + halvings turns (suc n / 2)

unfoldable pub bits : ℕ → ℕ
bits n = halvings n n

-- ---- plans

-- how many keys lie in a range
abbrev pub keys_in : Range → List ℤ → ℕ
keys_in range keys = length (filter (lies_in range) keys)

-- how many keys are this key, and how many have its path in a hash tree
abbrev pub keys_equal : ℤ → List ℤ → ℕ
keys_equal key keys = length (filter (λ k. int_eq k key) keys)

abbrev pub keys_beside : ℤ → List ℤ → ℕ
keys_beside key keys = length (filter (same_path key) keys)

-- a walk of the hash tree past k pairs of its key, e keys having the same path
abbrev pub tree_cost : ℕ → ℕ → ℕ
tree_cost e k = 30 + 9 * (6 + e / 32) + 15 * (k + 1)

-- what a plan reads of a relation, whose slots removed rows count among
abbrev pub plan_cost : Kinds → List Range → List Row → Plan → ℕ
plan_cost indexes ranges rows Nothing = 0
plan_cost indexes ranges rows Scan = 6 * length rows
plan_cost indexes ranges rows (ByOrder nth) =
    let place = place_at indexes nth in 6 * (2 * bits (length rows) + keys_in (range_at ranges place) (keys place rows)) + 6
plan_cost indexes ranges rows (ByTree nth key) =
    let found = keys (place_at indexes nth) rows in tree_cost (keys_beside key found) (keys_equal key found)
plan_cost indexes ranges rows (ByTable nth key) = 6 * keys_equal key (keys (place_at indexes nth) rows)

-- the same by the plan that the indexes give
abbrev pub chosen_cost : Kinds → List Range → List Row → ℕ
chosen_cost indexes ranges rows = plan_cost indexes ranges rows (plan indexes ranges)

-- ---- joins

-- the ranges of the places for `on = value`: one number at the ON attribute's place, where the value is a number
abbrev pub ranges_at : ℕ → Option Value → List Range
ranges_at on (Some (value.Number z)) = map (λ place. if place == on then Between z z else everything) (range_with_len 0 8)
ranges_at on (Some (value.Text bytes)) = map (λ place. everything) (range_with_len 0 8)
ranges_at on None = map (λ place. everything) (range_with_len 0 8)

-- the places of the ON attribute on the left and on the right; each relation has one where a join is answered
abbrev pub places_of : List ℕ → Relation → Relation → ℕ × ℕ
places_of on l r = (unwrap_or (place_of on l.schema.attributes) 0, unwrap_or (place_of on r.schema.attributes) 0)

-- what the right side reads for a left tuple
abbrev pub right_cost : Kinds → ℕ × ℕ → List Row → List Value → ℕ
right_cost indexes on rights tuple = chosen_cost indexes (ranges_at on.1 (slice_get tuple on.0)) rights

-- the sum of some costs
abbrev pub sum : List ℕ → ℕ
sum [] = 0
sum (n ∷ ns) = n + sum ns

-- what the right side reads for the live ones of some left rows
abbrev pub right_costs : Kinds → ℕ × ℕ → List Row → List Row → ℕ
right_costs indexes on rights lefts = sum (map (right_cost indexes on rights) (live_tuples lefts))

-- the rows in some slots
abbrev pub rows_at : List ℕ → List Row → List Row
rows_at slots rows = map (λ slot. get_or rows slot no_row) slots

-- ---- queries, aggregates and OPEN

abbrev pub select_cost : Database → ℕ → Relation → Option Cond → ℕ
select_cost db slot r condition = chosen_cost (kinds_of (indexes_of db slot)) (ranges_of r.schema.attributes condition) r.rows

abbrev pub join_cost : Database → ℕ → Relation → Relation → List ℕ → List (List ℕ) → ℕ
join_cost db right_slot l r on list =
    6 * (length l.rows + length (join l.schema.attributes r.schema.attributes on list l.rows r.rows))
    + right_costs (kinds_of (indexes_of db right_slot)) (places_of on l r) r.rows l.rows

-- what a halving search reads before the first row
abbrev pub begin_cost : ℕ → Plan → ℕ
begin_cost slots (ByOrder nth) = 12 * bits slots + 6
begin_cost slots _ = 0

abbrev pub is_median : Agg × List ℕ → Bool
is_median item = elim item.0 [ Count ↦ false | Sum ↦ false | Min ↦ false | Max ↦ false | Mean ↦ false | Median ↦ true ]

-- a median takes at most 10 passes over its values
abbrev pub passes_of : List (Agg × List ℕ) → ℕ
passes_of list = if list_any is_median list then 10 else 1

abbrev pub query_cost : Database → Query → ℕ
query_cost db (Select list name nodes) = option_map_or (λ s. select_cost db s.0 s.1 (condition_of nodes)) (relation_named db name) 0
query_cost db (Join left right on list) =
    option_map_or (λ l. option_map_or (λ r. join_cost db r.0 l.1 r.1 on list) (relation_named db right) 0) (relation_named db left) 0

abbrev pub aggregate_cost : Database → List (Agg × List ℕ) → List ℕ → List Node → ℕ
aggregate_cost db list name nodes =
    option_map_or (λ s. passes_of list * select_cost db s.0 s.1 (condition_of nodes)) (relation_named db name) 0

-- what OPEN reads of a relation
abbrev pub open_select_cost : Database → ℕ → Relation → Option Cond → ℕ
open_select_cost db slot r condition = begin_cost (length r.rows) (plan (kinds_of (indexes_of db slot)) (ranges_of r.schema.attributes condition))

abbrev pub open_cost : Database → Query → ℕ
open_cost db (Select list name nodes) = option_map_or (λ s. open_select_cost db s.0 s.1 (condition_of nodes)) (relation_named db name) 0
open_cost db (Join left right on list) = 0

-- ---- FETCH

-- the slots that a FETCH passes, of those ahead: up to and with the one that it stops at, all where it stops at none
abbrev pub passed : Option ℕ → List ℕ → List ℕ
passed None slots = slots
passed (Some stop) [] = []
passed (Some stop) (slot ∷ slots) = if slot == stop then slot ∷ [] else slot ∷ passed (Some stop) slots

-- a FETCH of a SELECT that passes c slots, of the rows of now; where its OPEN chose a walk of a hash tree, that is by the
-- place of an attribute and a key
abbrev pub fetch_select_cost : Option (ℕ × ℤ) → List Row → ℕ → ℕ
fetch_select_cost None rows c = 6 * c
fetch_select_cost (Some walk) rows c = tree_cost (keys_beside walk.1 (keys walk.0 rows)) c

-- a FETCH of a JOIN that passes these left slots, of the rows of now; `indexes` are the right relation's at its OPEN
abbrev pub fetch_join_cost : Kinds → ℕ × ℕ → List Row → List Row → List ℕ → ℕ
fetch_join_cost indexes on lefts rights slots = 6 * length slots + right_costs indexes on rights (rows_at slots lefts)
