-- A database without what is removed.
use Rattle.std.specs.Prelude.{ℕ, ◌-◌, List, ◌++◌, map, length, filter, replicate, take, Option, Some, None}
use Rattle.db_model.specs.Catalog.{Index}
use Rattle.db_model.specs.Database.{Relation, Database, used_things}
use Rattle.db_model.specs.Row.{Row}

abbrev pub kept_rows : List Row → List Row
kept_rows rows = filter (λ row. row.live) rows

-- of a relation the live rows alone
abbrev pub packed_relation : Relation → Relation
packed_relation r = record r { rows = kept_rows r.rows }

-- these in the first slots of n, and none after them
abbrev pub slots_for : {A : Type 0} → ℕ → List A → List (Option A)
slots_for n xs = map (λ x. Some x) xs ++ replicate (n - length xs) None

-- the slot that a used slot gets: this many are used before it
abbrev pub new_slot : {A : Type 0} → List (Option A) → ℕ → ℕ
new_slot slots k = length (used_things (take k slots))

-- an index, on the relation in its new slot
abbrev pub moved_index : List (Option Relation) → Index → Index
moved_index relations index = record index { relation = new_slot relations index.relation }

-- the relations and the indexes close up in order, and the removed rows and the cursors are gone
abbrev pub packed : Database → Database
packed db = record {
  version = 2;
  relations = slots_for 8 (map packed_relation (used_things db.relations));
  indexes = slots_for 8 (map (moved_index db.relations) (used_things db.indexes));
  cursors = replicate 4 None;
}
