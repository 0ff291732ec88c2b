-- The database: relations with their rows, indexes by name alone, and cursors that hold whole answers.
use Rattle.std.specs.Prelude.{ℕ, ℤ, pos, negsuc, ◌+◌, ◌-◌, Bool, true, false, ◌&&◌, ◌||◌, ◌==◌, List, [], ◌∷◌, set, replicate, filter, Option, Some, None, Result, if◌then◌else◌, nat_le, get_or}
use Rattle.std.specs.Str.{bytes_eq}
use Rattle.db_model.specs.declared.refusals.Refusal.{Refusal}
use Rattle.db_model.specs.declared.refusals.Refusal.TheVariants as no
use Rattle.db_model.specs.declared.schemas.IndexKind.TheVariants.{Inline, MaxHeap, MemHash}
use Rattle.db_model.specs.declared.schemas.Schema.{Schema}
use Rattle.db_model.specs.declared.values.Value.{Value}
use Rattle.db_model.specs.Catalog.{Index}
use Rattle.db_model.specs.Refusing.{found_or}
use Rattle.db_model.specs.Row.{Row}

pub record Relation : Type 0 where
  pub schema : Schema
  pub rows : List Row

-- an open cursor: the relations that its query names, and the rows of its answer that are still to come
pub record Cursor : Type 0 where
  pub reads : List (List ℕ)
  pub rows : List (List Value)

-- a version, 1 or 2, eight relation slots, eight index slots, and the cursors 1 to 4
pub record Database : Type 0 where
  pub version : ℕ
  pub relations : List (Option Relation)
  pub indexes : List (Option Index)
  pub cursors : List (Option Cursor)

-- the database of an absent or empty catalog
abbrev pub empty_database : Database
empty_database = record { version = 2; relations = replicate 8 None; indexes = replicate 8 None; cursors = replicate 4 None }

-- a database without its cursors
abbrev pub bare : Database → Database
bare db = record db { cursors = replicate 4 None }

-- ---- slots

-- the number of the first unused slot, the list's first being slot n
abbrev pub free_from : {A : Type 0} → ℕ → List (Option A) → Option ℕ
free_from n [] = None
free_from n (None ∷ slots) = Some n
free_from n (Some x ∷ slots) = free_from (n + 1) slots

-- what the used slots hold
abbrev pub used_things : {A : Type 0} → List (Option A) → List A
used_things [] = []
used_things (None ∷ slots) = used_things slots
used_things (Some x ∷ slots) = x ∷ used_things slots

-- ---- relations

-- the slot and the relation of that name, the list's first being slot n
abbrev pub relation_from : List ℕ → ℕ → List (Option Relation) → Option (ℕ × Relation)
relation_from name n [] = None
relation_from name n (None ∷ slots) = relation_from name (n + 1) slots
relation_from name n (Some r ∷ slots) = if bytes_eq r.schema.name name then Some (n, r) else relation_from name (n + 1) slots

abbrev pub relation_named : Database → List ℕ → Option (ℕ × Relation)
relation_named db name = relation_from name 0 db.relations

-- the slot and the relation of that name, or the refusal
abbrev pub named : Database → List ℕ → Result (ℕ × Relation) Refusal
named db name = found_or (relation_named db name) no.NoRelation

abbrev pub with_relation : Database → ℕ → Option Relation → Database
with_relation db slot relation = record db { relations = set db.relations slot relation }

-- ---- indexes

abbrev pub with_index : Database → ℕ → Option Index → Database
with_index db slot index = record db { indexes = set db.indexes slot index }

-- whether an index is on the attribute at a place of the relation in a slot
abbrev pub is_on : ℕ → ℕ → Index → Bool
is_on relation attribute index = index.relation == relation && index.attribute == attribute

-- the slot of the index there, the list's first being slot n
abbrev pub index_from : ℕ → ℕ → ℕ → List (Option Index) → Option ℕ
index_from relation attribute n [] = None
index_from relation attribute n (None ∷ slots) = index_from relation attribute (n + 1) slots
index_from relation attribute n (Some index ∷ slots) = if is_on relation attribute index then Some n else index_from relation attribute (n + 1) slots

abbrev pub index_slot : Database → ℕ → ℕ → Option ℕ
index_slot db relation attribute = index_from relation attribute 0 db.indexes

-- the indexes of the relation in a slot
abbrev pub indexes_of : Database → ℕ → List Index
indexes_of db relation = filter (λ index. index.relation == relation) (used_things db.indexes)

abbrev pub is_inline : Index → Bool
is_inline index = elim index.kind [ Inline ↦ true | MaxHeap ↦ false | MemHash ↦ false ]

-- how many hash tables the machine has memory for
abbrev pub most_tables : ℕ
most_tables = 2

abbrev pub is_hash_table : Index → Bool
is_hash_table index = elim index.kind [ Inline ↦ false | MaxHeap ↦ false | MemHash ↦ true ]

-- ---- cursors

-- the place of cursor 1, 2, 3 or 4
abbrev pub cursor_place : ℤ → Option ℕ
cursor_place (pos n) = if nat_le 1 n && nat_le n 4 then Some (n - 1) else None
cursor_place (negsuc n) = None

abbrev pub cursor_at : Database → ℕ → Option Cursor
cursor_at db place = get_or db.cursors place None

abbrev pub with_cursor : Database → ℕ → Option Cursor → Database
with_cursor db place cursor = record db { cursors = set db.cursors place cursor }

-- whether a name is among some
abbrev pub is_among : List ℕ → List (List ℕ) → Bool
is_among name [] = false
is_among name (other ∷ others) = bytes_eq other name || is_among name others

-- the number of the least open cursor whose query names the relation, the list's first being cursor n
abbrev pub reader_from : List ℕ → ℕ → List (Option Cursor) → Option ℕ
reader_from name n [] = None
reader_from name n (None ∷ cursors) = reader_from name (n + 1) cursors
reader_from name n (Some c ∷ cursors) = if is_among name c.reads then Some n else reader_from name (n + 1) cursors

abbrev pub reader_of : Database → List ℕ → Option ℕ
reader_of db name = reader_from name 1 db.cursors
