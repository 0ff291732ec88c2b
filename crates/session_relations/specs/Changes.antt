-- What a change of the catalog makes of a session.
use Rattle.std.specs.Prelude.{◌≡◌, ◌⊎◌, ◌≤◌, ◌*◌, ℕ, Bool, true, false, ◌==◌, List, [], ◌∷◌, ◌++◌, length, filter, map, get_or, Option, Some, None, option_map, Result, IsTrue, ⊤}
use Rattle.afl_base.specs.Asked.{asks_few}
use Rattle.afl_base.specs.Files.{IsNamed, State, Table, bytes_at, size_at}
use Rattle.catalog.specs.CatalogFile.{MayReplace, ReplacesFront}
use Rattle.db_model.specs.declared.refusals.Refusal.{Refusal}
use Rattle.db_model.specs.declared.schemas.Attribute.{Attribute}
use Rattle.db_model.specs.declared.schemas.Schema.{Schema}
use Rattle.db_model.specs.Catalog.{Index, IsAttribute, relation_slot_bytes, with_relation_slot}
use Rattle.db_model.specs.Database.{Database, Relation, used_things, with_relation}
use Rattle.db_model.specs.Refusing.{◌>>◌}
use Rattle.db_model.specs.Row.{row_length}
use Rattle.db_model.specs.Step.{refuse_indexed, refuse_read}
use Rattle.index_set.specs.Tables.{Tables}
use Rattle.space_model.specs.FileNames.{catalog_file, is_there, rows_file}
use Rattle.space_model.specs.Wants.{room_for}
use Rattle.tuple_file.specs.declared.tuples.Tuples.{Tuples}
use Rattle.tuple_file.specs.Tuples.{slots}
use Rattle.session_model.specs.declared.held.Held.{Held}
use Rattle.session_model.specs.declared.held.Indexed.{Indexed}
use Rattle.session_model.specs.declared.held.Open.{Open}
use Rattle.session_model.specs.Aheads.{aheads_of}
use Rattle.session_model.specs.Frames.{HasBytes, LeavesOthers}
use Rattle.session_model.specs.Indexed.{index_known}
use Rattle.session_model.specs.Running.{IsRunning}
use Rattle.session_model.specs.View.{view}

-- ---- the session

-- it goes on, its open cursors have ahead what they had, and it stands for this database
pub record Shows (old new : State) (tables : Tables) (now : Held) (opens : List (Option Open)) (db : Database) : Type 0 where
  pub running : IsRunning new tables now opens
  pub aheads : IsTrue old.tells → aheads_of new.files opens ≡ aheads_of old.files opens
  pub tells : new.tells ≡ old.tells
  pub seen : IsTrue old.tells → view new.files now opens ≡ db

-- a database of version 2 with one relation slot changed
abbrev pub changed_at : Database → ℕ → Option Relation → Database
changed_at db slot relation = record (with_relation db slot relation) { version = 2 }

-- a relation that has nothing but its name
abbrev pub bare_schema : List ℕ → Schema
bare_schema name = record { name = name; attributes = [] }

abbrev pub bare_relation : List ℕ → Relation
bare_relation name = record { schema = bare_schema name; rows = [] }

-- ---- its files

-- the catalog has this relation in a slot, and no other file than that of the slot's rows has come, changed or gone
pub record PutsSlot (old new : State) (cat slot : ℕ) (schema : Option Schema) : Type 0 where
  pub leaves : LeavesOthers old new (rows_file slot)
  pub bytes : HasBytes old new cat (with_relation_slot (bytes_at old.files cat) slot schema)
  pub idle : new.draft ≡ None

-- the catalog was being changed in a relation slot, and no other file has changed
abbrev pub MayPutSlot : (old after : State) (cat slot : ℕ) → Option Schema → Type 0
MayPutSlot old after cat slot schema = MayReplace old after cat (176 * slot) (relation_slot_bytes schema)

-- the catalog was being changed in the slot of a new relation, whose file is there and empty, or not yet there
pub record MayMakeSlot (old after : State) (cat slot : ℕ) (schema : Schema) : Type 0 where
  pub leaves : LeavesOthers old after (rows_file slot)
  pub named : IsNamed after.files cat catalog_file
  pub bytes : ReplacesFront (bytes_at old.files cat) (176 * slot) (relation_slot_bytes (Some schema)) (bytes_at after.files cat)
  pub empty : (id : ℕ) → IsNamed after.files id (rows_file slot) → bytes_at after.files id ≡ []
  -- the file is there before the catalog is changed
  pub there : (bytes_at after.files cat ≡ bytes_at old.files cat) ⊎ (is_there (rows_file slot) after.files ≡ true)

-- the catalog was being changed, or the slot is unused, and the file of its rows is there still or gone
abbrev pub MayTakeSlot : (old after : State) (cat slot : ℕ) → Type 0
MayTakeSlot old after cat slot = MayPutSlot old after cat slot None ⊎ PutsSlot old after cat slot None

-- an extent is asked for, for a change of a relation slot in a catalog
abbrev pub AsksRelationSlot : (ℕ → ℕ → ℕ → ℕ → Type 0) → Table → ℕ → ℕ → ℕ → Type 0
AsksRelationSlot asks files cat slot need =
    asks_few asks files cat ((room_for (size_at files cat) (176 * slot) 176).0) ((room_for (size_at files cat) (176 * slot) 176).1) need

-- ---- indexes

-- an index of the relation in a slot stands here
abbrev pub is_index_on : ℕ → Option Indexed → Bool
is_index_on relation None = false
is_index_on relation (Some x) = x.relation == relation

-- the indexes of the relation in a slot
abbrev pub indexes_on : ℕ → List (Option Indexed) → List Index
indexes_on relation slots = filter (λ index. index.relation == relation) (used_things (map (option_map index_known) slots))

-- a relation is taken away where no cursor reads it and no index stands on it
abbrev pub refuse_removal : Database → List ℕ → ℕ → Result ⊤ Refusal
refuse_removal db name slot = do
  refuse_read db name
  refuse_indexed db slot

-- ---- a relation that grows

-- one attribute comes after the others, and the row stays short
pub record IsLonger (was is : Tuples) : Type 0 where
  pub attribute : Attribute
  pub file : is.file ≡ was.file
  pub name : is.schema.name ≡ was.schema.name
  pub attributes : is.schema.attributes ≡ was.schema.attributes ++ attribute ∷ []
  pub good : IsAttribute attribute
  pub few : length is.schema.attributes ≤ 8
  pub short : row_length is.schema.attributes ≤ 128

-- so does the relation in a slot, which has no rows
pub record Grows (files : Table) (held : Held) (slot : ℕ) (is : Tuples) : Type 0 where
  pub was : Tuples
  pub there : get_or held.relations slot None ≡ Some was
  pub empty : slots files was ≡ 0
  pub longer : IsLonger was is
