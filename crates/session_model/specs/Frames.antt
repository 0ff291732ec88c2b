-- Which files a command leaves, and which extents it asks for.
use Rattle.std.specs.Prelude.{◌≡◌, ◌≢◌, ◌⊎◌, ℕ, List, Option, IsTrue, set}
use Rattle.afl_base.specs.Files.{AreDistinct, IsNamed, IsUnnamed, State, Table, bytes_at, file_at, place, size_at}
use Rattle.afl_base.specs.declared.kind.Kind.TheVariants.{Fixed}
use Rattle.db_model.specs.declared.values.Value.{Value}
use Rattle.db_model.specs.Row.{row_length}
use Rattle.index_set.specs.declared.info.IndexInfo.{IndexInfo}
use Rattle.index_set.specs.Inserts.{IsNoTree, OneAsksFor}
use Rattle.space_model.specs.FileNames.{catalog_file}
use Rattle.space_model.specs.Wants.{room_for}
use Rattle.tuple_file.specs.declared.tuples.Tuples.{Tuples}
use Rattle.db_model.specs.declared.schemas.Schema.{Schema}
use Rattle.session_model.specs.declared.held.Held.{Held}
use Rattle.session_model.specs.declared.held.Indexed.{Indexed}
use Rattle.session_model.specs.Running.{AreOfDatabase}

-- ---- rows

-- neither the relation's file nor one of its trees
abbrev pub StaysAt : ℕ → List IndexInfo → ℕ → Type 0
StaysAt file infos k = (k ≢ file) × IsNoTree infos k

-- an extent for the new row, or for a bucket of one of the trees
abbrev pub WantsRow : (ℕ → ℕ → ℕ → ℕ → Type 0) → State → Tuples → List IndexInfo → List Value → ℕ → Type 0
WantsRow asks state tuples infos values need =
    asks tuples.file 0 (row_length tuples.schema.attributes) need ⊎ OneAsksFor asks state values need infos

-- ---- the catalog

-- of the files none but the catalog and the one of this name has come, changed or gone
pub record LeavesOthers (old new : State) (name : List ℕ) : Type 0 where
  pub others : (id : ℕ) (n : List ℕ) → IsNamed old.files id n → n ≢ catalog_file → n ≢ name → place new.files id ≡ place old.files id
  pub unnamed : (n : List ℕ) → n ≢ catalog_file → n ≢ name → IsUnnamed old.files n → IsUnnamed new.files n
  pub distinct : AreDistinct old.files → AreDistinct new.files
  pub known : AreOfDatabase old.files → AreOfDatabase new.files
  pub tells : new.tells ≡ old.tells

-- the catalog has these bytes of version 2, where they are told
pub record HasBytes (old new : State) (cat : ℕ) (told : List ℕ) : Type 0 where
  pub named : IsNamed new.files cat catalog_file
  pub kind : (file_at new.files cat).kind ≡ Fixed 6
  pub size : size_at new.files cat ≡ 1480
  pub bytes : IsTrue old.tells → bytes_at new.files cat ≡ told

-- no extent is asked for, for a change of n bytes at a place of the catalog
abbrev pub AsksNoExtent : (ℕ → ℕ → ℕ → ℕ → Type 0) → Table → (cat at n : ℕ) → Type 0
AsksNoExtent asks files cat at n =
    (need : ℕ) → asks cat ((room_for (size_at files cat) at n).0) ((room_for (size_at files cat) at n).1) need → ⊥

-- ---- what is held after a change of the catalog, which is of version 2 then

abbrev pub with_indexed : Held → ℕ → Option Indexed → Held
with_indexed held i x = record { version = 2; cat = held.cat; relations = held.relations; indexes = set held.indexes i x }

abbrev pub with_tuples : Held → ℕ → Option Tuples → Held
with_tuples held k t = record { version = 2; cat = held.cat; relations = set held.relations k t; indexes = held.indexes }

abbrev pub schema_in : Tuples → Schema
schema_in t = t.schema
