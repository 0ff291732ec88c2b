-- What is known of a relation and its indexes before its rows change.
use Rattle.std.specs.Prelude.{◌≡◌, ℕ, List, None, map}
use Rattle.afl_base.specs.Files.{State}
use Rattle.db_model.specs.Database.{Database, indexes_of}
use Rattle.index_set.specs.declared.info.IndexInfo.{IndexInfo}
use Rattle.index_set.specs.Complete.{AreHeld, AreReadable}
use Rattle.index_set.specs.Inserts.{AreApart, IsNoTree}
use Rattle.index_set.specs.Tables.{Tables}
use Rattle.tuple_file.specs.declared.tuples.Tuples.{Tuples}
use Rattle.tuple_file.specs.Tuples.{HoldsRows, slots}
use Rattle.cursor.specs.Remaining.{AreOnNumbers}
use Rattle.session_model.specs.Indexed.{index_of_info}

-- a row may come into a slot, the next one, and its keys into the indexes: no two of them share a file, and none is in that
-- of the rows
pub record TakesRow (state : State) (tables : Tables) (t : Tuples) (infos : List IndexInfo) (slot : ℕ) : Type 0 where
  pub idle : state.draft ≡ None
  pub holds : HoldsRows state t
  pub next : slot ≡ slots state.files t
  pub held : AreHeld state tables slot infos
  pub apart : AreApart infos
  pub away : IsNoTree infos t.file

-- its rows may be selected by way of the indexes, and then removed
pub record MaySelect (state : State) (t : Tuples) (infos : List IndexInfo) : Type 0 where
  pub idle : state.draft ≡ None
  pub holds : HoldsRows state t
  pub numbers : AreOnNumbers t.schema.attributes infos
  pub readable : AreReadable state (slots state.files t) infos

-- a database of the version of that number, in which the relation in a slot has these indexes
pub record IsDatabaseWith (number slot : ℕ) (infos : List IndexInfo) (db : Database) : Type 0 where
  pub version : db.version ≡ number
  pub indexes : indexes_of db slot ≡ map (index_of_info slot) infos
