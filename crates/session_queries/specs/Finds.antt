-- A relation that is found by its name.
use Rattle.std.specs.Prelude.{◌≡◌, ◌≤◌, ℕ, List, length, get_or, Some, None, IsTrue}
use Rattle.afl_base.specs.Files.{State}
use Rattle.db_model.specs.Row.{row_length}
use Rattle.index_set.specs.Complete.{AreIndexesOf, AreReadable}
use Rattle.index_set.specs.Tables.{Tables}
use Rattle.cursor.specs.Remaining.{AreOnNumbers}
use Rattle.tuple_file.specs.declared.tuples.Tuples.{Tuples}
use Rattle.tuple_file.specs.Tuples.{HoldsRows, rows, slots}
use Rattle.session_model.specs.declared.held.Held.{Held}
use Rattle.session_model.specs.Cells.{cell_from}
use Rattle.session_model.specs.Indexed.{AreNumbers, infos_of}
use Rattle.session_queries.specs.declared.finding.Found.{Found}

-- relations and their indexes may be looked up
pub record HasEightSlots (held : Held) : Type 0 where
  pub eight : length held.relations ≡ 8
  pub eight_indexes : length held.indexes ≡ 8
  pub short : (k : ℕ) (t : Tuples) → get_or held.relations k None ≡ Some t → row_length t.schema.attributes ≤ 128
  pub numbers : (k : ℕ) (t : Tuples) → get_or held.relations k None ≡ Some t → AreNumbers k t held.indexes

-- it is the first relation of that name, and these are its indexes
pub record IsRelationFound (held : Held) (name : List ℕ) (found : Found) : Type 0 where
  pub cell : cell_from name 0 held.relations ≡ Some (found.slot, found.tuples)
  pub there : get_or held.relations found.slot None ≡ Some found.tuples
  pub indexes : found.indexes ≡ infos_of found.slot found.tuples held.indexes

-- its rows may be read by its indexes
pub record IsReadableBy (state : State) (tables : Tables) (found : Found) : Type 0 where
  pub holds : HoldsRows state found.tuples
  pub numbers : AreOnNumbers found.tuples.schema.attributes found.indexes
  pub readable : AreReadable state (slots state.files found.tuples) found.indexes
  pub complete : IsTrue state.tells → AreIndexesOf state tables (rows state.files found.tuples) found.indexes
