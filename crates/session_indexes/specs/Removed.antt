-- What the files are after an index went.
use Rattle.std.specs.Prelude.{◌≡◌, ◌<◌, ℕ, List, Option, Some, None, get_or}
use Rattle.afl_base.specs.Files.{IsUnnamed, State, Table, bytes_at}
use Rattle.db_model.specs.Catalog.{with_index_slot}
use Rattle.db_model.specs.Database.{reader_of}
use Rattle.db_model.specs.Item.{place_of}
use Rattle.space_model.specs.FileNames.{tree_file}
use Rattle.tuple_file.specs.declared.tuples.Tuples.{Tuples}
use Rattle.session_model.specs.declared.held.Held.{Held}
use Rattle.session_model.specs.declared.held.Indexed.{Indexed}
use Rattle.session_model.specs.declared.held.Open.{Open}
use Rattle.session_model.specs.Frames.{HasBytes, LeavesOthers}
use Rattle.session_model.specs.View.{view}
use Rattle.session_indexes.specs.declared.removing.Standing.{Standing}
use Rattle.session_indexes.specs.Sites.{slot_from}

-- the index stands on an attribute of the relation, whose rows no open cursor reads
pub record IsRemovable (held : Held) (opens : List (Option Open)) (name attribute : List ℕ) (relation : ℕ) (t : Tuples) (standing : Standing) : Type 0 where
  pub at : ℕ
  pub place : place_of attribute t.schema.attributes ≡ Some at
  pub found : slot_from relation at 0 held.indexes ≡ Some standing.slot
  pub below : standing.slot < 8
  pub index : Indexed
  pub there : get_or held.indexes standing.slot None ≡ Some index
  pub relation_is : index.relation ≡ relation
  pub access_is : index.access ≡ standing.access
  pub unread : (files : Table) → reader_of (view files held opens) name ≡ None

-- the slot of the catalog is empty, and no file has the name of its tree
pub record IsTaken (old new : State) (cat slot : ℕ) : Type 0 where
  pub leaves : LeavesOthers old new (tree_file slot)
  pub bytes : HasBytes old new cat (with_index_slot (bytes_at old.files cat) slot None)
  pub idle : new.draft ≡ None
  pub unnamed : IsUnnamed new.files (tree_file slot)
