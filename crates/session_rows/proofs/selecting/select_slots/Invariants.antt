use Rattle.std.proofs.Common.{◌≡◌, ◌<◌, ◌≤◌, ◌-◌, IsTrue, length}
use Rattle.db_model.specs.Row.{row_length}
use Rattle.index_set.specs.Walks.{Fits}
use Rattle.tuple_file.specs.Tuples.{rows}
use Rattle.cursor.specs.Remaining.{MayRead, slots_to_answer}
use Rattle.session_rows.specs.Marking.{AreBelow, IsMarkedFront}
use Rattle.session_rows.proofs.selecting.select_slots.Given as goal

abbrev pub invariant-slots : goal.invariant-slots
invariant-slots g l = record {
  same : g.V.Files.state l.files ≡ g.V.Files.state l.fn.files;
  lent : g.V.Files.lent l.files ≡ g.V.Files.lent l.fn.files;
  faults : g.V.Files.faults l.files ≡ g.V.Files.faults l.fn.files;
  reads : g.V.Files.reads l.fn.files ≤ g.V.Files.reads l.files;
  tuples : l.cursor.tuples ≡ l.fn.cursor.tuples;
  code : l.cursor.code ≡ l.fn.cursor.code;
  slots : l.cursor.candidates.slots ≡ l.fn.cursor.candidates.slots;
  row : 0 < l.fn.cursor.candidates.slots → length l.row ≡ row_length l.fn.cursor.tuples.schema.attributes;
  few : l.selected.count ≤ l.cursor.candidates.from;
  ends : l.selected.end ≤ l.cursor.candidates.from;
  firsts : length l.selected.first ≤ l.selected.count;
  may_read : MayRead (g.V.Files.state l.fn.files) l.cursor.tuples l.cursor.candidates;
  below : AreBelow l.fn.cursor.candidates.slots l.selected.first;
  fits : IsTrue (g.V.Files.state l.fn.files).tells → Fits l.fn.cursor.candidates (g.V.Files.state l.fn.files) l.tables (rows (g.V.Files.state l.fn.files).files l.fn.cursor.tuples)
      → Fits l.cursor.candidates (g.V.Files.state l.fn.files) l.tables (rows (g.V.Files.state l.fn.files).files l.fn.cursor.tuples);
  front : IsTrue (g.V.Files.state l.fn.files).tells → Fits l.fn.cursor.candidates (g.V.Files.state l.fn.files) l.tables (rows (g.V.Files.state l.fn.files).files l.fn.cursor.tuples)
      → IsMarkedFront l.selected (slots_to_answer l.fn.cursor (rows (g.V.Files.state l.fn.files).files l.fn.cursor.tuples)) (slots_to_answer l.cursor (rows (g.V.Files.state l.fn.files).files l.fn.cursor.tuples));
}

abbrev pub decreases-slots : goal.decreases-slots
decreases-slots g l = l.cursor.candidates.slots - l.cursor.candidates.from
