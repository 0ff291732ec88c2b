use Rattle.std.proofs.Common.{◌≡◌, ◌<◌, ◌≤◌, ◌-◌, IsTrue, length}
use Rattle.db_model.specs.Row.{row_length}
use Rattle.index_set.specs.Walks.{Fits}
use Rattle.cursor.specs.Remaining.{MayRead}
use Rattle.tuple_file.specs.Tuples.{rows}
use Rattle.session_queries.proofs.Lines.{SelectGoes}
use Rattle.session_queries.proofs.selecting.select_rows.Given as goal

abbrev pub invariant-rows : goal.invariant-rows
invariant-rows g l = record {
  same : g.V.Files.state l.files ≡ g.V.Files.state l.fn.files;
  lent : g.V.Files.lent l.files ≡ g.V.Files.lent l.fn.files;
  reads_later : g.V.Files.reads l.fn.files ≤ g.V.Files.reads l.files;
  files_later : g.V.Files.faults l.fn.files ≤ g.V.Files.faults l.files;
  faultless : g.K.Sink.faults l.out ≡ g.K.Sink.faults l.fn.out;
  sink_lent : g.K.Sink.lent l.out ≡ g.K.Sink.lent l.fn.out;
  tuples : l.cursor.tuples ≡ l.fn.cursor.tuples;
  slots : l.cursor.candidates.slots ≡ l.fn.cursor.candidates.slots;
  row : 0 < l.fn.cursor.candidates.slots → length l.row ≡ row_length l.fn.cursor.tuples.schema.attributes;
  few : l.count ≤ l.cursor.candidates.from;
  may_read : MayRead (g.V.Files.state l.fn.files) l.cursor.tuples l.cursor.candidates;
  told : IsTrue (g.V.Files.state l.fn.files).tells → Fits l.fn.cursor.candidates (g.V.Files.state l.fn.files) l.tables (rows (g.V.Files.state l.fn.files).files l.fn.cursor.tuples)
      → SelectGoes (g.V.Files.state l.fn.files) l.tables (rows (g.V.Files.state l.fn.files).files l.fn.cursor.tuples) l.places l.fn.cursor l.cursor (g.K.Sink.held l.fn.out) (g.K.Sink.held l.out) l.count
      (g.V.Files.reads l.fn.files) (g.V.Files.reads l.files);
}

abbrev pub decreases-rows : goal.decreases-rows
decreases-rows g l = l.cursor.candidates.slots - l.cursor.candidates.from
