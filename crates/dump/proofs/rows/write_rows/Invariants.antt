use Rattle.std.proofs.Common.{◌≡◌, ◌+◌, ◌*◌, ◌≤◌, IsTrue, flat_map, take}
use Rattle.std.specs.Io.KnownBytes.{append_known}
use Rattle.db_model.specs.Sound.{IsSoundDatabase}
use Rattle.space_model.specs.Enough.{rows_in}
use Rattle.dump.specs.Parts.{row_lines}
use Rattle.dump.specs.Unchanged.{IsAsBefore}
use Rattle.dump.proofs.rows.write_rows.Given as goal

abbrev pub invariant-loop-at : goal.invariant-loop-at
invariant-loop-at g l = record {
  wrote : IsTrue (g.V.Files.state l.fn.session.files).tells → IsSoundDatabase l.fn.session.database
      → g.K.Sink.held l.out ≡ append_known (g.K.Sink.held l.fn.out) (flat_map (row_lines l.relation) (take l.at (rows_in l.fn.session.database l.id)));
  same : IsAsBefore g.V.Files.state l.fn.session l.session;
  reads : g.V.Files.reads l.session.files ≤ g.V.Files.reads l.fn.session.files + 6 * l.at;
  files_lent : g.V.Files.lent l.session.files ≡ g.V.Files.lent l.fn.session.files;
  reads_later : g.V.Files.reads l.fn.session.files ≤ g.V.Files.reads l.session.files;
  later : g.V.Files.faults l.fn.session.files ≤ g.V.Files.faults l.session.files;
  lent : g.K.Sink.lent l.out ≡ g.K.Sink.lent l.fn.out;
  faults : g.K.Sink.faults l.out ≡ g.K.Sink.faults l.fn.out;
}
