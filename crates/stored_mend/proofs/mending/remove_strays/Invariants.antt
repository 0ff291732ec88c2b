use Rattle.std.proofs.Common.{◌≡◌, ◌≤◌, ◌+◌, length, IsTrue, None}
use Rattle.stored_mend.specs.Listed.{IsListedTo, indexes_below, rows_below, trees_below}
use Rattle.stored_mend.specs.Mending.{MendsAsBefore}
use Rattle.stored_mend.specs.Reported.{Reports}
use Rattle.stored_mend.proofs.mending.remove_strays.Given as goal

abbrev pub invariant-loop-slot : goal.invariant-loop-slot
invariant-loop-slot g l = record {
  idle : (g.V.Files.state l.files).draft ≡ None;
  kept : MendsAsBefore (g.V.Files.state l.fn.files) (g.V.Files.state l.files);
  reported : IsTrue (g.V.Files.state l.fn.files).tells → IsListedTo (indexes_below 8) (g.V.Files.state l.fn.files).files → Reports l.slot (g.V.Files.state l.fn.files) (g.V.Files.state l.files) l.fn.report.mended l.report.mended;
  listed : IsTrue (g.V.Files.state l.fn.files).tells → IsListedTo (indexes_below 8) (g.V.Files.state l.fn.files).files → IsListedTo (rows_below l.slot) (g.V.Files.state l.files).files;
  store : length (g.V.Files.state l.files).store ≡ length (g.V.Files.state l.fn.files).store;
  lent : g.V.Files.lent l.files ≡ g.V.Files.lent l.fn.files;
  later : g.V.Files.reads l.fn.files ≤ g.V.Files.reads l.files;
  faults : g.V.Files.faults l.fn.files ≤ g.V.Files.faults l.files;
}

abbrev pub invariant-loop-slot-2 : goal.invariant-loop-slot-2
invariant-loop-slot-2 g l = record {
  idle : (g.V.Files.state l.files).draft ≡ None;
  kept : MendsAsBefore (g.V.Files.state l.fn.files) (g.V.Files.state l.files);
  reported : IsTrue (g.V.Files.state l.fn.files).tells → IsListedTo (indexes_below 8) (g.V.Files.state l.fn.files).files → Reports (8 + l.slot) (g.V.Files.state l.fn.files) (g.V.Files.state l.files) l.fn.report.mended l.report.mended;
  listed : IsTrue (g.V.Files.state l.fn.files).tells → IsListedTo (indexes_below 8) (g.V.Files.state l.fn.files).files → IsListedTo (trees_below l.slot) (g.V.Files.state l.files).files;
  store : length (g.V.Files.state l.files).store ≡ length (g.V.Files.state l.fn.files).store;
  lent : g.V.Files.lent l.files ≡ g.V.Files.lent l.fn.files;
  later : g.V.Files.reads l.fn.files ≤ g.V.Files.reads l.files;
  faults : g.V.Files.faults l.fn.files ≤ g.V.Files.faults l.files;
}
