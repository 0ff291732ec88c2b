use Rattle.std.proofs.Common.{◌≡◌, ◌≤◌, ◌-◌, IsTrue, None, length}
use Rattle.index_set.specs.Walks.{Advances, Fits}
use Rattle.tuple_file.specs.Tuples.{rows}
use Rattle.cursor.proofs.Walking.{Walking}
use Rattle.cursor.proofs.walk.next_bytes.Given as goal

abbrev pub invariant-slots : goal.invariant-slots
invariant-slots g l = record {
  same : g.V.Files.state l.files ≡ g.V.Files.state l.fn.files;
  lent : g.V.Files.lent l.files ≡ g.V.Files.lent l.fn.files;
  reads_later : g.V.Files.reads l.fn.files ≤ g.V.Files.reads l.files;
  faults : g.V.Files.faults l.files ≡ g.V.Files.faults l.fn.files;
  passes : Advances None l.fn.candidates l.candidates;
  later : l.fn.candidates.from ≤ l.candidates.from;
  size : length l.row ≡ length l.fn.row;
  told : IsTrue (g.V.Files.state l.fn.files).tells → Fits l.fn.candidates (g.V.Files.state l.fn.files) l.tables (rows (g.V.Files.state l.fn.files).files l.tuples)
      → Walking (g.V.Files.state l.fn.files) l.tables (rows (g.V.Files.state l.fn.files).files l.tuples) (g.T.Test.passes l.test)
      l.fn.candidates l.candidates (g.V.Files.reads l.fn.files) (g.V.Files.reads l.files);
}

abbrev pub decreases-slots : goal.decreases-slots
decreases-slots g l = l.candidates.slots - l.candidates.from
