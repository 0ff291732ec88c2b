use Rattle.std.proofs.Common.{◌≡◌, ◌≤◌, IsTrue}
use Rattle.afl_base.specs.Files.{bytes_at}
use Rattle.stored_survey.specs.Pieces.{AreWritten}
use Rattle.stored_survey.proofs.rows.holds_rows.Given as goal

abbrev pub invariant-loop-slot : goal.invariant-loop-slot
invariant-loop-slot g l =
    let start = g.V.Files.state l.fn.files in
    record {
      same : g.V.Files.state l.files ≡ g.V.Files.state l.fn.files;
      written : IsTrue start.tells → AreWritten l.attributes (bytes_at start.files l.file) l.slot;
      lent : g.V.Files.lent l.files ≡ g.V.Files.lent l.fn.files;
      later : g.V.Files.reads l.fn.files ≤ g.V.Files.reads l.files;
      faults : g.V.Files.faults l.files ≡ g.V.Files.faults l.fn.files;
    }
