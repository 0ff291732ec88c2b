use Rattle.std.proofs.Common.{◌≡◌, ◌*◌, ◌≤◌, IsTrue, length}
use Rattle.std.specs.Fn.{FnReturnsAt}
use Rattle.afl_base.specs.Files.{bytes_at}
use Rattle.db_model.specs.Row.{row_length}
use Rattle.tuple_file.specs.Gathered.{IsFree, end_of_waiting, gathered}
use Rattle.tuple_file.specs.Tuples.{OfSlots, OnlyDraftChanges}
use Rattle.tuple_file.proofs.Answered.{Rewritten}
use Rattle.tuple_file.proofs.Written.{first_rows}
use Rattle.tuple_file.proofs.tuples.Tuples.draft_answered.Given as goal

abbrev pub invariant-loop-slot : goal.invariant-loop-slot
invariant-loop-slot g l =
    let attributes = l.fn.self.schema.attributes in
    let bytes = bytes_at (g.V.Files.state l.fn.files).files l.fn.self.file in
    record {
      only : OnlyDraftChanges (g.V.Files.state l.fn.files) (g.V.Files.state l.files);
      store : length (g.V.Files.state l.files).store ≡ length (g.V.Files.state l.fn.files).store;
      lent : g.V.Files.lent l.files ≡ g.V.Files.lent l.fn.files;
      later : g.V.Files.reads l.fn.files ≤ g.V.Files.reads l.files;
      faults : g.V.Files.faults l.fn.files ≤ g.V.Files.faults l.files;
      row : length l.row ≡ row_length attributes;
      behind : end_of_waiting l.waiting ≡ row_length attributes * l.slot;
      free : IsTrue (g.V.Files.state l.fn.files).tells → IsFree (g.V.Files.state l.files) l.waiting;
      rewritten : IsTrue (g.V.Files.state l.fn.files).tells →
          Rewritten (OfSlots l.fn.asked attributes (FnReturnsAt g.F.Fn l.fn.removed)) attributes (length bytes) (first_rows attributes bytes l.slot) (gathered (g.V.Files.state l.files) l.waiting);
    }
