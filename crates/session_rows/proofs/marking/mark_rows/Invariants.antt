use Rattle.std.proofs.Common.{◌≡◌, ◌≢◌, ◌+◌, ◌≤◌, take, length, IsTrue}
use Rattle.afl_base.specs.Files.{file_at}
use Rattle.afl_base.specs.Frames.{SparesOthers}
use Rattle.afl_base.specs.Sparing.{TakesNoPage}
use Rattle.tuple_file.specs.Tuples.{HoldsRows, rows, slots}
use Rattle.session_rows.specs.Marking.{marked}
use Rattle.session_rows.proofs.marking.mark_rows.Given as goal

abbrev pub invariant-loop-slot : goal.invariant-loop-slot
invariant-loop-slot g l = record {
  holds : HoldsRows (g.V.Files.state l.files) l.tuples;
  count : slots (g.V.Files.state l.files).files l.tuples ≡ slots (g.V.Files.state l.fn.files).files l.tuples;
  records : length l.slot-items ≤ l.slot-index + (file_at (g.V.Files.state l.files).files l.tuples.file).records;
  spared : SparesOthers (g.V.Files.state l.fn.files) (g.V.Files.state l.files) (λ k. k ≢ l.tuples.file);
  told : IsTrue (g.V.Files.state l.fn.files).tells → rows (g.V.Files.state l.files).files l.tuples ≡ marked (take l.slot-index l.slot-items) (rows (g.V.Files.state l.fn.files).files l.tuples);
  free : IsTrue (g.V.Files.state l.fn.files).tells → TakesNoPage g.V.Files.is_free (g.V.Files.state l.fn.files).store (g.V.Files.state l.files).store;
  store : length (g.V.Files.state l.files).store ≡ length (g.V.Files.state l.fn.files).store;
  lent : g.V.Files.lent l.files ≡ g.V.Files.lent l.fn.files;
  faults : g.V.Files.faults l.fn.files ≤ g.V.Files.faults l.files;
  reads : g.V.Files.reads l.fn.files ≤ g.V.Files.reads l.files;
}
