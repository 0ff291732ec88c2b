use Rattle.std.proofs.Common.{◌≡◌, ◌≤◌, IsTrue, length}
use Rattle.afl_base.specs.Files.{bytes_at}
use Rattle.tuple_file.proofs.Packed.{living}
use Rattle.tuple_file.proofs.Written.{first_rows}
use Rattle.tuple_file.proofs.tuples.Tuples.count_live.Given as goal

abbrev pub invariant-loop-slot : goal.invariant-loop-slot
invariant-loop-slot g l =
    let bytes = bytes_at (g.V.Files.state l.fn.files).files l.fn.self.file in
    record {
      same : g.V.Files.state l.files ≡ g.V.Files.state l.fn.files;
      lent : g.V.Files.lent l.files ≡ g.V.Files.lent l.fn.files;
      later : g.V.Files.reads l.fn.files ≤ g.V.Files.reads l.files;
      faults : g.V.Files.faults l.files ≡ g.V.Files.faults l.fn.files;
      few : l.live ≤ l.slot;
      live : IsTrue (g.V.Files.state l.fn.files).tells → l.live ≡ length (living (first_rows l.fn.self.schema.attributes bytes l.slot));
    }
