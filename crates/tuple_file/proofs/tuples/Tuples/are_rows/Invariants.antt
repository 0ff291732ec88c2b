use Rattle.std.proofs.Common.{◌≡◌, ℕ, ◌+◌, ◌-◌, ◌*◌, ◌<◌, ◌≤◌, IsTrue}
use Rattle.db_model.specs.Row.{row_bytes}
use Rattle.tuple_file.specs.Tuples.{row, row_slot_bytes}
use Rattle.tuple_file.proofs.tuples.Tuples.are_rows.Given as goal

abbrev pub invariant-loop-slot : goal.invariant-loop-slot
invariant-loop-slot g l =
    let attributes = l.fn.self.schema.attributes in
    let files = (g.V.Files.state l.fn.files).files in
    record {
      same : g.V.Files.state l.files ≡ g.V.Files.state l.fn.files;
      reads : g.V.Files.reads l.files ≤ g.V.Files.reads l.fn.files + 6 * l.slot;
      lent : g.V.Files.lent l.files ≡ g.V.Files.lent l.fn.files;
      later : g.V.Files.reads l.fn.files ≤ g.V.Files.reads l.files;
      faults : g.V.Files.faults l.files ≡ g.V.Files.faults l.fn.files;
      within : l.slot ≤ l.fn.count;
      each : IsTrue (g.V.Files.state l.fn.files).tells → (k : ℕ) → k < l.slot → row_bytes attributes (row files l.fn.self k) ≡ row_slot_bytes files l.fn.self k;
    }

abbrev pub decreases-loop-slot : goal.decreases-loop-slot
decreases-loop-slot g l = l.count - l.slot
