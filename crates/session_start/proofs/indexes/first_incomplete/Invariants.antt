use Rattle.std.proofs.Common.{◌≡◌, ◌<◌, ◌≤◌, ◌+◌, ℕ, IsTrue, take}
use Rattle.session_start.specs.Judged.{IsReadySlot, KeepsSlot}
use Rattle.session_start.specs.Reads.{all_reads}
use Rattle.session_start.proofs.indexes.first_incomplete.Given as goal

abbrev pub invariant-loop-slot : goal.invariant-loop-slot
invariant-loop-slot g l =
    let start = g.V.Files.state l.fn.files in
    record {
      same : g.V.Files.state l.files ≡ start;
      kept : IsTrue start.tells → (i : ℕ) → i < l.slot → KeepsSlot start.files l.held i;
      ready : (i : ℕ) → i < l.slot → IsReadySlot start l.tables l.held i;
      reads : g.V.Files.reads l.files ≤ g.V.Files.reads l.fn.files + all_reads start.files l.held.relations (take l.slot l.held.indexes);
      lent : g.V.Files.lent l.files ≡ g.V.Files.lent l.fn.files;
      later : g.V.Files.reads l.fn.files ≤ g.V.Files.reads l.files;
      faults : g.V.Files.faults l.files ≡ g.V.Files.faults l.fn.files;
    }
