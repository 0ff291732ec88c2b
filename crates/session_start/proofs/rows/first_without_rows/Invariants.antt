use Rattle.std.proofs.Common.{◌≡◌, ◌<◌, ◌≤◌, ◌+◌, ◌*◌, ℕ, IsTrue, take}
use Rattle.session_start.specs.Judged.{HasRows, HoldsSlot}
use Rattle.session_start.specs.Reads.{all_slots}
use Rattle.session_start.proofs.rows.first_without_rows.Given as goal

abbrev pub invariant-loop-slot : goal.invariant-loop-slot
invariant-loop-slot g l =
    let start = g.V.Files.state l.fn.files in
    record {
      same : g.V.Files.state l.files ≡ start;
      rows : IsTrue start.tells → (k : ℕ) → k < l.slot → HasRows start.files l.held k;
      holds : (k : ℕ) → k < l.slot → HoldsSlot start l.held k;
      reads : g.V.Files.reads l.files ≤ g.V.Files.reads l.fn.files + 6 * all_slots start.files (take l.slot l.held.relations);
      lent : g.V.Files.lent l.files ≡ g.V.Files.lent l.fn.files;
      later : g.V.Files.reads l.fn.files ≤ g.V.Files.reads l.files;
      faults : g.V.Files.faults l.files ≡ g.V.Files.faults l.fn.files;
    }
