use Rattle.std.proofs.Common.{◌≡◌, ◌-◌, ◌≤◌, length}
use Rattle.afl_base.specs.Files.{bytes_at}
use Rattle.stored_mend.proofs.Copies.{HasFront}
use Rattle.stored_mend.proofs.contents.copy_bytes.Given as goal

abbrev pub invariant-loop-at : goal.invariant-loop-at
invariant-loop-at g l =
    let old = g.V.Files.state l.fn.files in
    record {
      within : l.at ≤ l.size;
      front : HasFront old (g.V.Files.state l.files) l.size l.at (bytes_at old.files l.file);
      store : length (g.V.Files.state l.files).store ≡ length old.store;
      lent : g.V.Files.lent l.files ≡ g.V.Files.lent l.fn.files;
      later : g.V.Files.reads l.fn.files ≤ g.V.Files.reads l.files;
      faults : g.V.Files.faults l.fn.files ≤ g.V.Files.faults l.files;
    }

abbrev pub decreases-loop-at : goal.decreases-loop-at
decreases-loop-at g l = l.size - l.at
