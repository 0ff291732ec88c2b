use Rattle.std.proofs.Common.{◌≡◌, ◌≢◌, ◌≤◌, ◌<◌, ◌+◌, ◌*◌, ℕ}
use Rattle.std.specs.Prelude.{IsTrue}
use Rattle.afl_base.specs.Files.{bytes_at}
use Rattle.index_tree.specs.TreeFile.{number_of}
use Rattle.index_maxheap.proofs.hints.hop_of.Given as goal

abbrev pub invariant-loop-level : goal.invariant-loop-level
invariant-loop-level g l =
    let bytes = bytes_at (g.V.Files.state l.fn.files).files l.index in
    record {
      same : g.V.Files.state l.files ≡ g.V.Files.state l.fn.files;
      lent : g.V.Files.lent l.files ≡ g.V.Files.lent l.fn.files;
      later : g.V.Files.reads l.fn.files ≤ g.V.Files.reads l.files;
      faults : g.V.Files.faults l.files ≡ g.V.Files.faults l.fn.files;
      reads : g.V.Files.reads l.files ≤ g.V.Files.reads l.fn.files + 3 * l.level;
      past : IsTrue (g.V.Files.state l.fn.files).tells → (i : ℕ) → i < l.level → number_of bytes l.key i ≢ l.bucket;
    }
