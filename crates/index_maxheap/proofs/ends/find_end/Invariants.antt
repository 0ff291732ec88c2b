use Rattle.std.proofs.Common.{◌≡◌, ◌≤◌, ◌<◌, ◌+◌, ◌*◌, ℕ, ℤ, List, length}
use Rattle.std.specs.Prelude.{IsTrue}
use Rattle.afl_base.specs.Files.{bytes_at, size_at}
use Rattle.index_maxheap.specs.Walks.{IsUnmet}
use Rattle.index_tree.specs.Pairs.{goes, reaching}
use Rattle.index_tree.specs.TreeFile.{bucket_place}
use Rattle.index_tree.specs.Trees.{IsTreeOf, numbered}
use Rattle.index_maxheap.proofs.ends.find_end.Given as goal

abbrev pub invariant-loop-level : goal.invariant-loop-level
invariant-loop-level g l =
    let bytes = bytes_at (g.V.Files.state l.fn.files).files l.index in
    record {
      same : g.V.Files.state l.files ≡ g.V.Files.state l.fn.files;
      lent : g.V.Files.lent l.files ≡ g.V.Files.lent l.fn.files;
      later : g.V.Files.reads l.fn.files ≤ g.V.Files.reads l.files;
      faults : g.V.Files.faults l.files ≡ g.V.Files.faults l.fn.files;
      reads : g.V.Files.reads l.files ≤ g.V.Files.reads l.fn.files + 12 * l.level;
      low : l.level ≤ 4;
      range : bucket_place l.last ≤ size_at (g.V.Files.state l.fn.files).files l.index;
      unmet : IsTrue (g.V.Files.state l.fn.files).tells → IsUnmet bytes l.key l.level l.last;
      full : IsTrue (g.V.Files.state l.fn.files).tells → (keys : List ℤ) → IsTreeOf bytes keys → (i : ℕ) → i < l.level → 32 ≤ length (reaching (goes l.key) i (numbered 0 keys));
    }
