use Rattle.std.proofs.Common.{◌≡◌, ◌≤◌, ◌+◌, ◌*◌, ℕ, ℤ, List}
use Rattle.std.specs.Prelude.{IsTrue}
use Rattle.afl_base.specs.Files.{bytes_at}
use Rattle.index_maxheap.specs.Walks.{IsInChain}
use Rattle.index_tree.specs.Trees.{IsTreeOf}
use Rattle.index_maxheap.proofs.ends.chain_end.Given as goal

abbrev pub invariant-loop-turns : goal.invariant-loop-turns
invariant-loop-turns g l =
    let bytes = bytes_at (g.V.Files.state l.fn.files).files l.index in
    record {
      same : g.V.Files.state l.files ≡ g.V.Files.state l.fn.files;
      lent : g.V.Files.lent l.files ≡ g.V.Files.lent l.fn.files;
      later : g.V.Files.reads l.fn.files ≤ g.V.Files.reads l.files;
      faults : g.V.Files.faults l.files ≡ g.V.Files.faults l.fn.files;
      reads : g.V.Files.reads l.files ≤ g.V.Files.reads l.fn.files + 9 * l.turns;
      chain : IsTrue (g.V.Files.state l.fn.files).tells → (keys : List ℤ) (key : ℤ) (hop : ℕ) → IsTreeOf bytes keys → IsInChain bytes key hop l.fn.start → IsInChain bytes key (hop + l.turns) l.number;
    }
