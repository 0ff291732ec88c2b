use Rattle.std.proofs.Common.{◌≡◌, ◌≤◌, ◌+◌, ◌*◌, ℕ, get_or}
use Rattle.std.specs.Prelude.{IsTrue}
use Rattle.afl_base.specs.KeyColumn.{key_of}
use Rattle.db_model.specs.HashTree.{buckets}
use Rattle.index_tree.specs.Loads.{CountsPairs}
use Rattle.index_tree.specs.Pairs.{pair_keys, pairs_of}
use Rattle.index_maxheap.specs.Builds.{AreLoads}
use Rattle.index_maxheap.proofs.loads.buckets_for.Given as goal

abbrev pub invariant-loop-slot : goal.invariant-loop-slot
invariant-loop-slot g l =
    let ps = pairs_of (key_of (g.V.Files.state l.fn.files) l.fn.column) l.slot in
    record {
      same : g.V.Files.state l.files ≡ g.V.Files.state l.fn.files;
      lent : g.V.Files.lent l.files ≡ g.V.Files.lent l.fn.files;
      reads : g.V.Files.reads l.files ≤ g.V.Files.reads l.fn.files + 6 * l.slot;
      reads_later : g.V.Files.reads l.fn.files ≤ g.V.Files.reads l.files;
      faults : g.V.Files.faults l.files ≡ g.V.Files.faults l.fn.files;
      few : (i : ℕ) → get_or l.loads i 0 ≤ l.slot;
      opened : l.buckets ≤ l.slot;
      kept : AreLoads l.loads l.slot l.buckets;
      counts : IsTrue (g.V.Files.state l.fn.files).tells → CountsPairs l.loads ps × (l.buckets ≡ buckets (pair_keys ps));
    }
