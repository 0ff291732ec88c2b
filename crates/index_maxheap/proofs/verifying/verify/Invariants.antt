use Rattle.std.proofs.Common.{◌≡◌, ◌≤◌, ◌<◌, ◌+◌, ◌*◌, ◌^◌, ℕ, get_or}
use Rattle.std.specs.Prelude.{IsTrue}
use Rattle.afl_base.specs.Files.{bytes_at, size_at}
use Rattle.afl_base.specs.KeyColumn.{key_of}
use Rattle.db_model.specs.HashTree.{buckets}
use Rattle.index_tree.specs.Pairs.{pair_keys, pairs_of}
use Rattle.index_maxheap.specs.Verify.{HasSeen}
use Rattle.index_maxheap.proofs.verifying.verify.Given as goal

abbrev pub invariant-loop-slot : goal.invariant-loop-slot
invariant-loop-slot g l =
    let old = g.V.Files.state l.fn.files in
    let ps = pairs_of (key_of old l.fn.column) l.slot in
    record {
      same : g.V.Files.state l.files ≡ old;
      lent : g.V.Files.lent l.files ≡ g.V.Files.lent l.fn.files;
      reads : g.V.Files.reads l.files ≤ g.V.Files.reads l.fn.files + (15 * l.slot + 18);
      reads_later : g.V.Files.reads l.fn.files ≤ g.V.Files.reads l.files;
      faults : g.V.Files.faults l.files ≡ g.V.Files.faults l.fn.files;
      light : (i : ℕ) → get_or l.seen.loads i 0 ≤ l.slot;
      inside : (i : ℕ) → get_or l.seen.places i 0 + 195 ≤ size_at old.files l.index;
      low : (i : ℕ) → get_or l.seen.places i 0 < 2 ^ 25;
      few : l.opened ≤ l.slot;
      verifies : IsTrue old.tells → HasSeen (bytes_at old.files l.index) l.seen ps × (l.opened ≡ buckets (pair_keys ps));
    }
