use Rattle.std.proofs.Common.{◌≡◌, ◌≤◌, length}
use Rattle.std.specs.Prelude.{IsSome, IsTrue}
use Rattle.afl_base.specs.Files.{draft_in}
use Rattle.afl_base.specs.KeyColumn.{key_of}
use Rattle.index_maxheap.specs.Builds.{Gathers, HasOtherDraft, IsSafeBuild}
use Rattle.index_tree.specs.Pairs.{pairs_of}
use Rattle.index_tree.specs.TreeFile.{bucket_place}
use Rattle.index_maxheap.proofs.building.build.Given as goal

abbrev pub invariant-loop-slot : goal.invariant-loop-slot
invariant-loop-slot g l =
    let old = g.V.Files.state l.fn.files in
    let now = g.V.Files.state l.files in
    record {
      files : now.files ≡ old.files;
      tells : now.tells ≡ old.tells;
      begun : IsSome now.draft;
      size : length (draft_in now).bytes ≡ bucket_place l.fn.most;
      only : HasOtherDraft old now;
      store : length now.store ≡ length old.store;
      lent : g.V.Files.lent l.files ≡ g.V.Files.lent l.fn.files;
      reads_later : g.V.Files.reads l.fn.files ≤ g.V.Files.reads l.files;
      faults : g.V.Files.faults l.fn.files ≤ g.V.Files.faults l.files;
      safe : IsSafeBuild l.nodes l.fn.most l.slot;
      gathers : IsTrue old.tells → Gathers l.nodes (draft_in now).bytes (pairs_of (key_of old l.fn.column) l.slot);
    }
