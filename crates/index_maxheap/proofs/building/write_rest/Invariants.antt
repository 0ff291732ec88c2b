use Rattle.std.proofs.Common.{◌≡◌, ◌≤◌, ℕ, List, length}
use Rattle.std.specs.Prelude.{IsSome, IsTrue}
use Rattle.afl_base.specs.Files.{draft_in}
use Rattle.index_maxheap.specs.Builds.{HasOtherDraft, NodesAwait}
use Rattle.index_maxheap.proofs.building.write_rest.Given as goal

abbrev pub invariant-loop-node : goal.invariant-loop-node
invariant-loop-node g l =
    let old = g.V.Files.state l.fn.files in
    let now = g.V.Files.state l.files in
    record {
      begun : IsSome now.draft;
      size : length (draft_in now).bytes ≡ length (draft_in old).bytes;
      tells : now.tells ≡ old.tells;
      only : HasOtherDraft old now;
      store : length now.store ≡ length old.store;
      lent : g.V.Files.lent l.files ≡ g.V.Files.lent l.fn.files;
      reads_later : g.V.Files.reads l.fn.files ≤ g.V.Files.reads l.files;
      faults : g.V.Files.faults l.fn.files ≤ g.V.Files.faults l.files;
      files : now.files ≡ old.files;
      awaits : IsTrue old.tells → (full : List ℕ) → NodesAwait 0 l.fn.nodes (draft_in old).bytes full → NodesAwait l.node l.fn.nodes (draft_in now).bytes full;
    }
