use Rattle.std.proofs.Common.{◌≡◌, ◌≤◌, ℕ, length, take}
use Rattle.std.specs.Prelude.{IsTrue}
use Rattle.afl_base.specs.Frames.{Prepares}
use Rattle.afl_base.specs.Sparing.{StandsStill}
use Rattle.index_set.specs.Inserts.{AreRoomFor, HaveRoom, IsNoTree, OneAsksFor}
use Rattle.index_set.proofs.inserts.prepare_all.Given as goal

abbrev pub invariant-loop-nth : goal.invariant-loop-nth
invariant-loop-nth g l = record {
  count : length l.rooms ≡ l.nth;
  prepares : Prepares (g.V.Files.state l.fn.files) (g.V.Files.state l.files) (IsNoTree (take l.nth l.indexes));
  room : HaveRoom (g.V.Files.state l.files) l.rooms (take l.nth l.indexes);
  exact : IsTrue (g.V.Files.state l.fn.files).tells → AreRoomFor (g.V.Files.state l.fn.files) l.tuple l.rooms (take l.nth l.indexes);
  still : IsTrue (g.V.Files.state l.fn.files).tells
      → ((need : ℕ) → OneAsksFor (g.V.Files.asks l.fn.files) (g.V.Files.state l.fn.files) l.tuple need l.indexes → ⊥)
      → StandsStill g.V.Files.state g.V.Files.asks l.fn.files l.files;
  store : length (g.V.Files.state l.files).store ≡ length (g.V.Files.state l.fn.files).store;
  lent : g.V.Files.lent l.files ≡ g.V.Files.lent l.fn.files;
  faults : g.V.Files.faults l.fn.files ≤ g.V.Files.faults l.files;
  reads : g.V.Files.reads l.fn.files ≤ g.V.Files.reads l.files;
}
