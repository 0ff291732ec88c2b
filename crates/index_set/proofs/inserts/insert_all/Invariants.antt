use Rattle.std.proofs.Common.{◌≡◌, ◌≤◌, ◌+◌, ◌++◌, ◌∷◌, [], List, length, take}
use Rattle.std.specs.Prelude.{IsTrue}
use Rattle.db_model.specs.Row.{Row}
use Rattle.afl_base.specs.Frames.{SparesOthers}
use Rattle.afl_base.specs.Sparing.{TakesNoPage}
use Rattle.index_set.specs.Complete.{AreComplete, AreHeld}
use Rattle.index_set.specs.Inserts.{AllKeepBuckets, AreRoomFor, IsNoTree, KeepsTables, MayAllFollow}
use Rattle.index_set.proofs.inserts.insert_all.Given as goal

abbrev pub invariant-loop-nth : goal.invariant-loop-nth
invariant-loop-nth g l =
    let start = g.V.Files.state l.fn.files in
    let now = g.V.Files.state l.files in
    let done = take l.nth l.indexes in
    record {
      spares : SparesOthers start now (IsNoTree done);
      tables : KeepsTables l.fn.tables l.tables done;
      held : AreHeld now l.tables (l.slot + 1) done;
      complete : IsTrue start.tells → (rows : List Row) (row : Row) → length rows ≡ l.slot → row.tuple ≡ l.tuple
          → AreComplete start l.fn.tables rows l.indexes → AreRoomFor start l.tuple l.rooms l.indexes → MayAllFollow rows l.tuple l.indexes
          → AreComplete now l.tables (rows ++ row ∷ []) done;
      keeps : IsTrue start.tells → (rows : List Row) → length rows ≡ l.slot → AreComplete start l.fn.tables rows l.indexes
          → AreRoomFor start l.tuple l.rooms l.indexes → AllKeepBuckets start now done;
      free : IsTrue start.tells → TakesNoPage g.V.Files.is_free start.store now.store;
      store : length (g.V.Files.state l.files).store ≡ length (g.V.Files.state l.fn.files).store;
      lent : g.V.Files.lent l.files ≡ g.V.Files.lent l.fn.files;
      faults : g.V.Files.faults l.fn.files ≤ g.V.Files.faults l.files;
      reads : g.V.Files.reads l.fn.files ≤ g.V.Files.reads l.files;
    }
