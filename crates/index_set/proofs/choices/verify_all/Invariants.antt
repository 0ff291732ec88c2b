use Rattle.std.proofs.Common.{◌≡◌, ◌≤◌, ◌+◌, List, length, take}
use Rattle.std.specs.Prelude.{IsTrue}
use Rattle.db_model.specs.Row.{Row}
use Rattle.index_set.specs.Complete.{AreComplete, AreHeld, HaveKeysOf, most_reads_of_all}
use Rattle.index_set.specs.Inserts.{AreDoublingTrees, KeepsTables}
use Rattle.index_set.proofs.choices.verify_all.Given as goal

abbrev pub invariant-loop-nth : goal.invariant-loop-nth
invariant-loop-nth g l =
    let start = g.V.Files.state l.fn.files in
    record {
      same : g.V.Files.state l.files ≡ start;
      tables : KeepsTables l.fn.tables l.tables (take l.nth l.indexes);
      complete : IsTrue start.tells → (all : List Row) → length all ≡ l.slots → HaveKeysOf start all l.indexes → AreComplete start l.tables all (take l.nth l.indexes);
      held : AreDoublingTrees start l.indexes → AreHeld start l.tables l.slots (take l.nth l.indexes);
      most : g.V.Files.reads l.files ≤ g.V.Files.reads l.fn.files + most_reads_of_all l.slots (take l.nth l.indexes);
      lent : g.V.Files.lent l.files ≡ g.V.Files.lent l.fn.files;
      faults : g.V.Files.faults l.files ≡ g.V.Files.faults l.fn.files;
      reads : g.V.Files.reads l.fn.files ≤ g.V.Files.reads l.files;
    }
