use Rattle.std.proofs.Common.{◌≡◌, ◌+◌, ◌*◌, ◌≤◌, IsTrue, length, map, take, None}
use Rattle.std.specs.List.{range_with_len}
use Rattle.afl_base.specs.Files.{bytes_at}
use Rattle.db_model.specs.Catalog.{index_at}
use Rattle.catalog.specs.CatalogFile.{indexes_in}
use Rattle.catalog.specs.Formed.{AreBehind}
use Rattle.catalog.specs.Rules.{breaks_index, first}
use Rattle.catalog.proofs.indexes.load_indexes.Given as goal

abbrev pub invariant-loop-slot : goal.invariant-loop-slot
invariant-loop-slot g l = record {
  same : g.V.Files.state l.files ≡ g.V.Files.state l.fn.files;
  long : length l.indexes ≡ 8;
  read : IsTrue (g.V.Files.state l.fn.files).tells → indexes_in (take l.slot l.indexes) ≡ map (index_at (bytes_at (g.V.Files.state l.fn.files).files l.cat)) (range_with_len 0 l.slot);
  sound : IsTrue (g.V.Files.state l.fn.files).tells → first l.slot (breaks_index (bytes_at (g.V.Files.state l.fn.files).files l.cat)) ≡ None;
  behind : AreBehind l.relations (indexes_in (take l.slot l.indexes));
  lent : g.V.Files.lent l.files ≡ g.V.Files.lent l.fn.files;
  reads : g.V.Files.reads l.files ≤ g.V.Files.reads l.fn.files + 3 * l.slot;
  later : g.V.Files.reads l.fn.files ≤ g.V.Files.reads l.files;
  faults : g.V.Files.faults l.files ≡ g.V.Files.faults l.fn.files;
}
