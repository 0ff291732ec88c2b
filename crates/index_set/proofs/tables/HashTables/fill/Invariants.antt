use Rattle.std.proofs.Common.{◌≡◌, ◌≢◌, ◌≤◌, ◌+◌, ◌*◌, length, map}
use Rattle.std.specs.Prelude.{IsTrue}
use Rattle.std.specs.List.{range_with_len}
use Rattle.afl_base.specs.KeyColumn.{key_of}
use Rattle.index_set.specs.declared.info.TableId.{TableId}
use Rattle.index_set.specs.Tables.{entries}
use Rattle.index_set.proofs.tables.HashTables.fill.Given as goal

abbrev pub invariant-loop-at : goal.invariant-loop-at
invariant-loop-at g l = record {
  same : g.V.Files.state l.files ≡ g.V.Files.state l.fn.files;
  keys : IsTrue (g.V.Files.state l.fn.files).tells → entries l.self l.table ≡ map (key_of (g.V.Files.state l.fn.files) l.column) (range_with_len 0 l.at);
  size : length (entries l.self l.table) ≡ l.at;
  other : (other : TableId) → other ≢ l.table → entries l.self other ≡ entries l.fn.self other;
  lent : g.V.Files.lent l.files ≡ g.V.Files.lent l.fn.files;
  faults : g.V.Files.faults l.files ≡ g.V.Files.faults l.fn.files;
  reads_later : g.V.Files.reads l.fn.files ≤ g.V.Files.reads l.files;
  reads : g.V.Files.reads l.files ≤ g.V.Files.reads l.fn.files + 6 * l.at;
}
