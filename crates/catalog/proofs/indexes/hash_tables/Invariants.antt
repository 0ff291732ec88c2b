use Rattle.std.proofs.Common.{◌≡◌, ◌+◌, ◌≤◌, drop}
use Rattle.catalog.specs.CatalogFile.{indexes_in}
use Rattle.catalog.specs.Rules.{how_many, is_table}
use Rattle.catalog.proofs.indexes.hash_tables.Given as goal

abbrev pub invariant-loop-index : goal.invariant-loop-index
invariant-loop-index l = record {
  count : l.tables + how_many is_table (indexes_in (drop l.index-index l.indexes)) ≡ how_many is_table (indexes_in l.indexes);
  few : l.tables ≤ l.index-index;
}
