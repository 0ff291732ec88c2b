use Rattle.std.proofs.Common.{◌≡◌, drop}
use Rattle.std.specs.List.{list_any}
use Rattle.catalog.specs.CatalogFile.{indexes_in}
use Rattle.catalog.specs.Rules.{is_table}
use Rattle.session_start.proofs.holding.table_behind.Given as goal

abbrev pub invariant-loop-index : goal.invariant-loop-index
invariant-loop-index l = list_any is_table (indexes_in l.before) ≡ list_any is_table (indexes_in (drop l.index-index l.before))
