use Rattle.std.proofs.Common.{◌≡◌, drop}
use Rattle.std.specs.List.{list_any}
use Rattle.catalog.specs.CatalogFile.{index_in, indexes_in}
use Rattle.catalog.specs.Rules.{is_same_place}
use Rattle.catalog.proofs.indexes.is_doubled.Given as goal

abbrev pub invariant-loop-index : goal.invariant-loop-index
invariant-loop-index l = list_any (is_same_place (index_in l.entry)) (indexes_in l.indexes) ≡ list_any (is_same_place (index_in l.entry)) (indexes_in (drop l.index-index l.indexes))
