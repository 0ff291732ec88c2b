use Rattle.std.proofs.Common.{◌≡◌, drop}
use Rattle.catalog.specs.CatalogFile.{indexes_in}
use Rattle.db_model.specs.Row.{row_of}
use Rattle.stored_mend.specs.Whole.{all_take, row_read}
use Rattle.stored_mend.proofs.taking.all_take.Given as goal

abbrev pub invariant-loop-index : goal.invariant-loop-index
invariant-loop-index l =
    all_take (indexes_in l.indexes) l.relation l.slots (row_read l.attributes l.before) (row_of l.attributes l.row)
    ≡ all_take (indexes_in (drop l.index-index l.indexes)) l.relation l.slots (row_read l.attributes l.before) (row_of l.attributes l.row)
