use Rattle.index_memhash.proofs.Links.{zeros_table}
use Rattle.index_memhash.proofs.table.HashTable.new.Goals as goal

pub invariant_of-result : goal.invariant_of-result
invariant_of-result c = zeros_table
