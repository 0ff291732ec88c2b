use Rattle.std.proofs.Common.{rules, arith}
use Rattle.index_memhash.proofs.Links.{none_chained}
use Rattle.index_memhash.proofs.table.HashTable.clear.Goals as goal

pub invariant_of-self : goal.invariant_of-self
invariant_of-self c = record {
  few = omega arith;
  keys_size = search rules;
  links_size = c.empty.ensures.links_size;
  last_size = c.empty.ensures.last_size;
  chained = none_chained _ _ c.empty.ensures.heads c.empty.ensures.last;
}
