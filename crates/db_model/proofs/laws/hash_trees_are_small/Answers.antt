-- The bound by the number of keys.
use Rattle.std.proofs.Common.{arith}
use Rattle.db_model.proofs.Buckets.{buckets_bound}
use Rattle.db_model.proofs.laws.hash_trees_are_small.Goals as goal

pub returns-clause-small : goal.returns-clause-small
returns-clause-small c = λ keys few. let bound = buckets_bound keys in omega (arith, few, bound)

pub returns-clause-large : goal.returns-clause-large
returns-clause-large c = λ keys few. let bound = buckets_bound keys in omega (arith, few, bound)
