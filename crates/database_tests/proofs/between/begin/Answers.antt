use Rattle.index_set.specs.declared.info.TableId.TheVariants.{First}
use Rattle.database_tests.proofs.between.begin.Goals as goal

pub make_relation-requires-clause-empty : goal.make_relation-requires-clause-empty
make_relation-requires-clause-empty g c = c.requires.empty First
