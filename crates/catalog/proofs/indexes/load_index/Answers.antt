use Rattle.catalog.specs.CatalogFile.{indexes_in}
use Rattle.catalog.proofs.Forming.{index_behind}
use Rattle.catalog.proofs.indexes.load_index.Goals as goal

pub returns-clause-behind : goal.returns-clause-behind
returns-clause-behind g c = index_behind c.read.new.into c.args.relations.now (indexes_in c.args.before.now) c.sound_index.result c.sound_index.ensures
