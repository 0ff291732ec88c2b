use Rattle.catalog.proofs.Forming.{relation_formed}
use Rattle.catalog.proofs.relations.load_relation.Goals as goal

pub returns-clause-formed : goal.returns-clause-formed
returns-clause-formed g c = relation_formed c.args.version c.read.new.into c.args.before.now c.sound_relation.result c.sound_relation.ensures
