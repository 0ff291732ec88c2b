use Rattle.db_model.proofs.Decoded.{length-suits}
use Rattle.tuple_file.proofs.tuples.Tuples.get.Goals as goal

pub returns-clause-size : goal.returns-clause-size
returns-clause-size g c = length-suits c.args.self.now.schema.attributes c.get_tuple.new.into c.get_tuple.ensures.suits
