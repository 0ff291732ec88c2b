use Rattle.catalog.proofs.Replaced.{read_back, relation_changed}
use Rattle.catalog.proofs.laws.one_relation_is_replaced.Goals as goal

pub returns : goal.returns
returns c = λ bytes k slot size below good. relation_changed bytes k slot size below (read_back slot good)
