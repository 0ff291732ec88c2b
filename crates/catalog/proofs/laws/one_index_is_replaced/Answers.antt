use Rattle.catalog.proofs.Replaced.{index_changed}
use Rattle.catalog.proofs.laws.one_index_is_replaced.Goals as goal

pub returns : goal.returns
returns c = index_changed
