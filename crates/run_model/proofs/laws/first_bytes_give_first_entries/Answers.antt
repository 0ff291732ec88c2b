use Rattle.run_model.proofs.Fronts.{whole_is_front}
use Rattle.run_model.proofs.laws.first_bytes_give_first_entries.Goals as goal

pub returns : goal.returns
returns c = whole_is_front
