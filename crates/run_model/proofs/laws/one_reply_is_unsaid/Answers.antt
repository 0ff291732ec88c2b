use Rattle.run_model.proofs.Places.{one_place}
use Rattle.run_model.proofs.laws.one_reply_is_unsaid.Goals as goal

pub returns : goal.returns
returns g c = λ talk. one_place talk
