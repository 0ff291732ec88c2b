use Rattle.space_model.proofs.NamedFiles.{few_by_name}
use Rattle.space_model.proofs.files_ask_for_few.Goals as goal

pub returns : goal.returns
returns g c = λ room. few_by_name _ _ room
