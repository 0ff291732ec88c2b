use Rattle.space_model.specs.FileNames.{size_in}
use Rattle.space_model.proofs.WantsMost.{wants_at_most}
use Rattle.space_model.proofs.commands_want_at_most.Goals as goal

pub returns : goal.returns
returns g c = λ room. wants_at_most (size_in (g.V.Files.state c.args.files.now).files) _ room
