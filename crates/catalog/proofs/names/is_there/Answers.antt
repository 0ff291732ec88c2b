use Rattle.std.proofs.Common.{◌∙◌}
use Rattle.catalog.proofs.Named.{found_there}
use Rattle.catalog.proofs.names.is_there.Goals as goal

pub returns : goal.returns
returns g c = c.is_some.ensures ∙ found_there (g.V.Files.state c.args.files.now).files c.args.name c.find.result c.find.ensures.found c.find.ensures.only c.find.ensures.none
