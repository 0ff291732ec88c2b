use Rattle.catalog.proofs.Named.{found_there}
use Rattle.stored_survey.proofs.HalfParts.{some_bytes}
use Rattle.stored_survey.proofs.places.named.Goals as goal

pub returns-clause-there : goal.returns-clause-there
returns-clause-there g c = found_there (g.V.Files.state c.args.files.now).files c.args.name c.find.result c.find.ensures.found c.find.ensures.only c.find.ensures.none

pub returns-clause-bytes : goal.returns-clause-bytes
returns-clause-bytes g c = some_bytes (g.V.Files.state c.args.files.now).files c.args.name c.find.result c.find.ensures.found c.find.ensures.only
