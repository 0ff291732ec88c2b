use Rattle.std.proofs.Common.{ap}
use Rattle.db_model.specs.Catalog.{Catalog}
use Rattle.stored_mend.proofs.KeptBase.{relations_listed}
use Rattle.stored_mend.proofs.mending.sound_catalog.Goals as goal

pub returns-in-Ok-clause-listed : goal.returns-in-Ok-clause-listed
returns-in-Ok-clause-listed g c = λ told.
    relations_listed (g.V.Files.state c.args.files.now).files c.load.new.catalog.relations (rw c.in-Ok.is at c.in_ok-load.ensures.size)
    (ap (λ (slots : Catalog). slots.relations) ((rw c.in-Ok.is at c.in_ok-load.ensures.catalog) told))

pub returns-in-Ok-clause-loaded : goal.returns-in-Ok-clause-loaded
returns-in-Ok-clause-loaded g c = λ told. (rw c.in-Ok.is at c.in_ok-load.ensures.catalog) told
