-- The catalog's law, as it is proved over plain lists.
use Rattle.db_model.proofs.Catalogs.{catalog_back}
use Rattle.db_model.proofs.laws.catalogs_are_read_back.Goals as goal

pub returns : goal.returns
returns c = catalog_back
