use Rattle.std.proofs.Common.{arith}
use Rattle.stored_mend.proofs.CatalogKept.{catalog_none, catalog_short, none_given}
use Rattle.stored_mend.proofs.listing.whole_catalog.Goals as goal

pub returns-in_err-cat-clause-none : goal.returns-in_err-cat-clause-none
returns-in_err-cat-clause-none g c =
    none_given c.from_residual.result _ (catalog_none (g.V.Files.state c.args.files.now).files (rw c.catalog_file.ensures at c.in_err-cat.ensures.none))

pub returns-then-size-lt-SIZE_OF_VERSION_1-clause-none : goal.returns-then-size-lt-SIZE_OF_VERSION_1-clause-none
returns-then-size-lt-SIZE_OF_VERSION_1-clause-none g c =
    catalog_short (g.V.Files.state c.args.files.now).files c.in_ok-cat.cat
    (rw c.catalog_file.ensures at c.in_ok-cat.ensures.found) (rw c.catalog_file.ensures at c.in_ok-cat.ensures.only)
    (omega (arith, c.size.ensures, c.if-size-lt-SIZE_OF_VERSION_1.true))
