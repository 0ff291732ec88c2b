use Rattle.std.proofs.Common.{ap, arith, length, ℕ, List}
use Rattle.stored_mend.proofs.CatalogKept.{catalog_before}
use Rattle.stored_mend.proofs.catalogs.written_catalog.Goals as goal

pub returns-then-size-gt1480-clause-none : goal.returns-then-size-gt1480-clause-none
returns-then-size-gt1480-clause-none g c = λ written.
    let size = ap (λ (xs : List ℕ). length xs) (catalog_before (g.V.Files.state c.args.files.now).files c.in_ok-cat.cat c.in_ok-cat.ensures.found) in
    absurd (omega (arith, size, c.size.ensures, c.if-size-gt1480.true, written.most))
