use Rattle.std.proofs.Common.{arith, sym, ◌∙◌}
use Rattle.padded.proofs.Facts.{yes_no}
use Rattle.stored_survey.proofs.BegunFiles.{empty_catalog, front_decides, no_catalog, no_rows, too_long}
use Rattle.stored_survey.proofs.FirstCatalog.{if_ok_map}
use Rattle.stored_survey.proofs.begun.is_begun.Goals as goal

pub returns-in_default-clause-begun : goal.returns-in_default-clause-begun
returns-in_default-clause-begun g c = λ told short known.
    no_catalog (g.V.Files.state c.args.files.now).files (c.has_no_more.ensures.is.0 c.if-not-has_no_more.false) known short (rw c.catalog_file.ensures at c.in_default.ensures.none)

pub returns-then-size-eq0-clause-begun : goal.returns-then-size-eq0-clause-begun
returns-then-size-eq0-clause-begun g c = λ told short known.
    empty_catalog (g.V.Files.state c.args.files.now).files (c.has_no_more.ensures.is.0 c.if-not-has_no_more.false) known short c.in-Some.cat
    (rw c.catalog_file.ensures at c.in-Some.ensures.found) (rw c.catalog_file.ensures at c.in-Some.ensures.only) (sym c.size-size.ensures ∙ c.if-size-eq0.true)

pub returns-then-size-ge-SIZE_OF_VERSION_1-clause-begun : goal.returns-then-size-ge-SIZE_OF_VERSION_1-clause-begun
returns-then-size-ge-SIZE_OF_VERSION_1-clause-begun g c = λ told short known.
    too_long (g.V.Files.state c.args.files.now).files (c.has_no_more.ensures.is.0 c.if-not-has_no_more.false) known short c.in-Some.cat
    (rw c.catalog_file.ensures at c.in-Some.ensures.found) (rw c.catalog_file.ensures at c.in-Some.ensures.only) (omega (arith, c.size-size.ensures, c.if-size-ge-SIZE_OF_VERSION_1.true))

pub returns-then-not-has_rows-clause-begun : goal.returns-then-not-has_rows-clause-begun
returns-then-not-has_rows-clause-begun g c = λ told short known.
    no_rows (g.V.Files.state c.args.files.now).files (c.has_no_more.ensures.is.0 c.if-not-has_no_more.false) known short c.in-Some.cat
    (rw c.catalog_file.ensures at c.in-Some.ensures.found) (rw c.catalog_file.ensures at c.in-Some.ensures.only) (omega (arith, c.size-size.ensures, c.if-size-eq0.false))
    (λ found. yes_no c.has_rows.result (c.has_rows.ensures.is.1 found) c.if-not-has_rows.true)

pub returns-clause-begun : goal.returns-clause-begun
returns-clause-begun g c = λ told short known.
    if_ok_map c.begins_catalog.result _ _
    (λ r d. front_decides (g.V.Files.state c.args.files.now).files (c.has_no_more.ensures.is.0 c.if-not-has_no_more.false) known short c.in-Some.cat
    (rw c.catalog_file.ensures at c.in-Some.ensures.found) (rw c.catalog_file.ensures at c.in-Some.ensures.only) (omega (arith, c.size-size.ensures, c.if-size-eq0.false))
    r (c.has_rows.ensures.is.0 c.if-not-has_rows.false) d)
    (c.begins_catalog.ensures.is told)
