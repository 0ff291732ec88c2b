use Rattle.std.proofs.Common.{ℕ, ap, subst}
use Rattle.std.specs.Prelude.{option_map}
use Rattle.afl_base.specs.Files.{File, IsNamed, IsUnnamed}
use Rattle.catalog.proofs.Named.{named_none}
use Rattle.space_model.specs.FileNames.{rows_file}
use Rattle.stored_mend.proofs.CatalogKept.{slot_is}
use Rattle.stored_mend.proofs.ReportSteps.{seen_there}
use Rattle.stored_mend.proofs.catalogs.report_removed.Goals as goal

pub returns-in-Some-find-clause-told : goal.returns-in-Some-find-clause-told
returns-in-Some-find-clause-told g c = λ none.
    let files = (g.V.Files.state c.args.files.now).files in
    absurd (seen_there files c.in-Some-find.field-0 (rows_file c.args.slot)
    (subst (λ (k : ℕ). IsNamed files c.in-Some-find.field-0 (rows_file k)) (slot_is c.args.slot c.in-Some.id c.in-Some.ensures) (rw c.rows_file.ensures at c.in-Some-find.ensures.found)) none)

pub returns-in-None-clause-still : goal.returns-in-None-clause-still
returns-in-None-clause-still g c = λ there.
    let files = (g.V.Files.state c.args.files.now).files in
    absurd (there (ap (option_map (λ (f : File). f.bytes)) (named_none files (rows_file c.args.slot)
    (subst (λ (k : ℕ). IsUnnamed files (rows_file k)) (slot_is c.args.slot c.in-Some.id c.in-Some.ensures) (rw c.rows_file.ensures at c.in-None.ensures.none)))))
