use Rattle.std.proofs.Common.{◌∙◌, sym, refl, ◌≡◌}
use Rattle.stored_mend.proofs.CatalogKept.{marked_in_part}
use Rattle.stored_mend.proofs.ListedFirst.{marked_listed, short_listed}
use Rattle.stored_mend.proofs.ListedSteps.{half_of, taken_unwritten}
use Rattle.stored_mend.proofs.ReportOnce.{reports_nothing}
use Rattle.db_model.specs.Database.{Database}
use Rattle.stored.specs.Mended.{mended_base}
use Rattle.stored_mend.specs.Interrupted.{IsCutState}
use Rattle.stored_mend.proofs.CutCalls.{failed_handed, space_handed}
use Rattle.stored_mend.proofs.CutListed.{taken_is_cut}
use Rattle.stored_mend.proofs.catalogs.complete_mark.Goals as goal

pub returns-clause-kept : goal.returns-clause-kept
returns-clause-kept g c =
    let w = c.in-Some.ensures.found.whole in
    c.in_ok-write_mark.ensures.kept
    (λ told. marked_in_part (g.V.Files.state c.args.files.now).files c.in-Some.cat w (λ e. c.if-size-eq-SIZE_OF_VERSION_1.false (c.size.ensures ∙ e)))

pub returns-in_default-clause-listed : goal.returns-in_default-clause-listed
returns-in_default-clause-listed g c = λ told taken. taken_unwritten (g.V.Files.state c.args.files.now).files taken c.in_default.ensures.none

pub returns-then-size-eq-SIZE_OF_VERSION_1-clause-listed : goal.returns-then-size-eq-SIZE_OF_VERSION_1-clause-listed
returns-then-size-eq-SIZE_OF_VERSION_1-clause-listed g c = λ told taken.
    short_listed (g.V.Files.state c.args.files.now).files c.in-Some.cat c.in-Some.ensures.found.whole (sym c.size.ensures ∙ c.if-size-eq-SIZE_OF_VERSION_1.true) taken

pub returns-clause-listed : goal.returns-clause-listed
returns-clause-listed g c = λ told taken.
    let old = (g.V.Files.state c.args.files.now).files in
    let w = c.in-Some.ensures.found.whole in
    let done = half_of old c.in-Some.cat w taken in
    marked_listed old (g.V.Files.state c.write_mark.new.files).files done.0 taken.known c.in_ok-write_mark.ensures.known
    (c.in_ok-write_mark.ensures.marked told (λ here. marked_in_part old c.in-Some.cat w (λ e. c.if-size-eq-SIZE_OF_VERSION_1.false (c.size.ensures ∙ e))) done.0 done.1)

-- what is left where the call failed

pub returns-in_err-write_mark-clause-cut : goal.returns-in_err-write_mark-clause-cut
returns-in_err-write_mark-clause-cut g c = λ told taken cuts failed.
    let old = (g.V.Files.state c.args.files.now).files in
    let w = c.in-Some.ensures.found.whole in
    c.write_mark.ensures.cut told (λ here. marked_in_part old c.in-Some.cat w (λ e. c.if-size-eq-SIZE_OF_VERSION_1.false (c.size.ensures ∙ e))) (taken_is_cut old taken) cuts
    (failed_handed c.write_mark.result c.from_residual.result c.in_err-write_mark.field-0.0 c.in_err-write_mark.was c.from_residual.ensures.1 failed)

pub returns-in_err-write_mark-clause-space : goal.returns-in_err-write_mark-clause-space
returns-in_err-write_mark-clause-space g c = λ told taken.
    let old = (g.V.Files.state c.args.files.now).files in
    let left = IsCutState (g.V.Files.state c.write_mark.new.files) (λ (db : Database). db ≡ mended_base old) in
    let w = c.in-Some.ensures.found.whole in
    space_handed c.write_mark.result c.from_residual.result c.in_err-write_mark.field-0.0 left left c.in_err-write_mark.was c.from_residual.ensures.1 (λ is. is)
    (c.write_mark.ensures.space told (λ here. marked_in_part old c.in-Some.cat w (λ e. c.if-size-eq-SIZE_OF_VERSION_1.false (c.size.ensures ∙ e))) (taken_is_cut old taken))

pub returns-in_default-clause-reported : goal.returns-in_default-clause-reported
returns-in_default-clause-reported g c = λ told. reports_nothing 1 _ _ _ _ refl refl

pub returns-then-size-eq-SIZE_OF_VERSION_1-clause-reported : goal.returns-then-size-eq-SIZE_OF_VERSION_1-clause-reported
returns-then-size-eq-SIZE_OF_VERSION_1-clause-reported g c = λ told. reports_nothing 1 _ _ _ _ refl refl

pub returns-clause-reported : goal.returns-clause-reported
returns-clause-reported g c = λ told. c.in_ok-write_mark.ensures.reported told
