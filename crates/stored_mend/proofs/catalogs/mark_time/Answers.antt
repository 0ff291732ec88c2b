use Rattle.std.proofs.Common.{◌∙◌, ℕ, List, length, ap, sym, refl, ◌≡◌}
use Rattle.stored.specs.Mended.{has_time, whole_catalog, mended_base}
use Rattle.stored_mend.specs.Listed.{relations_below}
use Rattle.stored_mend.proofs.CatalogKept.{catalog_before, mends_same}
use Rattle.stored_mend.proofs.CatalogRead.{version_timed}
use Rattle.stored_mend.proofs.ListedSlots.{mark_long, mark_past, marked_slot}
use Rattle.stored_mend.proofs.ListedSteps.{done_of}
use Rattle.stored_mend.proofs.ReportOnce.{reports_nothing}
use Rattle.db_model.specs.Database.{Database}
use Rattle.stored_mend.specs.Interrupted.{IsCutState}
use Rattle.stored_mend.proofs.CutCalls.{failed_handed, space_handed}
use Rattle.stored_mend.proofs.catalogs.mark_time.Goals as goal

pub returns-then-size-ne-SIZE_OF_VERSION_1-clause-kept : goal.returns-then-size-ne-SIZE_OF_VERSION_1-clause-kept
returns-then-size-ne-SIZE_OF_VERSION_1-clause-kept g c = λ version. mends_same (g.V.Files.state c.args.files.now)

pub returns-then-not-has_time-clause-kept : goal.returns-then-not-has_time-clause-kept
returns-then-not-has_time-clause-kept g c = λ version. mends_same (g.V.Files.state c.args.files.now)

pub returns-clause-kept : goal.returns-clause-kept
returns-clause-kept g c = λ version. c.in_ok-write_mark.ensures.kept (version (sym c.if-not-has_time.ensures))

pub returns-then-size-ne-SIZE_OF_VERSION_1-clause-marked : goal.returns-then-size-ne-SIZE_OF_VERSION_1-clause-marked
returns-then-size-ne-SIZE_OF_VERSION_1-clause-marked g c = λ told slot below is l.
    let files = (g.V.Files.state c.args.files.now).files in
    let done = done_of files c.args.cat (relations_below slot) c.requires.catalog.whole l in
    let size = ap (λ (xs : List ℕ). length xs) (catalog_before files c.args.cat c.requires.catalog.whole) in
    record { listed = l; mark = mark_long files slot (λ e. c.if-size-ne-SIZE_OF_VERSION_1.true (c.size.ensures ∙ sym size ∙ e)) done.1.mark }

pub returns-then-not-has_time-clause-marked : goal.returns-then-not-has_time-clause-marked
returns-then-not-has_time-clause-marked g c = λ told slot below is l.
    let files = (g.V.Files.state c.args.files.now).files in
    let done = done_of files c.args.cat (relations_below slot) c.requires.catalog.whole l in
    record { listed = l; mark = mark_past files slot below (ap has_time (is told) ∙ sym c.if-not-has_time.ensures) done.1.mark }

pub returns-clause-marked : goal.returns-clause-marked
returns-clause-marked g c = λ told slot below is l.
    let old = g.V.Files.state c.args.files.now in
    let done = done_of old.files c.args.cat (relations_below slot) c.requires.catalog.whole l in
    let m = c.in_ok-write_mark.ensures.marked told (λ here. version_timed (whole_catalog old.files) slot below (ap has_time (is told) ∙ sym c.if-not-has_time.ensures)) done.0 done.1.done in
    marked_slot old.files (g.V.Files.state c.write_mark.new.files).files slot done.0 l.known c.in_ok-write_mark.ensures.known m done.1.ahead

-- what is left where the call failed

pub returns-in_err-write_mark-clause-cut : goal.returns-in_err-write_mark-clause-cut
returns-in_err-write_mark-clause-cut g c = λ told version cut cuts failed.
    c.write_mark.ensures.cut told (version (sym c.if-not-has_time.ensures)) cut cuts
    (failed_handed c.write_mark.result c.from_residual.result c.in_err-write_mark.field-0.0 c.in_err-write_mark.was c.from_residual.ensures.1 failed)

pub returns-in_err-write_mark-clause-space : goal.returns-in_err-write_mark-clause-space
returns-in_err-write_mark-clause-space g c = λ told version cut.
    let old = (g.V.Files.state c.args.files.now).files in
    let left = IsCutState (g.V.Files.state c.write_mark.new.files) (λ (db : Database). db ≡ mended_base old) in
    space_handed c.write_mark.result c.from_residual.result c.in_err-write_mark.field-0.0 left left c.in_err-write_mark.was c.from_residual.ensures.1 (λ is. is)
    (c.write_mark.ensures.space told (version (sym c.if-not-has_time.ensures)) cut)

pub returns-then-size-ne-SIZE_OF_VERSION_1-clause-reported : goal.returns-then-size-ne-SIZE_OF_VERSION_1-clause-reported
returns-then-size-ne-SIZE_OF_VERSION_1-clause-reported g c = λ told. reports_nothing 1 _ _ _ _ refl refl

pub returns-then-not-has_time-clause-reported : goal.returns-then-not-has_time-clause-reported
returns-then-not-has_time-clause-reported g c = λ told. reports_nothing 1 _ _ _ _ refl refl
