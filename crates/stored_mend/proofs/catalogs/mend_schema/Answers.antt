use Rattle.std.proofs.Common.{◌∙◌, ap, arith, ◌≡◌}
use Rattle.stored.specs.Mended.{has_time, whole_catalog, mended_base}
use Rattle.stored_mend.specs.Mending.{MendsAsBefore}
use Rattle.stored_mend.proofs.CatalogKept.{mends_then, schema_kept}
use Rattle.stored_mend.proofs.CatalogRead.{version_timed}
use Rattle.stored_mend.proofs.Together.{lacks_then, on_ok}
use Rattle.stored_mend.specs.Reported.{Reports}
use Rattle.stored_mend.proofs.ReportOnce.{reports_then}
use Rattle.db_model.specs.Database.{Database}
use Rattle.stored_mend.specs.Interrupted.{IsCutState}
use Rattle.stored_mend.specs.Listed.{relations_below}
use Rattle.stored_mend.proofs.CutCalls.{failed_handed, left_as, on_space, space_handed, state_as}
use Rattle.stored_mend.proofs.CutListed.{listed_is_cut}
use Rattle.stored_mend.proofs.catalogs.mend_schema.Goals as goal

pub returns-clause-kept : goal.returns-clause-kept
returns-clause-kept g c = λ is.
    let old = g.V.Files.state c.args.files.now in
    let marked = g.V.Files.state c.mark_time.new.files in
    let new = g.V.Files.state c.take_back_attribute.new.files in
    let first = c.in_ok-mark_time.ensures.kept (λ timed told. version_timed (whole_catalog old.files) c.args.slot c.requires.slot (ap has_time (is told) ∙ timed)) in
    on_ok c.take_back_attribute.result (MendsAsBefore marked new) (MendsAsBefore old new) (λ last. mends_then old marked new first last)
    (c.take_back_attribute.ensures.kept (schema_kept old marked c.args.slot c.args.schema.now first c.requires.slot is))

pub returns-clause-frame : goal.returns-clause-frame
returns-clause-frame g c =
    lacks_then g.V.Files.state g.V.Files.lent g.V.Files.reads g.V.Files.faults g.V.Files.lacks c.args.files.now c.mark_time.new.files c.take_back_attribute.new.files _ c.take_back_attribute.result
    c.in_ok-mark_time.ensures.frame c.take_back_attribute.ensures.frame

pub returns-clause-listed : goal.returns-clause-listed
returns-clause-listed g c = λ told is l.
    let old = g.V.Files.state c.args.files.now in
    let marked = g.V.Files.state c.mark_time.new.files in
    let first = c.in_ok-mark_time.ensures.kept (λ timed here. version_timed (whole_catalog old.files) c.args.slot c.requires.slot (ap has_time (is here) ∙ timed)) in
    c.take_back_attribute.ensures.listed (first.tells ∙ told) (schema_kept old marked c.args.slot c.args.schema.now first c.requires.slot is)
    (c.in_ok-mark_time.ensures.marked told c.args.slot c.requires.slot is l)

-- what is left where a call failed

pub returns-in_err-mark_time-clause-cut : goal.returns-in_err-mark_time-clause-cut
returns-in_err-mark_time-clause-cut g c = λ told is l cuts failed.
    let old = g.V.Files.state c.args.files.now in
    c.mark_time.ensures.cut told (λ timed here. version_timed (whole_catalog old.files) c.args.slot c.requires.slot (ap has_time (is here) ∙ timed))
    (listed_is_cut (relations_below c.args.slot) old.files l) cuts
    (failed_handed c.mark_time.result c.from_residual.result c.in_err-mark_time.field-0.0 c.in_err-mark_time.was c.from_residual.ensures.1 failed)

pub returns-in_err-mark_time-clause-space : goal.returns-in_err-mark_time-clause-space
returns-in_err-mark_time-clause-space g c = λ told is l.
    let old = g.V.Files.state c.args.files.now in
    let left = IsCutState (g.V.Files.state c.mark_time.new.files) (λ (db : Database). db ≡ mended_base old.files) in
    space_handed c.mark_time.result c.from_residual.result c.in_err-mark_time.field-0.0 left left c.in_err-mark_time.was c.from_residual.ensures.1 (λ is. is)
    (c.mark_time.ensures.space told (λ timed here. version_timed (whole_catalog old.files) c.args.slot c.requires.slot (ap has_time (is here) ∙ timed))
    (listed_is_cut (relations_below c.args.slot) old.files l))

pub returns-clause-cut : goal.returns-clause-cut
returns-clause-cut g c = λ told is l cuts failed.
    let old = g.V.Files.state c.args.files.now in
    let marked = g.V.Files.state c.mark_time.new.files in
    let first = c.in_ok-mark_time.ensures.kept (λ timed here. version_timed (whole_catalog old.files) c.args.slot c.requires.slot (ap has_time (is here) ∙ timed)) in
    left_as
    (c.take_back_attribute.ensures.cut (first.tells ∙ told) (schema_kept old marked c.args.slot c.args.schema.now first c.requires.slot is)
    (c.in_ok-mark_time.ensures.marked told c.args.slot c.requires.slot is l) cuts failed)
    (λ (db : Database) same. same ∙ first.base told)

pub returns-clause-space : goal.returns-clause-space
returns-clause-space g c = λ told is l.
    let old = g.V.Files.state c.args.files.now in
    let marked = g.V.Files.state c.mark_time.new.files in
    let new = g.V.Files.state c.take_back_attribute.new.files in
    let first = c.in_ok-mark_time.ensures.kept (λ timed here. version_timed (whole_catalog old.files) c.args.slot c.requires.slot (ap has_time (is here) ∙ timed)) in
    on_space (IsCutState new (λ (db : Database). db ≡ mended_base marked.files)) (IsCutState new (λ (db : Database). db ≡ mended_base old.files)) c.take_back_attribute.result
    (state_as new (λ (db : Database) same. same ∙ first.base told))
    (c.take_back_attribute.ensures.space (first.tells ∙ told) (schema_kept old marked c.args.slot c.args.schema.now first c.requires.slot is)
    (c.in_ok-mark_time.ensures.marked told c.args.slot c.requires.slot is l))

pub returns-clause-reported : goal.returns-clause-reported
returns-clause-reported g c = λ told is.
    let old = g.V.Files.state c.args.files.now in
    let marked = g.V.Files.state c.mark_time.new.files in
    let new = g.V.Files.state c.take_back_attribute.new.files in
    let first = c.in_ok-mark_time.ensures.kept (λ timed here. version_timed (whole_catalog old.files) c.args.slot c.requires.slot (ap has_time (is here) ∙ timed)) in
    on_ok c.take_back_attribute.result
    (Reports 1 marked new c.mark_time.new.report.mended c.take_back_attribute.new.report.mended) (Reports 2 old new c.args.report.now.mended c.take_back_attribute.new.report.mended)
    (λ last. reports_then 1 1 2 old marked new _ _ _ (c.in_ok-mark_time.ensures.reported told) last (omega arith))
    (c.take_back_attribute.ensures.reported (first.tells ∙ told) (schema_kept old marked c.args.slot c.args.schema.now first c.requires.slot is))
