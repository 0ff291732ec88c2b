use Rattle.std.proofs.Common.{◌≡◌, ◌∙◌, ◌+◌, ℕ, refl, subst, sym}
use Rattle.catalog.specs.Catalogs.{catalog_slots}
use Rattle.stored_mend.specs.Filled.{FillsIn}
use Rattle.stored_mend.specs.Whole.{MakesWhole, HasRowsBelow}
use Rattle.stored_mend.proofs.CatalogKept.{slot_is}
use Rattle.stored_mend.proofs.FilledBase.{fills_same}
use Rattle.stored_mend.proofs.WholeRows.{makes_past}
use Rattle.stored_mend.proofs.ReportOnce.{reports_nothing}
use Rattle.std.specs.Prelude.{⊤}
use Rattle.padded.proofs.Facts.{err_is}
use Rattle.stored_mend.specs.RowsCut.{IsFilledOne}
use Rattle.stored_mend.proofs.CutCalls.{failed_as, left_as, not_failed, space_as, state_as}
use Rattle.stored_mend.proofs.contents.mend_rows.Goals as goal

pub returns-in_ok-mend_relation_rows-in-Some-clause-kept : goal.returns-in_ok-mend_relation_rows-in-Some-clause-kept
returns-in_ok-mend_relation_rows-in-Some-clause-kept g c =
    let same : c.in-Some.id ≡ c.args.slot = slot_is c.args.slot c.in-Some.id (sym c.in-Some.is ∙ c.new.ensures) in
    subst (λ (n : ℕ). FillsIn (λ k. k ≡ n) (g.V.Files.state c.args.files.now) (g.V.Files.state c.mend_relation_rows.new.files)) same c.in_ok-mend_relation_rows-in-Some.ensures.kept

pub returns-in_ok-mend_relation_rows-in-Some-clause-whole : goal.returns-in_ok-mend_relation_rows-in-Some-clause-whole
returns-in_ok-mend_relation_rows-in-Some-clause-whole g c =
    let same : c.in-Some.id ≡ c.args.slot = slot_is c.args.slot c.in-Some.id (sym c.in-Some.is ∙ c.new.ensures) in
    subst (λ (n : ℕ). MakesWhole (catalog_slots c.args.catalog.now) n (n + 1) (g.V.Files.state c.args.files.now) (g.V.Files.state c.mend_relation_rows.new.files)) same c.in_ok-mend_relation_rows-in-Some.ensures.whole

pub returns-in-None-clause-kept : goal.returns-in-None-clause-kept
returns-in-None-clause-kept g c = fills_same (λ k. k ≡ c.args.slot) (g.V.Files.state c.args.files.now)

pub returns-in-None-clause-whole : goal.returns-in-None-clause-whole
returns-in-None-clause-whole g c = makes_past (catalog_slots c.args.catalog.now) (g.V.Files.state c.args.files.now) c.args.slot (sym c.in-None.is ∙ c.new.ensures)

pub returns-in_err-mend_relation_rows-in-Some-clause-space : goal.returns-in_err-mend_relation_rows-in-Some-clause-space
returns-in_err-mend_relation_rows-in-Some-clause-space g c = λ told listed half below.
    let same : c.in-Some.id ≡ c.args.slot = slot_is c.args.slot c.in-Some.id (sym c.in-Some.is ∙ c.new.ensures) in
    let here = subst (λ (n : ℕ). HasRowsBelow (g.V.Files.state c.args.files.now).files n half) (sym same) below in
    let is = err_is c.from_residual.result c.in_err-mend_relation_rows-in-Some.field-0.0 c.from_residual.ensures.1 in
    space_as ⊤ _ c.in_err-mend_relation_rows-in-Some.field-0.0 c.from_residual.result is _ _
    (λ need left. state_as (g.V.Files.state c.mend_relation_rows.new.files) (λ db filled. subst (λ (n : ℕ). IsFilledOne n (g.V.Files.state c.args.files.now).files db) same filled) left)
    (c.in_err-mend_relation_rows-in-Some.ensures.space told listed half here)

pub returns-in_err-mend_relation_rows-in-Some-clause-cut : goal.returns-in_err-mend_relation_rows-in-Some-clause-cut
returns-in_err-mend_relation_rows-in-Some-clause-cut g c = λ told listed half below cuts failed.
    let same : c.in-Some.id ≡ c.args.slot = slot_is c.args.slot c.in-Some.id (sym c.in-Some.is ∙ c.new.ensures) in
    let here = subst (λ (n : ℕ). HasRowsBelow (g.V.Files.state c.args.files.now).files n half) (sym same) below in
    let is = err_is c.from_residual.result c.in_err-mend_relation_rows-in-Some.field-0.0 c.from_residual.ensures.1 in
    left_as
    (c.in_err-mend_relation_rows-in-Some.ensures.cut told listed half here cuts (failed_as _ _ c.in_err-mend_relation_rows-in-Some.field-0.0 c.from_residual.result is failed))
    (λ db filled. subst (λ (n : ℕ). IsFilledOne n (g.V.Files.state c.args.files.now).files db) same filled)

pub returns-in_ok-mend_relation_rows-in-Some-clause-cut : goal.returns-in_ok-mend_relation_rows-in-Some-clause-cut
returns-in_ok-mend_relation_rows-in-Some-clause-cut g c = λ told listed half below cuts failed. not_failed _ _ _ failed

pub returns-in-None-clause-cut : goal.returns-in-None-clause-cut
returns-in-None-clause-cut g c = λ told listed half below cuts failed. not_failed _ _ _ failed

pub returns-in-None-clause-reported : goal.returns-in-None-clause-reported
returns-in-None-clause-reported g c = λ told. reports_nothing 1 _ _ _ _ refl refl
