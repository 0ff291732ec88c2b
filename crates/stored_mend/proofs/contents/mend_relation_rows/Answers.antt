use Rattle.std.proofs.Common.{◌∙◌, ◌≡◌, ℕ, List, Option, None, ap, sym, get_or, arith, refl, ◌<◌}
use Rattle.std.proofs.lemmas.List.{get_or_read_under}
use Rattle.catalog.specs.Catalogs.{catalog_slots}
use Rattle.db_model.specs.declared.schemas.Schema.{Schema}
use Rattle.stored_mend.proofs.FilledBase.{fills_rows, fills_same}
use Rattle.stored_mend.proofs.WholeRows.{makes_none, makes_one}
use Rattle.stored_mend.proofs.HalfKept.{relation_at_slot}
use Rattle.stored_mend.proofs.ReportOnce.{reports_nothing}
use Rattle.std.specs.Prelude.{⊤}
use Rattle.padded.proofs.Facts.{err_is}
use Rattle.stored_mend.proofs.RowsInterrupted.{rows_cut, rows_space}
use Rattle.stored_mend.proofs.CutCalls.{failed_as, not_failed, space_as}
use Rattle.stored_mend.proofs.contents.mend_relation_rows.Goals as goal

pub returns-in_ok-mend_rows_of-in-Some-clause-kept : goal.returns-in_ok-mend_rows_of-in-Some-clause-kept
returns-in_ok-mend_rows_of-in-Some-clause-kept g c =
    let item = c.index-catalog-number in
    let read = get_or_read_under _ _ 8 _ None item.is c.number.ensures.below (sym c.requires.relations) in
    fills_rows (g.V.Files.state c.args.files.now) (g.V.Files.state c.mend_rows_of.new.files) c.args.id c.in-Some.schema (omega (arith, c.number.ensures.below, c.number.ensures.value)) c.in_ok-mend_rows_of-in-Some.ensures.others
    (λ told. sym (ap (λ (rs : List (Option Schema)). get_or rs c.args.id None) (c.requires.listed told))
    ∙ ap (λ (i : ℕ). get_or c.args.catalog.now.relations i None) (sym c.number.ensures.value) ∙ sym read ∙ item.is ∙ c.in-Some.is)
    c.in_ok-mend_rows_of-in-Some.ensures.rows

pub returns-in_ok-mend_rows_of-in-Some-clause-whole : goal.returns-in_ok-mend_rows_of-in-Some-clause-whole
returns-in_ok-mend_rows_of-in-Some-clause-whole g c =
    let item = c.index-catalog-number in
    let read = get_or_read_under _ _ 8 _ None item.is c.number.ensures.below (sym c.requires.relations) in
    makes_one (catalog_slots c.args.catalog.now) (g.V.Files.state c.args.files.now) (g.V.Files.state c.mend_rows_of.new.files) c.args.id c.in-Some.schema c.in_ok-mend_rows_of-in-Some.ensures.others
    (returns-in_ok-mend_rows_of-in-Some-clause-kept g c).base
    (λ told. sym (ap (λ (rs : List (Option Schema)). get_or rs c.args.id None) (c.requires.listed told))
    ∙ ap (λ (i : ℕ). get_or c.args.catalog.now.relations i None) (sym c.number.ensures.value) ∙ sym read ∙ item.is ∙ c.in-Some.is)
    c.in_ok-mend_rows_of-in-Some.ensures.mended

pub returns-in-None-clause-kept : goal.returns-in-None-clause-kept
returns-in-None-clause-kept g c = fills_same (λ k. k ≡ c.args.id) (g.V.Files.state c.args.files.now)

pub returns-in-None-clause-whole : goal.returns-in-None-clause-whole
returns-in-None-clause-whole g c =
    let item = c.index-catalog-number in
    let read = get_or_read_under _ _ 8 _ None item.is c.number.ensures.below (sym c.requires.relations) in
    makes_none (catalog_slots c.args.catalog.now) (g.V.Files.state c.args.files.now) c.args.id
    (λ told. sym (ap (λ (rs : List (Option Schema)). get_or rs c.args.id None) (c.requires.listed told))
    ∙ ap (λ (i : ℕ). get_or c.args.catalog.now.relations i None) (sym c.number.ensures.value) ∙ sym read ∙ item.is ∙ c.in-None.is)

pub returns-in_err-mend_rows_of-in-Some-clause-space : goal.returns-in_err-mend_rows_of-in-Some-clause-space
returns-in_err-mend_rows_of-in-Some-clause-space g c = λ told listed half below.
    let item = c.index-catalog-number in
    let read = get_or_read_under _ _ 8 _ None item.is c.number.ensures.below (sym c.requires.relations) in
    let there = sym (ap (λ (rs : List (Option Schema)). get_or rs c.args.id None) (c.requires.listed told))
    ∙ ap (λ (i : ℕ). get_or c.args.catalog.now.relations i None) (sym c.number.ensures.value) ∙ sym read ∙ item.is ∙ c.in-Some.is in
    let is = err_is c.from_residual.result c.in_err-mend_rows_of-in-Some.field-0.0 c.from_residual.ensures.1 in
    space_as ⊤ _ c.in_err-mend_rows_of-in-Some.field-0.0 c.from_residual.result is _ _
    (λ need part. rows_space (catalog_slots c.args.catalog.now) (g.V.Files.state c.args.files.now) c.args.id c.in-Some.schema told listed there half below (g.V.Files.state c.mend_rows_of.new.files) c.requires.idle part)
    (c.in_err-mend_rows_of-in-Some.ensures.space told)

pub returns-in_err-mend_rows_of-in-Some-clause-cut : goal.returns-in_err-mend_rows_of-in-Some-clause-cut
returns-in_err-mend_rows_of-in-Some-clause-cut g c = λ told listed half below cuts failed.
    let item = c.index-catalog-number in
    let read = get_or_read_under _ _ 8 _ None item.is c.number.ensures.below (sym c.requires.relations) in
    let there = sym (ap (λ (rs : List (Option Schema)). get_or rs c.args.id None) (c.requires.listed told))
    ∙ ap (λ (i : ℕ). get_or c.args.catalog.now.relations i None) (sym c.number.ensures.value) ∙ sym read ∙ item.is ∙ c.in-Some.is in
    let is = err_is c.from_residual.result c.in_err-mend_rows_of-in-Some.field-0.0 c.from_residual.ensures.1 in
    rows_cut (catalog_slots c.args.catalog.now) (g.V.Files.state c.args.files.now) c.args.id c.in-Some.schema told listed there half below
    (c.in_err-mend_rows_of-in-Some.ensures.cut cuts told (failed_as _ _ c.in_err-mend_rows_of-in-Some.field-0.0 c.from_residual.result is failed))

pub returns-in_ok-mend_rows_of-in-Some-clause-cut : goal.returns-in_ok-mend_rows_of-in-Some-clause-cut
returns-in_ok-mend_rows_of-in-Some-clause-cut g c = λ told listed half below cuts failed. not_failed _ _ _ failed

pub returns-in-None-clause-cut : goal.returns-in-None-clause-cut
returns-in-None-clause-cut g c = λ told listed half below cuts failed. not_failed _ _ _ failed

-- what is told

pub returns-in_ok-mend_rows_of-in-Some-clause-reported : goal.returns-in_ok-mend_rows_of-in-Some-clause-reported
returns-in_ok-mend_rows_of-in-Some-clause-reported g c = λ told.
    let item = c.index-catalog-number in
    let read = get_or_read_under _ _ 8 _ None item.is c.number.ensures.below (sym c.requires.relations) in
    let below : c.args.id < 8 = omega (arith, c.number.ensures.below, c.number.ensures.value) in
    c.in_ok-mend_rows_of-in-Some.ensures.reported told below
    (λ here. sym (relation_at_slot (g.V.Files.state c.args.files.now).files c.args.id below)
    ∙ sym (ap (λ (rs : List (Option Schema)). get_or rs c.args.id None) (c.requires.listed told))
    ∙ ap (λ (i : ℕ). get_or c.args.catalog.now.relations i None) (sym c.number.ensures.value) ∙ sym read ∙ item.is ∙ c.in-Some.is)

pub returns-in-None-clause-reported : goal.returns-in-None-clause-reported
returns-in-None-clause-reported g c = λ told. reports_nothing 1 _ _ _ _ refl refl
