use Rattle.std.proofs.Common.{◌∙◌, ◌<◌, ℕ, ap, inl, inr, refl, take, rules, ⊎_elim, Bool}
use Rattle.afl_base.specs.Files.{bytes_at}
use Rattle.catalog.specs.Catalogs.{catalog_slots}
use Rattle.stored_mend.proofs.FilledFile.{cut_end, filled_end, filled_more, filled_others}
use Rattle.stored_mend.proofs.KeptBase.{cut_same_rows, whole_size}
use Rattle.stored_mend.proofs.MendedRows.{is_cut, is_filled, is_kept, part_there, the_file}
use Rattle.stored_mend.proofs.ReportOnce.{reports_nothing}
use Rattle.stored_mend.proofs.ReportRows.{cut_reports, filled_reports}
use Rattle.std.specs.Prelude.{⊤}
use Rattle.afl_base.proofs.CutLaws.{mends_as}
use Rattle.padded.proofs.Facts.{err_is}
use Rattle.stored_mend.proofs.RowsMay.{cut_may, fills_may, part_kept, part_still}
use Rattle.stored_mend.proofs.CutCalls.{failed_as, space_as}
use Rattle.stored_mend.proofs.contents.mend_rows_of.Goals as goal

pub returns-then-branch-clause-end : goal.returns-then-branch-clause-end
returns-then-branch-clause-end g c = λ told.
    filled_end (g.V.Files.state c.args.files.now) (g.V.Files.state c.fill_row.new.files) c.in-Some.file _ c.args.schema.now.attributes (rw c.rows_file-name.ensures at c.in-Some.ensures.found) (rw c.rows_file-name.ensures at c.in-Some.ensures.only)
    (c.in_ok-fill_row.ensures.filled c.if-branch.true) told

pub returns-then-branch-clause-rows : goal.returns-then-branch-clause-rows
returns-then-branch-clause-rows g c = λ told.
    inr (filled_more (g.V.Files.state c.args.files.now) (g.V.Files.state c.fill_row.new.files) c.in-Some.file _ c.args.schema.now.attributes (rw c.rows_file-name.ensures at c.in-Some.ensures.found) (rw c.rows_file-name.ensures at c.in-Some.ensures.only)
    (c.in_ok-fill_row.ensures.filled c.if-branch.true) told)

pub returns-then-branch-clause-others : goal.returns-then-branch-clause-others
returns-then-branch-clause-others g c =
    filled_others (g.V.Files.state c.args.files.now) (g.V.Files.state c.fill_row.new.files) c.in-Some.file _ c.args.schema.now.attributes (rw c.rows_file-name.ensures at c.in-Some.ensures.found) (rw c.rows_file-name.ensures at c.in-Some.ensures.only)
    (c.in_ok-fill_row.ensures.filled c.if-branch.true)

pub returns-clause-end : goal.returns-clause-end
returns-clause-end g c = λ told.
    let before = c.in_ok-may_end_at.ensures.frame.same ∙ c.in_ok-fill_row.ensures.stays c.if-branch.false in
    cut_end (g.V.Files.state c.args.files.now) (g.V.Files.state c.cut_file.new.files) c.in-Some.file _ c.args.schema.now.attributes (rw c.rows_file-name.ensures at c.in-Some.ensures.found) (rw c.rows_file-name.ensures at c.in-Some.ensures.only) _
    (rw before at c.in_ok-cut_file.ensures.front) (rw (c.size-size.ensures, c.row_length.ensures.value) (whole_size _ _)) told

pub returns-clause-rows : goal.returns-clause-rows
returns-clause-rows g c = λ told.
    let before = c.in_ok-may_end_at.ensures.frame.same ∙ c.in_ok-fill_row.ensures.stays c.if-branch.false in
    inl (cut_same_rows (g.V.Files.state c.args.files.now) (g.V.Files.state c.cut_file.new.files) c.in-Some.file _ _ c.args.schema.now.attributes (rw c.rows_file-name.ensures at c.in-Some.ensures.found) (rw c.rows_file-name.ensures at c.in-Some.ensures.only)
    (rw before at c.in_ok-cut_file.ensures.front) (rw (c.size-size.ensures, c.row_length.ensures.value) (whole_size _ _)) told)

pub returns-then-branch-clause-mended : goal.returns-then-branch-clause-mended
returns-then-branch-clause-mended g c = λ told.
    let within : c.in-Some.file < 32 = search rules in
    is_filled (catalog_slots c.args.catalog.now) c.args.id c.args.schema.now.attributes (g.V.Files.state c.args.files.now) (g.V.Files.state c.fill_row.new.files) c.in-Some.file (the_file _ _ _ _ c.rows_file-name.ensures c.in-Some.ensures.found c.in-Some.ensures.only within)
    (part_there c.size-size.result _ _ _ c.size-size.ensures c.row_length.ensures.value c.if-whole-size.false)
    c.in_ok-fill_row.field-0 (c.in_ok-fill_row.ensures.may told) c.if-branch.true (c.in_ok-fill_row.ensures.filled c.if-branch.true) told

pub returns-then-not-branch-clause-mended : goal.returns-then-not-branch-clause-mended
returns-then-not-branch-clause-mended g c = λ told.
    let before = c.in_ok-fill_row.ensures.stays c.if-branch.false in
    let within : c.in-Some.file < 32 = search rules in
    is_kept (catalog_slots c.args.catalog.now) c.args.id c.args.schema.now.attributes (g.V.Files.state c.args.files.now) (g.V.Files.state c.may_end_at.new.files) c.in-Some.file (the_file _ _ _ _ c.rows_file-name.ensures c.in-Some.ensures.found c.in-Some.ensures.only within)
    (part_there c.size-size.result _ _ _ c.size-size.ensures c.row_length.ensures.value c.if-whole-size.false)
    c.in_ok-fill_row.field-0 (c.in_ok-fill_row.ensures.may told) c.if-branch.false c.in_ok-may_end_at.field-0 _ ((rw before at c.in_ok-may_end_at.ensures.may) told) c.if-not-branch.true
    (rw (c.size-size.ensures, c.row_length.ensures.value) (whole_size _ _)) (c.in_ok-may_end_at.ensures.frame.same ∙ before)

pub returns-clause-mended : goal.returns-clause-mended
returns-clause-mended g c = λ told.
    let before = c.in_ok-may_end_at.ensures.frame.same ∙ c.in_ok-fill_row.ensures.stays c.if-branch.false in
    let within : c.in-Some.file < 32 = search rules in
    is_cut (catalog_slots c.args.catalog.now) c.args.id c.args.schema.now.attributes (g.V.Files.state c.args.files.now) (g.V.Files.state c.cut_file.new.files) c.in-Some.file (the_file _ _ _ _ c.rows_file-name.ensures c.in-Some.ensures.found c.in-Some.ensures.only within)
    (part_there c.size-size.result _ _ _ c.size-size.ensures c.row_length.ensures.value c.if-whole-size.false)
    c.in_ok-fill_row.field-0 (c.in_ok-fill_row.ensures.may told) c.if-branch.false
    ((rw before at c.in_ok-cut_file.ensures.front).bytes told ∙ ap (λ (n : ℕ). take n (bytes_at (g.V.Files.state c.args.files.now).files c.in-Some.file)) (rw (c.size-size.ensures, c.row_length.ensures.value) (whole_size _ _)))

pub returns-in_err-fill_row-clause-cut : goal.returns-in_err-fill_row-clause-cut
returns-in_err-fill_row-clause-cut g c = λ cuts told failed.
    let within : c.in-Some.file < 32 = search rules in
    let is = err_is c.from_residual.result c.in_err-fill_row.field-0.0 c.from_residual.ensures.1 in
    ⊎_elim
    (λ before. inl before)
    (λ after. inr (mends_as after (λ s f.
    fills_may (catalog_slots c.args.catalog.now) c.args.id c.args.schema.now.attributes (g.V.Files.state c.args.files.now) s c.in-Some.file (the_file _ _ _ _ c.rows_file-name.ensures c.in-Some.ensures.found c.in-Some.ensures.only within)
    (part_there c.size-size.result _ _ _ c.size-size.ensures c.row_length.ensures.value c.if-whole-size.false) told f)))
    (c.in_err-fill_row.ensures.cut cuts told (failed_as _ _ c.in_err-fill_row.field-0.0 c.from_residual.result is failed))

pub returns-in_err-cut_file-clause-cut : goal.returns-in_err-cut_file-clause-cut
returns-in_err-cut_file-clause-cut g c = λ cuts told failed.
    let before = c.in_ok-may_end_at.ensures.frame.same ∙ c.in_ok-fill_row.ensures.stays c.if-branch.false in
    let within : c.in-Some.file < 32 = search rules in
    let is = err_is c.from_residual-in_err-cut_file.result c.in_err-cut_file.field-0.0 c.from_residual-in_err-cut_file.ensures.1 in
    ⊎_elim
    (λ was. inl was)
    (λ after. inr (mends_as after (λ s b.
    cut_may (catalog_slots c.args.catalog.now) c.args.id c.args.schema.now.attributes (g.V.Files.state c.args.files.now) s c.in-Some.file (the_file _ _ _ _ c.rows_file-name.ensures c.in-Some.ensures.found c.in-Some.ensures.only within)
    (part_there c.size-size.result _ _ _ c.size-size.ensures c.row_length.ensures.value c.if-whole-size.false) told
    c.in_ok-fill_row.field-0 (c.in_ok-fill_row.ensures.may told) c.if-branch.false _ (rw (c.size-size.ensures, c.row_length.ensures.value) (whole_size _ _)) b)))
    ((rw before at c.in_err-cut_file.ensures.cut) cuts told (failed_as _ _ c.in_err-cut_file.field-0.0 c.from_residual-in_err-cut_file.result is failed))

pub returns-in_err-fill_row-clause-space : goal.returns-in_err-fill_row-clause-space
returns-in_err-fill_row-clause-space g c = λ told.
    let within : c.in-Some.file < 32 = search rules in
    let is = err_is c.from_residual.result c.in_err-fill_row.field-0.0 c.from_residual.ensures.1 in
    space_as Bool _ c.in_err-fill_row.field-0.0 c.from_residual.result is _ _
    (λ need kept. part_still c.args.id c.args.schema.now.attributes (g.V.Files.state c.args.files.now) (g.V.Files.state c.fill_row.new.files) c.in-Some.file (the_file _ _ _ _ c.rows_file-name.ensures c.in-Some.ensures.found c.in-Some.ensures.only within)
    (part_there c.size-size.result _ _ _ c.size-size.ensures c.row_length.ensures.value c.if-whole-size.false) told kept)
    c.in_err-fill_row.ensures.space

pub returns-in_err-cut_file-clause-space : goal.returns-in_err-cut_file-clause-space
returns-in_err-cut_file-clause-space g c = λ told.
    let before = c.in_ok-may_end_at.ensures.frame.same ∙ c.in_ok-fill_row.ensures.stays c.if-branch.false in
    let within : c.in-Some.file < 32 = search rules in
    let is = err_is c.from_residual-in_err-cut_file.result c.in_err-cut_file.field-0.0 c.from_residual-in_err-cut_file.ensures.1 in
    space_as ⊤ _ c.in_err-cut_file.field-0.0 c.from_residual-in_err-cut_file.result is _ _
    (λ need kept. part_kept c.args.id c.args.schema.now.attributes (g.V.Files.state c.args.files.now) (g.V.Files.state c.cut_file.new.files) c.in-Some.file (the_file _ _ _ _ c.rows_file-name.ensures c.in-Some.ensures.found c.in-Some.ensures.only within)
    (part_there c.size-size.result _ _ _ c.size-size.ensures c.row_length.ensures.value c.if-whole-size.false) kept)
    (rw before at c.in_err-cut_file.ensures.space)

-- what is told

pub returns-in_default-clause-reported : goal.returns-in_default-clause-reported
returns-in_default-clause-reported g c = λ told below is. reports_nothing 1 _ _ _ _ refl refl

pub returns-then-branch-clause-reported : goal.returns-then-branch-clause-reported
returns-then-branch-clause-reported g c = λ told below is.
    filled_reports (g.V.Files.state c.args.files.now) (g.V.Files.state c.fill_row.new.files) c.args.id c.in-Some.file _ c.args.schema.now below told (is told) c.rows_file-name.ensures c.in-Some.ensures.found c.in-Some.ensures.only
    (part_there c.size-size.result _ _ _ c.size-size.ensures c.row_length.ensures.value c.if-whole-size.false) (c.in_ok-fill_row.ensures.filled c.if-branch.true)
    _ _ c.add.ensures

pub returns-then-not-branch-clause-reported : goal.returns-then-not-branch-clause-reported
returns-then-not-branch-clause-reported g c = λ told below is. reports_nothing 1 _ _ _ _ (c.in_ok-may_end_at.ensures.frame.same ∙ c.in_ok-fill_row.ensures.stays c.if-branch.false) refl

pub returns-clause-reported : goal.returns-clause-reported
returns-clause-reported g c = λ told below is.
    let before = c.in_ok-may_end_at.ensures.frame.same ∙ c.in_ok-fill_row.ensures.stays c.if-branch.false in
    cut_reports (g.V.Files.state c.args.files.now) (g.V.Files.state c.cut_file.new.files) c.args.id c.in-Some.file _ _ c.args.schema.now below told (is told) c.rows_file-name.ensures c.in-Some.ensures.found c.in-Some.ensures.only
    (part_there c.size-size.result _ _ _ c.size-size.ensures c.row_length.ensures.value c.if-whole-size.false)
    (rw before at c.in_ok-cut_file.ensures.front) (rw (c.size-size.ensures, c.row_length.ensures.value) (whole_size _ _))
    _ _ c.add-2.ensures

pub returns-then-whole-size-clause-reported : goal.returns-then-whole-size-clause-reported
returns-then-whole-size-clause-reported g c = λ told below is. reports_nothing 1 _ _ _ _ refl refl
