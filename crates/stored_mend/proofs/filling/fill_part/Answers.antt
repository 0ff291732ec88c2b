use Rattle.std.proofs.Common.{arith, ◌≡◌, ◌∙◌, ⊎_elim, inl, inr, length}
use Rattle.std.proofs.lemmas.List.{length-take-le}
use Rattle.afl_base.specs.Files.{bytes_at}
use Rattle.afl_base.proofs.CutLaws.{mends_as}
use Rattle.db_model.specs.Row.{row_length, slots_in_bytes}
use Rattle.padded.proofs.Facts.{err_is}
use Rattle.stored_mend.proofs.FilledRows.{filled_by, row_fits}
use Rattle.stored_mend.proofs.RowsCut.{front_fills}
use Rattle.stored_mend.proofs.CutCalls.{failed_as}
use Rattle.stored_mend.proofs.filling.fill_part.Goals as goal

pub append_rest-requires-clause-most : goal.append_rest-requires-clause-most
append_rest-requires-clause-most g c =
    let attributes = c.args.attributes.now in
    let wide : length c.removed_row.new.row ≡ row_length attributes =
    c.in_ok-removed_row.ensures.size ∙ length-take-le c.row_length.result _ (omega (arith, c.row_length.ensures.value, c.requires.short)) ∙ c.row_length.ensures.value in
    let fits = row_fits (row_length attributes) (slots_in_bytes attributes (bytes_at (g.V.Files.state c.args.files.now).files c.args.tail.file)) c.requires.short c.requires.few in
    rw c.in_ok-removed_row.ensures.frame.same (omega (arith, fits, wide, c.requires.have))

pub returns-clause-filled : goal.returns-clause-filled
returns-clause-filled g c = λ yes.
    filled_by (g.V.Files.state c.args.files.now) (g.V.Files.state c.append_rest.new.files) c.args.tail.file c.args.tail.have c.args.attributes.now c.removed_row.new.row
    (rw c.in_ok-removed_row.ensures.frame.same at c.in_ok-append_rest.ensures.appended) c.in_ok-removed_row.ensures.front (c.in_ok-removed_row.ensures.removed c.if-not-branch.false) c.in_ok-removed_row.ensures.fills

pub returns-in_err-append_rest-clause-cut : goal.returns-in_err-append_rest-clause-cut
returns-in_err-append_rest-clause-cut g c = λ cuts told failed.
    let row = c.in_ok-removed_row.ensures in
    let yes = c.if-not-branch.false in
    let is = err_is c.from_residual-in_err-append_rest.result c.in_err-append_rest.field-0.0 c.from_residual-in_err-append_rest.ensures.1 in
    ⊎_elim
    (λ before. inl before)
    (λ after. inr (mends_as after (λ s front. record {
      may = (row.may told).0 yes;
      appends = front_fills (g.V.Files.state c.args.files.now) s c.args.tail.file c.args.tail.have c.args.attributes.now c.removed_row.new.row front (row.front told) (row.removed yes) (row.fills told);
    })))
    ((rw row.frame.same at c.in_err-append_rest.ensures.cut) cuts told (failed_as _ _ c.in_err-append_rest.field-0.0 c.from_residual-in_err-append_rest.result is failed))
