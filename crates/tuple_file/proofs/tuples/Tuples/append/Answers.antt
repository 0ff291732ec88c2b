use Rattle.std.proofs.Common.{◌≡◌, ℕ, List, subst, ◌+◌, ◌++◌, true, ap, ◌∙◌, sym, arith, suc, mul-suc, ◌*◌, length}
use Rattle.afl_base.specs.Files.{bytes_at}
use Rattle.db_model.specs.Row.{Row, row_length, rows_bytes, rows_of}
use Rattle.db_model.proofs.Rows.{rows_of-insert, length-row}
use Rattle.padded.proofs.Facts.{on_err}
use Rattle.afl_base.proofs.CutLaws.{mends_as}
use Rattle.tuple_file.specs.Tuples.{slots}
use Rattle.tuple_file.proofs.Cuts.{may_append}
use Rattle.tuple_file.proofs.Slots.{holds_after}
use Rattle.tuple_file.proofs.Written.{written_insert}
use Rattle.tuple_file.proofs.tuples.Tuples.append.Goals as goal

pub returns-clause-rows : goal.returns-clause-rows
returns-clause-rows g c told =
    let attributes = c.args.self.now.schema.attributes in
    let old = (g.V.Files.state c.args.files.now).files in
    let row : Row = record { tuple = c.args.tuple.now; live = true } in
    ap (rows_of attributes) (c.in_ok-append.ensures.appended.bytes told ∙ ap (λ xs. bytes_at old c.args.self.now.file ++ xs) c.put_row.ensures)
    ∙ rows_of-insert attributes row (slots old c.args.self.now) (bytes_at old c.args.self.now.file) c.requires.holds.whole c.requires.suits

pub returns-clause-holds : goal.returns-clause-holds
returns-clause-holds g c more =
    let size = row_length c.args.self.now.schema.attributes in
    let old = g.V.Files.state c.args.files.now in
    let count = slots old.files c.args.self.now in
    let row : Row = record { tuple = c.args.tuple.now; live = true } in
    let wide : length c.put_row.new.row ≡ size = ap (λ xs. length xs) c.put_row.ensures ∙ length-row c.args.self.now.schema.attributes row c.requires.suits in
    let next : size * suc count ≡ size * count + size = mul-suc size count in
    let bytes = bytes_at old.files c.args.self.now.file in
    let attributes = c.args.self.now.schema.attributes in
    holds_after old (g.V.Files.state c.append.new.self) c.args.self.now _ _ (count + 1) c.requires.holds c.in_ok-append.ensures.appended (omega (arith, wide, next, c.requires.holds.whole)) (omega (arith, more))
    (λ told. subst (λ (new : List ℕ). rows_bytes attributes (rows_of attributes (bytes ++ new)) ≡ bytes ++ new) (sym c.put_row.ensures)
    (written_insert attributes row count bytes c.requires.holds.whole c.requires.suits (c.requires.holds.written told)))

pub returns-in_err-append-clause-cut : goal.returns-in_err-append-clause-cut
returns-in_err-append-clause-cut g c = λ cuts told. on_err c.from_residual.result (mends_as (c.in_err-append.ensures.cut cuts told)
    (λ after front. may_append (g.V.Files.state c.args.files.now) after c.args.self.now c.args.tuple.now c.put_row.new.row c.requires.holds c.requires.suits told c.put_row.ensures front))
