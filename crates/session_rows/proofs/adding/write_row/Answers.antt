use Rattle.std.proofs.Common.{rules, true, ◌≡◌, ℕ, List, refl, subst, sym, ◌∙◌}
use Rattle.afl_base.specs.Files.{bytes_at}
use Rattle.afl_base.proofs.FrameLaws.{becomes_spares}
use Rattle.db_model.specs.Row.{Row, rows_bytes, rows_of}
use Rattle.tuple_file.specs.Tuples.{rows, slots}
use Rattle.tuple_file.proofs.Written.{written_insert}
use Rattle.session_model.proofs.Frames.{bytes_spared, complete_added, complete_kept}
use Rattle.index_set.specs.declared.info.Access.TheVariants.{Tree}
use Rattle.index_set.proofs.Lists.{rooms_stay}
use Rattle.session_rows.proofs.Rooms.{elsewhere, exact_kept}
use Rattle.padded.proofs.Facts.{on_err}
use Rattle.afl_base.proofs.CutLaws.{mends_as}
use Rattle.afl_base.proofs.SparingLaws.{takes_no_page_on}
use Rattle.session_rows.proofs.Cuts.{added_keys, added_row}
use Rattle.session_rows.proofs.adding.write_row.Goals as goal
use Rattle.tuple_file.proofs.Columns.{rows_counted}

pub insert_all-requires-clause-room : goal.insert_all-requires-clause-room
insert_all-requires-clause-room g c =
    let s0 = g.V.Files.state c.args.files.now in
    let s1 = g.V.Files.state c.append.new.files in
    let file = c.args.tuples.now.file in
    rooms_stay s0 s1 (Tree file) c.args.row.now.rooms.now c.args.indexes.now (becomes_spares s0 s1 file _ _ c.requires.ready.holds.file.live c.in_ok-append.ensures.appended) (elsewhere file c.args.indexes.now c.requires.ready.away) c.requires.rooms

pub returns-clause-complete : goal.returns-clause-complete
returns-clause-complete g c = λ told complete exact follow.
    let s0 = g.V.Files.state c.args.files.now in
    let s1 = g.V.Files.state c.append.new.files in
    let s2 = g.V.Files.state c.insert_all.new.files in
    let t = c.args.tuples.now in
    let all = rows s0.files t in
    let row : Row = record { tuple = c.args.row.now.values.now; live = true } in
    let spared = becomes_spares s0 s1 t.file _ _ c.requires.ready.holds.file.live c.in_ok-append.ensures.appended in
    let bytes = bytes_spared s0 s1 t.file spared in
    let after = spared.tells ∙ told in
    complete_added s0 s1 s2 c.args.tables.now c.insert_all.new.tables t c.args.indexes.now row c.requires.ready.away c.in_ok-insert_all.ensures.others (c.in_ok-append.ensures.rows told)
    (c.in_ok-insert_all.ensures.complete after all row (rows_counted s0.files t ∙ sym c.requires.ready.next) refl
    (complete_kept s0 s1 t.file bytes c.args.tables.now all c.args.indexes.now c.requires.ready.away complete)
    (exact_kept s0 s1 t.file bytes c.args.row.now.values.now c.args.row.now.rooms.now c.args.indexes.now c.requires.ready.away exact)
    follow)

pub returns-clause-added : goal.returns-clause-added
returns-clause-added g c = record {
  row = search rules;
  count = search rules;
  holds = search rules;
  held = search rules;
  others = search rules;
  tables = search rules;
}

pub returns-in_err-append-clause-cut : goal.returns-in_err-append-clause-cut
returns-in_err-append-clause-cut g c = λ cuts told. on_err c.from_residual.result (λ exact. mends_as (c.in_err-append.ensures.cut cuts told)
    (λ after m. added_row c.args.tuples.now c.args.indexes.now c.args.row.now.values.now c.args.tables.now (g.V.Files.state c.args.files.now) after c.requires.ready.away m))

pub returns-in_err-insert_all-clause-cut : goal.returns-in_err-insert_all-clause-cut
returns-in_err-insert_all-clause-cut g c = λ cuts told.
    let s0 = g.V.Files.state c.args.files.now in
    let s1 = g.V.Files.state c.append.new.files in
    let t = c.args.tuples.now in
    let put = c.in_ok-append.ensures in
    let spared = becomes_spares s0 s1 t.file _ _ c.requires.ready.holds.file.live put.appended in
    let whole = subst (λ (bs : List ℕ). rows_bytes t.schema.attributes (rows_of t.schema.attributes bs) ≡ bs) (sym (put.appended.bytes told))
    (written_insert t.schema.attributes (record { tuple = c.args.row.now.values.now; live = true }) (slots s0.files t) (bytes_at s0.files t.file) c.requires.ready.holds.whole c.requires.suits (c.requires.ready.holds.written told)) in
    on_err c.from_residual-in_err-insert_all.result (λ exact. mends_as (c.in_err-insert_all.ensures.cut cuts (spared.tells ∙ told))
    (λ after m. added_keys t c.args.indexes.now c.args.row.now.values.now c.args.tables.now s0 s1 after c.args.row.now.rooms.now c.args.slot c.requires.ready.away spared (put.rows told) whole c.requires.ready.next m exact))

pub returns-clause-spares : goal.returns-clause-spares
returns-clause-spares g c = λ told.
    let s0 = g.V.Files.state c.args.files.now in
    let s1 = g.V.Files.state c.append.new.files in
    let s2 = g.V.Files.state c.insert_all.new.files in
    let spared = becomes_spares s0 s1 c.args.tuples.now.file _ _ c.requires.ready.holds.file.live c.in_ok-append.ensures.appended in
    takes_no_page_on g.V.Files.is_free s0.store s1.store s2.store (c.in_ok-append.ensures.spares told) (c.in_ok-insert_all.ensures.spares (spared.tells ∙ told))
