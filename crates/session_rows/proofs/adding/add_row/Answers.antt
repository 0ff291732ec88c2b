use Rattle.std.proofs.Common.{◌++◌, ◌∷◌, [], List, ap, sym, subst, true, ◌∙◌}
use Rattle.db_model.specs.Row.{Row}
use Rattle.index_set.specs.Complete.{AreComplete}
use Rattle.index_set.specs.Inserts.{MayAllFollow}
use Rattle.tuple_file.specs.Tuples.{rows}
use Rattle.session_model.specs.Frames.{StaysAt}
use Rattle.session_model.proofs.Frames.{complete_kept, rows_prepared}
use Rattle.afl_base.proofs.CutLaws.{mends_as}
use Rattle.afl_base.proofs.FrameLaws.{spares_then}
use Rattle.afl_base.proofs.SparingLaws.{takes_no_page_on, takes_no_page_same}
use Rattle.session_rows.proofs.Cuts.{added_later, added_none, failed_too}
use Rattle.session_rows.proofs.adding.add_row.Goals as goal

pub returns-clause-complete : goal.returns-clause-complete
returns-clause-complete g c = λ told complete follow.
    let s0 = g.V.Files.state c.args.files.now in
    let s1 = g.V.Files.state c.prepare_row.new.files in
    let t = c.args.tuples.now in
    let f = c.in_ok-rooms.ensures.contents in
    let same = rows_prepared s0 s1 (StaysAt t.file c.args.indexes.now) t f told in
    let after = f.spares.tells ∙ told in
    let P : List Row → Type 0 = λ all. AreComplete s1 c.args.tables.now all c.args.indexes.now in
    let Q : List Row → Type 0 = λ all. MayAllFollow all c.args.values.now c.args.indexes.now in
    c.in_ok-write_row.ensures.complete after
    (subst P (sym same) (complete_kept s0 s1 t.file (λ k other. f.bytes told k) c.args.tables.now (rows s0.files t) c.args.indexes.now c.requires.ready.away complete))
    (c.in_ok-rooms.ensures.exact told)
    (subst Q (sym same) follow)

pub returns-in_err-rooms-clause-cut : goal.returns-in_err-rooms-clause-cut
returns-in_err-rooms-clause-cut g c = λ cuts told failed.
    mends_as (c.in_err-rooms.ensures.cut cuts told (failed_too _ _ c.from_residual.ensures.1 failed))
    (λ after f. added_none c.args.tuples.now c.args.indexes.now c.args.values.now c.args.tables.now (g.V.Files.state c.args.files.now) after c.requires.ready.holds told f)

pub returns-in_err-write_row-clause-cut : goal.returns-in_err-write_row-clause-cut
returns-in_err-write_row-clause-cut g c = λ cuts told failed.
    let s0 = g.V.Files.state c.args.files.now in
    let s1 = g.V.Files.state c.prepare_row.new.files in
    let f = c.in_ok-rooms.ensures.contents in
    mends_as (c.in_err-write_row.ensures.cut cuts (f.spares.tells ∙ told) (c.in_ok-rooms.ensures.exact told))
    (λ after m. added_later c.args.tuples.now c.args.indexes.now c.args.values.now c.args.tables.now s0 s1 after c.requires.ready.holds c.requires.ready.away told f m)

pub returns-clause-spares : goal.returns-clause-spares
returns-clause-spares g c = λ told never.
    let is_free = g.V.Files.is_free in
    let s0 = g.V.Files.state c.args.files.now in
    let s1 = g.V.Files.state c.prepare_row.new.files in
    let s2 = g.V.Files.state c.write_row.new.files in
    takes_no_page_on is_free s0.store s1.store s2.store (takes_no_page_same is_free s0.store s1.store (c.in_ok-rooms.ensures.still told never).store)
    (c.in_ok-write_row.ensures.spares (c.in_ok-rooms.ensures.contents.spares.tells ∙ told))

pub returns-clause-added : goal.returns-clause-added
returns-clause-added g c =
    let s0 = g.V.Files.state c.args.files.now in
    let s1 = g.V.Files.state c.prepare_row.new.files in
    let s2 = g.V.Files.state c.write_row.new.files in
    let t = c.args.tuples.now in
    let stays = StaysAt t.file c.args.indexes.now in
    let f = c.in_ok-rooms.ensures.contents in
    let put = c.in_ok-write_row.ensures.added in
    record {
      row = λ told. put.row (f.spares.tells ∙ told) ∙ ap (λ (all : List Row). all ++ record { tuple = c.args.values.now; live = true } ∷ []) (rows_prepared s0 s1 stays t f told);
      count = put.count;
      holds = put.holds;
      held = put.held;
      others = spares_then s0 s1 s2 stays stays stays f.spares put.others (λ k s. (s, s));
      tables = put.tables;
    }
