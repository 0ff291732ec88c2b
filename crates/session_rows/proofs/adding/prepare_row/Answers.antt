use Rattle.std.proofs.Common.{ℕ, ◌∙◌, ◌≢◌, inl, inr, subst}
use Rattle.session_rows.proofs.Rooms.{exact_kept}
use Rattle.afl_base.proofs.CutLaws.{mends_as, mends_now}
use Rattle.afl_base.proofs.FrameLaws.{keeps_prepares, prepares_same, prepares_then}
use Rattle.afl_base.proofs.SparingLaws.{stays_on}
use Rattle.index_set.specs.Inserts.{IsNoTree}
use Rattle.index_set.proofs.Lists.{one_asks_before}
use Rattle.session_model.specs.Frames.{StaysAt}
use Rattle.session_rows.proofs.Cuts.{failed_too, unless_too}
use Rattle.session_rows.proofs.adding.prepare_row.Goals as goal

pub returns-clause-exact : goal.returns-clause-exact
returns-clause-exact g c = λ told.
    let after = c.in_ok-prepare.ensures.contents.tells ∙ told in
    exact_kept (g.V.Files.state c.prepare.new.self) (g.V.Files.state c.prepare_all.new.files) c.args.tuples.now.file
    (λ k other. c.in_ok-rooms.ensures.contents.bytes after k)
    c.args.values.now c.in_ok-rooms.rooms c.args.indexes.now c.requires.ready.away (c.in_ok-rooms.ensures.exact after)

pub returns-in_err-prepare-clause-cut : goal.returns-in_err-prepare-clause-cut
returns-in_err-prepare-clause-cut g c = λ cuts told failed.
    let old = g.V.Files.state c.args.files.now in
    mends_now old (c.in_err-prepare.ensures.cut cuts told (failed_too _ _ c.from_residual.ensures.1 failed)) (prepares_same old (StaysAt c.args.tuples.now.file c.args.indexes.now))

pub returns-in_err-rooms-clause-cut : goal.returns-in_err-rooms-clause-cut
returns-in_err-rooms-clause-cut g c = λ cuts told failed.
    let old = g.V.Files.state c.args.files.now in
    let mid = g.V.Files.state c.prepare.new.self in
    let file = c.args.tuples.now.file in
    let infos = c.args.indexes.now in
    let made = keeps_prepares old mid file c.requires.ready.holds.file.live c.in_ok-prepare.ensures.contents in
    mends_as (c.in_err-rooms.ensures.cut cuts (made.spares.tells ∙ told) (failed_too _ _ c.from_residual-in_err-rooms.ensures.1 failed))
    (λ after f. prepares_then old mid after (λ k. k ≢ file) (IsNoTree infos) (StaysAt file infos) made f (λ k stays. stays))

pub returns-clause-still : goal.returns-clause-still
returns-clause-still g c = λ told never.
    let asks = g.V.Files.asks in
    let state = g.V.Files.state in
    let start = c.args.files.now in
    let mid = c.prepare.new.self in
    let made = keeps_prepares (state start) (state mid) c.args.tuples.now.file c.requires.ready.holds.file.live c.in_ok-prepare.ensures.contents in
    let stayed = c.in_ok-prepare.ensures.still (λ need asked. never need (inl (subst (λ (n : ℕ). asks start c.args.tuples.now.file 0 n need) c.row_length.ensures.value asked))) in
    stays_on state asks start mid c.prepare_all.new.files stayed (c.in_ok-rooms.ensures.still (made.spares.tells ∙ told)
    (λ need one. never need (inr (one_asks_before (asks start) (asks mid) (state start) (state mid) c.args.values.now need c.args.indexes.now stayed.asks_less (made.bytes told) one))))

pub returns-in_err-rooms-clause-contents : goal.returns-in_err-rooms-clause-contents
returns-in_err-rooms-clause-contents g c =
    let old = g.V.Files.state c.args.files.now in
    let mid = g.V.Files.state c.prepare.new.self in
    let after = g.V.Files.state c.prepare_all.new.files in
    let file = c.args.tuples.now.file in
    let infos = c.args.indexes.now in
    let made = keeps_prepares old mid file c.requires.ready.holds.file.live c.in_ok-prepare.ensures.contents in
    unless_too c.prepare_all.result _ _ c.from_residual-in_err-rooms.ensures.1 (λ f. prepares_then old mid after (λ k. k ≢ file) (IsNoTree infos) (StaysAt file infos) made f (λ k stays. stays))
    c.in_err-rooms.ensures.contents
