use Rattle.std.proofs.Common.{inl, ◌*◌, ℕ, None, subst, sym, ◌∙◌}
use Rattle.afl_base.proofs.CutLaws.{either_as, mends_as, mends_now}
use Rattle.afl_base.proofs.SparingLaws.{takes_no_page_on, takes_no_page_same}
use Rattle.space_model.specs.FileNames.{rows_file}
use Rattle.session_model.specs.Frames.{AsksNoExtent}
use Rattle.session_relations.proofs.Cuts.{put_behind, put_nothing, take_file, take_slot}
use Rattle.session_relations.proofs.Keeping.{failed_handed}
use Rattle.session_relations.proofs.Slots.{prepared_catalog, prepared_put, slot_gone, still_named_beside}
use Rattle.session_relations.proofs.removing.take_slot.Goals as goal

pub returns-clause-put : goal.returns-clause-put
returns-clause-put g c =
    let s0 = g.V.Files.state c.args.files.now in
    let s1 = g.V.Files.state c.prepare_catalog.new.files in
    let s2 = g.V.Files.state c.clear_relation.new.files in
    let s3 = g.V.Files.state c.remove.new.self in
    let cat = c.args.at.now.cat in
    let slot = c.args.at.now.slot in
    let file = c.args.rows in
    let u = c.in_ok-prepare_catalog.ensures.contents in
    let named = still_named_beside s0 s1 cat file _ _ (rows_file slot) c.requires.catalog.0 c.requires.named u in
    prepared_put s0 s1 s3 cat slot None u c.requires.catalog
    (slot_gone s1 s2 s3 cat slot file None (u.draft ∙ c.requires.idle) (prepared_catalog s0 s1 cat u c.requires.catalog) named
    c.in_ok-clear_relation.ensures.cleared c.in_ok-remove.ensures.removed)

pub returns-in_err-prepare_catalog-clause-cut : goal.returns-in_err-prepare_catalog-clause-cut
returns-in_err-prepare_catalog-clause-cut g c = λ cuts told failed.
    let s0 = g.V.Files.state c.args.files.now in
    mends_now s0
    (c.prepare_catalog.ensures.cut cuts told
    (failed_handed c.prepare_catalog.result c.from_residual.result c.in_err-prepare_catalog.field-0.0 c.in_err-prepare_catalog.was c.from_residual.ensures.1 failed))
    (inl (put_nothing s0 c.args.at.now.cat c.args.at.now.slot None c.requires.catalog))

pub returns-in_err-clear_relation-clause-cut : goal.returns-in_err-clear_relation-clause-cut
returns-in_err-clear_relation-clause-cut g c = λ cuts told failed.
    let s0 = g.V.Files.state c.args.files.now in
    let s1 = g.V.Files.state c.prepare_catalog.new.files in
    let u = c.in_ok-prepare_catalog.ensures.contents in
    mends_as (c.in_err-clear_relation.ensures.cut cuts (u.tells ∙ told))
    (λ after w. inl (put_behind s0 s1 after c.args.at.now.cat c.args.at.now.slot None told c.requires.catalog u w))

pub returns-in_err-remove-clause-cut : goal.returns-in_err-remove-clause-cut
returns-in_err-remove-clause-cut g c = λ cuts told failed.
    let s0 = g.V.Files.state c.args.files.now in
    let s1 = g.V.Files.state c.prepare_catalog.new.files in
    let s2 = g.V.Files.state c.clear_relation.new.files in
    let cat = c.args.at.now.cat in
    let slot = c.args.at.now.slot in
    let file = c.args.rows in
    let u = c.in_ok-prepare_catalog.ensures.contents in
    let v = c.in_ok-clear_relation.ensures.cleared in
    either_as s2 (c.in_err-remove.ensures.cut cuts (v.tells ∙ u.tells ∙ told))
    (take_slot s0 s1 s2 cat slot file c.requires.idle c.requires.catalog u v)
    (λ after w. take_file s0 s1 s2 cat slot file c.requires.idle c.requires.catalog u v after c.requires.named w)

pub returns-clause-spares : goal.returns-clause-spares
returns-clause-spares g c = λ told none.
    let free = g.V.Files.is_free in
    let u = c.in_ok-prepare_catalog.ensures.contents in
    let v = c.in_ok-clear_relation.ensures.cleared in
    let here = subst (λ (n : ℕ). AsksNoExtent (g.V.Files.asks c.args.files.now) (g.V.Files.state c.args.files.now).files c.args.at.now.cat (176 * n) 176) (sym (c.from.ensures ∙ c.number.ensures.value)) none in
    takes_no_page_on free _ _ _ (takes_no_page_same free _ _ (c.in_ok-prepare_catalog.ensures.still here).store)
    (takes_no_page_on free _ _ _ (c.in_ok-clear_relation.ensures.spares (u.tells ∙ told)) (c.in_ok-remove.ensures.spares (v.tells ∙ u.tells ∙ told)))
