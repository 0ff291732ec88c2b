use Rattle.std.proofs.Common.{◌*◌, ℕ, Some, subst, sym, ◌∙◌}
use Rattle.afl_base.proofs.CutLaws.{mends_as, mends_now}
use Rattle.afl_base.proofs.SparingLaws.{takes_no_page_on, takes_no_page_same}
use Rattle.session_model.specs.Frames.{AsksNoExtent}
use Rattle.session_relations.proofs.Cuts.{put_behind, put_nothing}
use Rattle.session_relations.proofs.Keeping.{failed_handed}
use Rattle.session_relations.proofs.growing.put_slot.Goals as goal

pub returns-in_err-prepare_catalog-clause-cut : goal.returns-in_err-prepare_catalog-clause-cut
returns-in_err-prepare_catalog-clause-cut g c = λ cuts told failed.
    let s0 = g.V.Files.state c.args.files.now in
    mends_now s0
    (c.prepare_catalog.ensures.cut cuts told
    (failed_handed c.prepare_catalog.result c.from_residual.result c.in_err-prepare_catalog.field-0.0 c.in_err-prepare_catalog.was c.from_residual.ensures.1 failed))
    (put_nothing s0 c.args.at.now.cat c.args.at.now.slot (Some c.args.schema.now) c.requires.catalog)

pub returns-in_err-put_relation-clause-cut : goal.returns-in_err-put_relation-clause-cut
returns-in_err-put_relation-clause-cut g c = λ cuts told failed.
    let s0 = g.V.Files.state c.args.files.now in
    let s1 = g.V.Files.state c.prepare_catalog.new.files in
    let u = c.in_ok-prepare_catalog.ensures.contents in
    mends_as (c.in_err-put_relation.ensures.cut cuts (u.tells ∙ told))
    (λ after w. put_behind s0 s1 after c.args.at.now.cat c.args.at.now.slot (Some c.args.schema.now) told c.requires.catalog u w)

pub returns-clause-spares : goal.returns-clause-spares
returns-clause-spares g c = λ told none.
    let u = c.in_ok-prepare_catalog.ensures.contents in
    let here = subst (λ (n : ℕ). AsksNoExtent (g.V.Files.asks c.args.files.now) (g.V.Files.state c.args.files.now).files c.args.at.now.cat (176 * n) 176) (sym (c.from.ensures ∙ c.number.ensures.value)) none in
    takes_no_page_on g.V.Files.is_free _ _ _ (takes_no_page_same g.V.Files.is_free _ _ (c.in_ok-prepare_catalog.ensures.still here).store) (c.in_ok-put_relation.ensures.spares (u.tells ∙ told))
