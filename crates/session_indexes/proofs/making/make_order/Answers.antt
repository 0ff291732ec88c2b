use Rattle.std.proofs.Common.{◌+◌, ◌*◌, ap, sym, subst, ◌∙◌, Some}
use Rattle.afl_base.specs.Files.{State}
use Rattle.afl_base.proofs.SparingLaws.{takes_no_page_on, takes_no_page_same}
use Rattle.catalog.specs.CatalogFile.{PutsIndex}
use Rattle.db_model.specs.declared.schemas.IndexKind.TheVariants.{Inline}
use Rattle.session_indexes.specs.Made.{index_for}
use Rattle.session_indexes.proofs.Effects.{order_made}
use Rattle.session_indexes.proofs.Puts.{asks_as_before}
use Rattle.session_indexes.proofs.making.make_order.Goals as goal

pub returns-clause-made : goal.returns-clause-made
returns-clause-made g c = λ tables xs.
    let s0 = g.V.Files.state c.args.files.now in
    let s2 = g.V.Files.state c.put_entry.new.files in
    let site = c.args.site.now in
    let u = subst (λ (s : State). PutsIndex s s2 c.args.cat site.slot (Some (index_for site Inline))) c.in-Ok-None.ensures.frame.same c.in_ok-put_entry.ensures.put in
    order_made s0 s2 tables xs c.args.cat c.args.tuples.now site c.requires.ready u (λ told. sym (c.in-Ok-None.ensures.fall told) ∙ c.in-Ok-None.field-0-is)

pub returns-clause-spares : goal.returns-clause-spares
returns-clause-spares g c = λ told none.
    let free = g.V.Files.is_free in
    let start = c.args.files.now in
    let late = c.fall.new.files in
    let same = c.in-Ok-None.ensures.frame.same in
    let still = asks_as_before (g.V.Files.asks start) (g.V.Files.asks late) (g.V.Files.state start) (g.V.Files.state late) c.args.cat (1408 + 8 * c.args.site.now.slot) 8 same
    (g.V.Files.asks_seen start late same told c.requires.ready.idle) none in
    takes_no_page_on free _ _ _ (takes_no_page_same free _ _ (ap (λ (s : State). s.store) same)) (c.in_ok-put_entry.ensures.spares (ap (λ (s : State). s.tells) same ∙ told) still)
