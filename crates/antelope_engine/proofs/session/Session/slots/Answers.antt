use Rattle.std.proofs.Common.{List, ap, arith, length, sym, ◌∙◌}
use Rattle.db_model.specs.Row.{Row}
use Rattle.antelope_engine.specs.Seen.{Seen}
use Rattle.antelope_engine.proofs.ReadSlots.{found_at, holds_rows, rows_seen}
use Rattle.antelope_engine.proofs.session.Session.slots.Goals as goal

pub count-requires : goal.count-requires
count-requires g c =
    let s = c.self.inside in
    let kept = c.self.invariant.going (ap (λ (z : Seen g.row.V.Denot). z.stopped) c.self.view_is ∙ c.requires.running) in
    let here = found_at s.base.held.relations c.from.result c.args.id c.index-self-from.result (c.from.ensures ∙ c.number.ensures.value) (omega (arith, c.number.ensures, c.self.told)) in
    holds_rows (g.V.Files.state s.base.files) s.base.tables s.base.held s.base.opens (c.self.invariant.running kept) c.args.id c.in-Some.tuples (sym here ∙ c.in-Some.is)

pub returns-in-Some : goal.returns-in-Some
returns-in-Some g c = rw (← c.self.view_is) (
    let s = c.self.inside in
    let here = found_at s.base.held.relations c.from.result c.args.id c.index-self-from.result (c.from.ensures ∙ c.number.ensures.value) (omega (arith, c.number.ensures, c.self.told)) in
    c.count.ensures.rows ∙ ap (λ (rs : List Row). length rs) (sym (rows_seen (g.V.Files.state s.base.files).files s.base.held s.base.opens c.args.id c.in-Some.tuples (sym here ∙ c.in-Some.is))))
