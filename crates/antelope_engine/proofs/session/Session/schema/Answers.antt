use Rattle.std.proofs.Common.{ap, arith, ◌∙◌}
use Rattle.std.specs.Prelude.{option_map}
use Rattle.tuple_file.specs.declared.tuples.Tuples.{Tuples}
use Rattle.antelope_engine.proofs.ReadSlots.{found_at, schema_seen}
use Rattle.antelope_engine.proofs.session.Session.schema.Goals as goal

pub returns : goal.returns
returns g c = rw (← c.self.view_is) (
    let s = c.self.inside in
    let here = found_at s.base.held.relations c.from.result c.args.id c.index-self-from.result (c.from.ensures ∙ c.number.ensures.value) (omega (arith, c.number.ensures, c.self.told)) in
    c.schema_of.ensures ∙ ap (option_map (λ (t : Tuples). t.schema)) here ∙ schema_seen (g.V.Files.state s.base.files).files s.base.held s.base.opens c.args.id)
