use Rattle.std.proofs.Common.{ap, ◌∙◌}
use Rattle.db_model.specs.Step.{first_fall}
use Rattle.session_indexes.proofs.Keyed.{keys_by}
use Rattle.session_indexes.proofs.making.fall.Goals as goal

pub returns-clause-fall : goal.returns-clause-fall
returns-clause-fall g c = λ told.
    c.in_ok-fall.ensures.ordered told
    ∙ ap first_fall (keys_by (g.V.Files.state c.args.files.now) c.args.tuples.now c.args.attribute c.requires.number c.requires.holds told
    c.column-column.result c.count-slots.result c.column-column.ensures.column c.count-slots.ensures.slots)
