use Rattle.std.proofs.Common.{◌∙◌}
use Rattle.coffee_layout.proofs.Fronts.{unit_read}
use Rattle.coffee_layout.proofs.next.next_unit.Goals as goal

pub returns-clause-unit : goal.returns-clause-unit
returns-clause-unit g c = λ t. c.unit_of.ensures ∙ unit_read (g.F.Flash.image c.args.flash.now) c.read.new.into c.args.page.0 c.requires.page (c.in_ok-read.ensures.bytes t)
