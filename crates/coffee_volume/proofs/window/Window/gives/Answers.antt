use Rattle.std.proofs.Common.{sym}
use Rattle.coffee_volume.proofs.window.Window.gives.Goals as goal

pub returns-clause-part : goal.returns-clause-part
returns-clause-part c = λ _ content shows k low. c.give_all.ensures content (rw (sym c.self.view_is) at shows) k low
