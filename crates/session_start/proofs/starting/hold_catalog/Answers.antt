use Rattle.std.proofs.Common.{◌∙◌}
use Rattle.session_start.proofs.starting.hold_catalog.Goals as goal

pub hold-requires-clause-size : goal.hold-requires-clause-size
hold-requires-clause-size g c = rw c.in_ok-load.ensures.frame.same (rw c.in-Ok.is at c.in_ok-load.ensures.size)

pub returns-clause-found : goal.returns-clause-found
returns-clause-found g c = rw c.in_ok-load.ensures.frame.same at c.hold.ensures.found

pub returns-clause-catalog : goal.returns-clause-catalog
returns-clause-catalog g c = λ told. c.hold.ensures.catalog ∙ (rw c.in-Ok.is at c.in_ok-load.ensures.catalog) told
