use Rattle.coffee_layout.proofs.units.list_unit.Goals as goal

pub returns-then-matches-clause-placed : goal.returns-then-matches-clause-placed
returns-then-matches-clause-placed c = λ pages inside all. c.list_file.ensures.placed pages (rw c.in-Extent.is at inside) all
