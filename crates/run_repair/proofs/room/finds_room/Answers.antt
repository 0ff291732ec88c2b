use Rattle.coffee_layout.specs.Tiling.{nowhere, units_of}
use Rattle.run_repair.proofs.Rooms.{finds_in, tiled}
use Rattle.run_repair.proofs.room.finds_room.Goals as goal

pub returns-in_ok-has-in-Some-clause-finds : goal.returns-in_ok-has-in-Some-clause-finds
returns-in_ok-has-in-Some-clause-finds g c = λ told unbroken.
    let image = g.F.Flash.image c.args.flash.now in
    finds_in image c.args.erased c.in-Some.sector c.in_ok-has-in-Some.has c.in-Some.is
    (c.in_ok-has-in-Some.ensures.room told nowhere (units_of image) (tiled image c.sectors.result c.sectors.ensures.size unbroken))
