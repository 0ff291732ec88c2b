use Rattle.std.proofs.Common.{not, ◌&&◌}
use Rattle.coffee_layout.specs.Units.{pages_of}
use Rattle.coffee_volume.proofs.Asking.{asked_of}
use Rattle.coffee_volume.proofs.MountedTables.{idle_holds, image_each, image_only, image_sound}
use Rattle.coffee_volume.proofs.volume.Volume.ends.Goals as goal

pub returns-clause-sound : goal.returns-clause-sound
returns-clause-sound g c = λ told none.
    let v = c.args.self.now in
    let image = g.F.Flash.image v.flash in
    image_sound image (pages_of image) v.table (idle_holds g.F.Flash.tells v.failed image v.table v.draft v.told told none) v.regular v.count

pub returns-clause-each : goal.returns-clause-each
returns-clause-each g c = λ told none id live.
    let v = c.args.self.now in
    let image = g.F.Flash.image v.flash in
    image_each (g.F.Flash.tells && not v.failed) image v.table id told (idle_holds g.F.Flash.tells v.failed image v.table v.draft v.told told none) live

pub returns-clause-only : goal.returns-clause-only
returns-clause-only g c = λ told none n has.
    let v = c.args.self.now in
    let image = g.F.Flash.image v.flash in
    image_only (g.F.Flash.tells && not v.failed) image v.table n told (idle_holds g.F.Flash.tells v.failed image v.table v.draft v.told told none) has

pub returns-clause-asked : goal.returns-clause-asked
returns-clause-asked g c = λ told none id overwrites bytes need live asks.
    let v = c.args.self.now in
    let image = g.F.Flash.image v.flash in
    asked_of (g.F.Flash.tells && not v.failed) image v.table id overwrites bytes need (idle_holds g.F.Flash.tells v.failed image v.table v.draft v.told told none) live asks

pub returns-clause-size : goal.returns-clause-size
returns-clause-size g c = (c.sectors.result, c.sectors.ensures.size)
