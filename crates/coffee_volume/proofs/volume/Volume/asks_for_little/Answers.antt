use Rattle.std.proofs.Common.{◌&&◌, not}
use Rattle.coffee_volume.proofs.Little.{fixed_little, growing_little}
use Rattle.coffee_volume.proofs.Standing.{where_told}
use Rattle.coffee_volume.proofs.volume.Volume.asks_for_little.Goals as goal

pub returns-clause-growing : goal.returns-clause-growing
returns-clause-growing g c = λ id overwrites bytes need live kind few most asks.
    let v = c.args.self.now in
    growing_little (g.F.Flash.tells && not v.failed) (g.F.Flash.image v.flash) _ v.table v.draft id overwrites bytes need v.regular (where_told g.F.Flash.tells v.failed _ v.told) live kind few most asks

pub returns-clause-fixed : goal.returns-clause-fixed
returns-clause-fixed g c = λ id overwrites bytes need live kind asks.
    let v = c.args.self.now in
    fixed_little (g.F.Flash.tells && not v.failed) (g.F.Flash.image v.flash) _ v.table id overwrites bytes need v.regular live kind asks
