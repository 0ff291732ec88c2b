use Rattle.std.proofs.Common.{not, ◌&&◌}
use Rattle.coffee_volume.proofs.Tables.{seen_distinct}
use Rattle.coffee_volume.proofs.files.VolumeFiles.live.Goals as goal

pub returns-clause-distinct : goal.returns-clause-distinct
returns-clause-distinct g c =
    let v = c.args.self.now in
    seen_distinct (g.F.Flash.tells && not v.failed) (g.F.Flash.image v.flash) _ v.table v.regular
