use Rattle.std.proofs.Common.{not, ◌&&◌}
use Rattle.coffee_volume.proofs.Tables.{found_none, found_only}
use Rattle.coffee_volume.proofs.files.VolumeFiles.find.Goals as goal

pub returns-clause-only : goal.returns-clause-only
returns-clause-only g c =
    let v = c.args.self.now in
    found_only (g.F.Flash.tells && not v.failed) (g.F.Flash.image v.flash) _ v.table c.args.name c.find_in.result v.regular c.find_in.ensures.found

pub returns-clause-none : goal.returns-clause-none
returns-clause-none g c =
    let v = c.args.self.now in
    found_none (g.F.Flash.tells && not v.failed) (g.F.Flash.image v.flash) v.table c.args.name c.find_in.result c.find_in.ensures.none
