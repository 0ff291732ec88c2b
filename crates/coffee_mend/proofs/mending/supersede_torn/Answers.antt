use Rattle.coffee_mend.proofs.Supersedings.{superseded_as, superseding_like}
use Rattle.coffee_mend.proofs.mending.supersede_torn.Goals as goal

pub returns-in-Err-clause-cut : goal.returns-in-Err-clause-cut
returns-in-Err-clause-cut g c = λ t u but f.
    superseding_like (g.F.Flash.image c.args.flash.now) c.sectors.result c.sectors.ensures.size c.args.torn.now c.requires.torn (g.F.Flash.image c.supersede.new.flash) c.args.file.now c.args.region.now c.requires.low c.requires.some f but
    (c.in-Err.ensures.cut t u)

pub returns-in-Ok-clause-mended : goal.returns-in-Ok-clause-mended
returns-in-Ok-clause-mended g c = λ told but f.
    superseded_as (g.F.Flash.image c.args.flash.now) c.sectors.result c.sectors.ensures.size c.args.torn.now c.requires.torn (g.F.Flash.image c.supersede.new.flash) c.args.file.now c.args.region.now c.requires.low c.requires.some f but
    (c.in-Ok.ensures.superseded told)
