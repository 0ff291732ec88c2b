use Rattle.std.proofs.Common.{◌∙◌, length}
use Rattle.run_repair.proofs.surveying.foretell_settled.Goals as goal

pub new-view-requires : goal.new-view-requires
new-view-requires g c =
    let size = length (g.F.Flash.image c.args.flash) in
    record { inside = c.overlay_of-overlay.ensures.inside size c.requires.inside.under_way c.requires.inside.torn }

pub returns : goal.returns
returns g c =
    let size = length (g.F.Flash.image c.args.flash) in
    let inside = c.overlay_of-overlay.ensures.inside size c.requires.inside.under_way c.requires.inside.torn in
    let read = c.foretell_view.ensures in
    let image = read.same ∙ c.new-view.ensures.image in
    let lent = read.lent ∙ c.new-view.ensures.lent in
    let same = c.into_flash.ensures.same c.args.flash c.overlay_of-overlay.result inside image lent in
    let faults = c.into_flash.ensures.faults c.args.flash c.overlay_of-overlay.result inside image lent in
    record {
      same = same.image;
      lent = same.lent;
      cause = rw (← c.new-view.ensures.faults) (rw faults read.cause);
    }
