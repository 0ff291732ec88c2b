use Rattle.std.proofs.Common.{◌∙◌, ℕ, List, Option, ap, length, subst}
use Rattle.std.specs.Prelude.{IfOk}
use Rattle.afl_base.specs.declared.ids.SectorId.{SectorId}
use Rattle.coffee_layout.specs.Rules.{broken_image}
use Rattle.run_repair.specs.Findings.{IsSurveyed, settled_image}
use Rattle.run_repair.proofs.Settled.{settles_to}
use Rattle.run_repair.proofs.surveying.survey_settled.Goals as goal

pub new-view-requires : goal.new-view-requires
new-view-requires g c =
    let size = length (g.F.Flash.image c.args.flash) in
    record { inside = c.overlay_of-overlay.ensures.inside size c.requires.inside.under_way c.requires.inside.torn }

pub returns : goal.returns
returns g c =
    let size = length (g.F.Flash.image c.args.flash) in
    let inside = c.overlay_of-overlay.ensures.inside size c.requires.inside.under_way c.requires.inside.torn in
    let read = c.survey_view.ensures in
    let image = read.same ∙ c.new-view.ensures.image in
    let lent = read.lent ∙ c.new-view.ensures.lent in
    let same = c.into_flash.ensures.same c.args.flash c.overlay_of-overlay.result inside image lent in
    let faults = c.into_flash.ensures.faults c.args.flash c.overlay_of-overlay.result inside image lent in
    record {
      surveyed = λ told cut.
          let flash = g.F.Flash.image c.args.flash in
          let trouble = c.args.trouble.now in
          let settled_is = c.new-view.ensures.image ∙ c.overlay_of-overlay.ensures.settled flash in
          let sound = ap broken_image settled_is ∙ (settles_to flash trouble c.sectors.result c.sectors.ensures.size c.requires.inside cut).sound in
          subst (λ (e : Option SectorId). IfOk c.survey_view.result (IsSurveyed (settled_image flash trouble) e)) c.erased_sector-erased.ensures
          (subst (λ (i : List ℕ). IfOk c.survey_view.result (IsSurveyed i c.erased_sector-erased.result)) settled_is (read.surveyed told sound));
      same = same.image;
      lent = same.lent;
      cause = rw (← c.new-view.ensures.faults) (rw faults read.cause);
    }
