use Rattle.std.proofs.Common.{◌∙◌, List, ap, subst}
use Rattle.std.specs.Prelude.{IfOk, ℕ}
use Rattle.std.specs.Bool.{Decides}
use Rattle.coffee_layout.specs.Rules.{broken_image}
use Rattle.image_model.specs.Images.{files_of_image}
use Rattle.run_repair.specs.GivenUp.{MayLack}
use Rattle.run_repair.proofs.giving_up.may_lack_settled.Goals as goal

pub returns : goal.returns
returns g c =
    let read = c.may_lack_in.ensures in
    let inside = c.requires.inside in
    let image = read.same ∙ c.new-view.ensures.image in
    let lent = read.lent ∙ c.new-view.ensures.lent in
    let same = c.into_flash.ensures.same c.args.flash c.args.overlay inside image lent in
    let faults = c.into_flash.ensures.faults c.args.flash c.args.overlay inside image lent in
    record {
      lacks = λ told sound.
          subst (λ (i : List ℕ). IfOk c.may_lack_in.result (λ l. Decides l (MayLack (files_of_image i) c.args.tree))) c.new-view.ensures.image
          (read.lacks told (ap broken_image c.new-view.ensures.image ∙ sound));
      same = same.image;
      lent = same.lent;
      cause = rw (← c.new-view.ensures.faults) (rw faults read.cause);
    }
