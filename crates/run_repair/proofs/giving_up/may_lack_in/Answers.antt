use Rattle.std.proofs.Common.{◌∙◌, ap, subst}
use Rattle.std.specs.Bool.{Decides}
use Rattle.std.specs.Prelude.{IfOk}
use Rattle.afl_base.specs.Files.{State, Table}
use Rattle.image_model.specs.Images.{files_of_image}
use Rattle.image_model.proofs.Mounted.{mounted_files}
use Rattle.run_repair.specs.GivenUp.{MayLack}
use Rattle.run_repair.proofs.giving_up.may_lack_in.Goals as goal

pub returns-clause-lacks : goal.returns-clause-lacks
returns-clause-lacks g c = λ told unbroken.
    let volume = c.over-volume.ensures in
    subst (λ (table : Table). IfOk c.may_lack_tree.result (λ l. Decides l (MayLack table c.args.tree)))
    (ap (λ (s : State). s.files) (volume.files told) ∙ mounted_files (g.F.Flash.image c.list.new.flash) ∙ ap files_of_image c.list.ensures.same)
    (c.may_lack_tree.ensures.lacks (volume.tells ∙ told))
