use Rattle.std.proofs.Common.{◌∙◌, ap, subst}
use Rattle.std.specs.Prelude.{IfOk}
use Rattle.afl_base.specs.Files.{State, Table}
use Rattle.image_model.specs.Images.{files_of_image}
use Rattle.image_model.proofs.Mounted.{mounted_files}
use Rattle.run_repair.specs.Surveys.{AreSurveyed}
use Rattle.run_repair.proofs.surveying.survey_files.Goals as goal

pub returns-clause-surveyed : goal.returns-clause-surveyed
returns-clause-surveyed g c = λ told unbroken.
    let volume = c.over-volume.ensures in
    subst (λ (table : Table). IfOk c.survey.result (AreSurveyed table))
    (ap (λ (s : State). s.files) (volume.files told) ∙ mounted_files (g.F.Flash.image c.list.new.flash) ∙ ap files_of_image c.list.ensures.same)
    (c.survey.ensures.surveyed (volume.tells ∙ told))
