use Rattle.std.proofs.Common.{◌≡◌, ◌∙◌, ap, sym, subst, rules, None, []}
use Rattle.std.specs.Prelude.{IfErr, OnOk}
use Rattle.afl_base.specs.Files.{State, Table}
use Rattle.coffee_layout.specs.Rules.{broken_image}
use Rattle.image_model.specs.Images.{files_of_image}
use Rattle.image_model.proofs.Mounted.{mounted_files}
use Rattle.stored.specs.CutTables.{IsCutTable}
use Rattle.run_repair.specs.Mends.{IsRestored, OnFault, OnSpaceless, StillMends, StillMendsButLacks}
use Rattle.run_repair.proofs.Interrupted.{own_fault, own_spaceless, own_stays}
use Rattle.stored_mend.specs.Reported.{IsReported}
use Rattle.run_repair.proofs.mending.mend_image.Goals as goal

pub returns-clause-restored : goal.returns-clause-restored
returns-clause-restored g c = λ told unbroken cut.
    let volume = c.over-volume.ensures in
    let files = ap (λ (s : State). s.files) (volume.files told) ∙ mounted_files (g.F.Flash.image c.list.new.flash) ∙ ap files_of_image c.list.ensures.same in
    let restored : OnOk c.mend_volume.result (IsRestored (files_of_image (g.F.Flash.image c.args.flash.now)) (g.F.Flash.image c.mend_volume.new.volume.flash.flash.now)) =
    subst (λ (table : Table). OnOk c.mend_volume.result (IsRestored table (g.F.Flash.image c.mend_volume.new.volume.flash.flash.now))) files
    (c.mend_volume.ensures.restored (volume.tells ∙ told) (subst IsCutTable (sym files) cut)) in
    search (rules, restored)

pub returns-clause-space : goal.returns-clause-space
returns-clause-space g c = λ told unbroken cut.
    let volume = c.over-volume.ensures in
    let files = ap (λ (s : State). s.files) (volume.files told) ∙ mounted_files (g.F.Flash.image c.list.new.flash) ∙ ap files_of_image c.list.ensures.same in
    let left : IfErr c.mend_volume.result (λ why. OnSpaceless why (StillMendsButLacks (g.F.Flash.image c.args.flash.now) (g.F.Flash.image c.mend_volume.new.volume.flash.flash.now))) =
    own_spaceless (g.F.Flash.image c.args.flash.now) (g.F.Flash.image c.mend_volume.new.volume.flash.flash.now) _ c.mend_volume.result unbroken files
    (c.mend_volume.ensures.space (volume.tells ∙ told) (subst IsCutTable (sym files) cut)) in
    search (rules, left)

pub returns-clause-unbroken : goal.returns-clause-unbroken
returns-clause-unbroken g c = λ told unbroken cut.
    let volume = c.over-volume.ensures in
    let files = ap (λ (s : State). s.files) (volume.files told) ∙ mounted_files (g.F.Flash.image c.list.new.flash) ∙ ap files_of_image c.list.ensures.same in
    let left : IfErr c.mend_volume.result (λ why. OnSpaceless why (λ need. broken_image (g.F.Flash.image c.mend_volume.new.volume.flash.flash.now) ≡ None)) =
    c.mend_volume.ensures.unbroken (volume.tells ∙ told) (subst IsCutTable (sym files) cut) in
    search (rules, left)

pub returns-clause-cut : goal.returns-clause-cut
returns-clause-cut g c = λ told cuts unbroken cut.
    let volume = c.over-volume.ensures in
    let files = ap (λ (s : State). s.files) (volume.files told) ∙ mounted_files (g.F.Flash.image c.list.new.flash) ∙ ap files_of_image c.list.ensures.same in
    let left : IfErr c.mend_volume.result (λ why. OnFault why (StillMends (g.F.Flash.image c.args.flash.now) (g.F.Flash.image c.mend_volume.new.volume.flash.flash.now))) =
    own_fault (g.F.Flash.image c.args.flash.now) (g.F.Flash.image c.mend_volume.new.volume.flash.flash.now) _ c.mend_volume.result unbroken files
    (c.mend_volume.ensures.cut cuts (volume.tells ∙ told) (subst IsCutTable (sym files) cut)) in
    search (rules, left)

pub returns-in-Err-Failed-clause-cut : goal.returns-in-Err-Failed-clause-cut
returns-in-Err-Failed-clause-cut g c = λ told cuts unbroken cut.
    own_stays (g.F.Flash.image c.args.flash.now) (g.F.Flash.image c.list.new.flash) unbroken cut c.list.ensures.same

-- what is told

pub returns-clause-reported : goal.returns-clause-reported
returns-clause-reported g c = λ told unbroken cut.
    let volume = c.over-volume.ensures in
    let files = ap (λ (s : State). s.files) (volume.files told) ∙ mounted_files (g.F.Flash.image c.list.new.flash) ∙ ap files_of_image c.list.ensures.same in
    let lines : OnOk c.mend_volume.result (c.args.report.now.mended ≡ []
    → IsReported (files_of_image (g.F.Flash.image c.args.flash.now)) (files_of_image (g.F.Flash.image c.mend_volume.new.volume.flash.flash.now)) c.mend_volume.new.report.mended) =
    subst (λ (table : Table). OnOk c.mend_volume.result (c.args.report.now.mended ≡ []
    → IsReported table (files_of_image (g.F.Flash.image c.mend_volume.new.volume.flash.flash.now)) c.mend_volume.new.report.mended)) files
    (c.mend_volume.ensures.reported (volume.tells ∙ told) (subst IsCutTable (sym files) cut)) in
    search (rules, lines)
