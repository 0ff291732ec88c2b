use Rattle.std.proofs.Common.{◌∙◌}
use Rattle.run_repair.proofs.Mended.{judged_bad, judged_sound}
use Rattle.run_repair.proofs.judging.judge_image.Goals as goal

pub returns-clause-sound : goal.returns-clause-sound
returns-clause-sound g c = λ told.
    let volume = c.over-volume.ensures in
    judged_sound (g.F.Flash.image c.args.flash.now) (g.F.Flash.image c.list.new.flash) _ c.judge_database.result (volume.files told) c.list.ensures.same (c.in-Ok.ensures.sound told)
    (c.judge_database.ensures.sound (volume.tells ∙ told))

pub returns-clause-bad : goal.returns-clause-bad
returns-clause-bad g c = λ told.
    let volume = c.over-volume.ensures in
    judged_bad (g.F.Flash.image c.args.flash.now) (g.F.Flash.image c.list.new.flash) _ c.judge_database.result (volume.files told) c.list.ensures.same (c.in-Ok.ensures.sound told)
    (c.judge_database.ensures.bad (volume.tells ∙ told))
