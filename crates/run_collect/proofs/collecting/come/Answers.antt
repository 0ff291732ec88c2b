use Rattle.run_collect.proofs.Left.{left_collected, left_cut, left_same}
use Rattle.run_collect.proofs.collecting.come.Goals as goal

pub returns-in-Err-clause-broken : goal.returns-in-Err-clause-broken
returns-in-Err-clause-broken g c = λ told cuts. left_same (g.F.Flash.image c.args.flash.now) (g.F.Flash.image c.judge_image.new.flash) c.sectors.result c.sectors.ensures.size c.judge_image.ensures.same

pub returns-in-Ok-clause-comes : goal.returns-in-Ok-clause-comes
returns-in-Ok-clause-comes g c = λ told.
    let s = rw c.in-Ok-Ok.field-0-is at (c.in-Ok-Ok.ensures.sound told) in
    left_collected (g.F.Flash.image c.args.flash.now) (g.F.Flash.image c.judge_image.new.flash) (g.F.Flash.image c.collect.new.flash) c.sectors.result c.in-Ok.erased c.sectors.ensures.size c.judge_image.ensures.same
    c.collect.ensures.frame.size s (c.in-Ok.ensures.collected told) (c.in-Ok.ensures.number told)

pub returns-in-Err-collect-clause-broken : goal.returns-in-Err-collect-clause-broken
returns-in-Err-collect-clause-broken g c = λ told cuts.
    let s = rw c.in-Ok-Ok.field-0-is at (c.in-Ok-Ok.ensures.sound told) in
    left_cut c.torn_collections_mend.ensures.mends (g.F.Flash.image c.args.flash.now) (g.F.Flash.image c.judge_image.new.flash) (g.F.Flash.image c.collect.new.flash) c.sectors.result c.sectors.ensures.size c.sectors.ensures.most c.judge_image.ensures.same
    c.collect.ensures.frame.size s (c.in-Err-collect.ensures.cut told cuts)
