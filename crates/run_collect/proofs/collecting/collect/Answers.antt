use Rattle.run_collect.proofs.Left.{collects, faultless_status}
use Rattle.run_collect.proofs.collecting.collect.Goals as goal

pub returns-clause-told : goal.returns-clause-told
returns-clause-told g c = λ told.
    collects c.say.result (g.F.Flash.image c.args.flash.now) (g.F.Flash.image c.come-came.new.flash) (g.K.Sink.held c.args.out.now) (g.K.Sink.held c.say.new.out) c.come-came.result (c.come-came.ensures.comes told) c.say.ensures.says

pub returns-clause-no_fault : goal.returns-clause-no_fault
returns-clause-no_fault g c = λ told s no_flash no_sink.
    let all = collects c.say.result (g.F.Flash.image c.args.flash.now) (g.F.Flash.image c.come-came.new.flash) (g.K.Sink.held c.args.out.now) (g.K.Sink.held c.say.new.out) c.come-came.result (c.come-came.ensures.comes told) c.say.ensures.says in
    faultless_status c.say.result (g.F.Flash.image c.args.flash.now) (g.F.Flash.image c.come-came.new.flash) (g.K.Sink.held c.args.out.now) (g.K.Sink.held c.say.new.out) c.say.ensures.only all s
    (λ rule place broken. c.sound_image_breaks_no_rule.ensures (g.F.Flash.image c.args.flash.now) rule place s broken)
    (λ four. no_flash (c.come-came.ensures.cause (c.say.ensures.fault four)))
    (λ five. no_sink (c.say.ensures.rose five))
