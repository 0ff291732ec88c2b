use Rattle.std.proofs.Common.{rules}
use Rattle.lent.proofs.Memory.{ends_of, has_space, leaves}
use Rattle.lent.proofs.running.run_lent.Goals as goal

pub returns-clause-told : goal.returns-clause-told
returns-clause-told c = λ n.
    let ran = c.carry-status in
    leaves c.args.form ran.result c.args.input.now ran.new.input.left.now c.new-out.result.bytes.now ran.new.out.count
    (ran.ensures.runs (search rules)).told c.new-flash.ensures.bytes c.new-out.ensures.count (search rules) (search rules)

pub returns-clause-no_fault : goal.returns-clause-no_fault
returns-clause-no_fault c = λ sound fits room. ends_of ((c.carry-status.ensures.runs (search rules)).no_fault (search rules) (search rules) (search rules))

pub returns-clause-suffices : goal.returns-clause-suffices
returns-clause-suffices c = λ sound has.
    (c.carry-status.ensures.runs (search rules)).suffices (search rules)
    (has_space c.args.form c.args.input.now c.new-out.result.bytes.now c.new-flash.ensures.bytes c.new-out.ensures.count has)
