use Rattle.std.proofs.Common.{rules}
use Rattle.lent.proofs.Memory.{collects}
use Rattle.lent.proofs.collecting.collect_lent.Goals as goal

pub returns-clause-told : goal.returns-clause-told
returns-clause-told c = λ n.
    let ran = c.collect-status in
    collects ran.result c.new-out.result.bytes.now ran.new.out.count
    (ran.ensures.told (search rules)) c.new-flash.ensures.bytes c.new-out.ensures.count (search rules) (search rules)
