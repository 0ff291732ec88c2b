use Rattle.std.proofs.Common.{arith, rules}
use Rattle.afl_base.proofs.KeyLaws.{place_small}
use Rattle.afl_base.proofs.keys.field_place.Goals as goal

pub overflow_add-result : goal.overflow_add-result
overflow_add-result c =
    rw (c.from.ensures, c.from-2.ensures, c.from-3.ensures)
    (let small = place_small c.args.row c.number.result c.args.at (omega arith) c.number.ensures.below (omega arith) in search rules)
