use Rattle.std.proofs.Common.{arith, rules}
use Rattle.afl_base.proofs.KeyLaws.{place_small}
use Rattle.index_inline.proofs.piece.place_of.Goals as goal

pub overflow_add-result : goal.overflow_add-result
overflow_add-result c =
    rw (c.from.ensures, c.from-2.ensures, c.from-3.ensures)
    (let small = place_small c.args.row c.args.slot c.args.at (omega arith) c.requires (omega arith) in search rules)
