use Rattle.std.proofs.Common.{arith, rules, ℕ, ◌*◌}
use Rattle.afl_base.specs.KeyColumn.{number_of_width}
use Rattle.index_inline.proofs.Pieces.{end_found, near_found}
use Rattle.index_inline.proofs.piece.found_in.Goals as goal

pub returns-then-to-count-clause-span : goal.returns-then-to-count-clause-span
returns-then-to-count-clause-span c key slots rises is around =
    near_found c.args.within.now (λ (nth : ℕ). number_of_width c.args.piece.now (c.args.column.now.row * nth) c.args.column.now.width) key slots
    c.args.around.low c.args.around.high c.args.around.behind c.args.count c.first_failing-from.result c.first_failing-to.result rises is around
    c.args.around.order c.requires.near c.requires.count c.first_failing-from.ensures.within c.first_failing-to.ensures.order c.first_failing-to.ensures.within
    (λ nth h. c.first_failing-from.ensures.passed nth (omega arith) h) c.first_failing-from.ensures.failed c.first_failing-to.ensures.passed

pub returns-clause-span : goal.returns-clause-span
returns-clause-span c key slots rises is around =
    let below = c.first_failing-to.ensures.within in
    end_found c.args.within.now (λ (nth : ℕ). number_of_width c.args.piece.now (c.args.column.now.row * nth) c.args.column.now.width) key slots
    c.args.around.low c.args.count _ c.first_failing-to.result c.args.around.behind rises is (search rules) c.requires.count (c.first_failing-to.ensures.failed (search rules))
    (near_found c.args.within.now (λ (nth : ℕ). number_of_width c.args.piece.now (c.args.column.now.row * nth) c.args.column.now.width) key slots
    c.args.around.low c.args.around.high c.args.around.behind c.args.count c.first_failing-from.result c.first_failing-to.result rises is around
    c.args.around.order c.requires.near c.requires.count c.first_failing-from.ensures.within c.first_failing-to.ensures.order c.first_failing-to.ensures.within
    (λ nth h. c.first_failing-from.ensures.passed nth (omega arith) h) c.first_failing-from.ensures.failed c.first_failing-to.ensures.passed)
