use Rattle.std.proofs.Common.{drop, arith, ◌∙◌, sym}
use Rattle.std.proofs.Math.ListN.{drop_of_length-le}
use Rattle.session_rows.specs.Refused.{is_ordered_by}
use Rattle.session_rows.proofs.Suited.{falls_none}
use Rattle.session_rows.proofs.suiting.fallen.Goals as goal

pub returns-then-at-values : goal.returns-then-at-values
returns-then-at-values c =
    sym (c.loop-at.invariant.so_far ∙ falls_none (is_ordered_by c.args.indexes.now) c.loop-at.at (drop c.loop-at.at c.args.last.now) (drop c.loop-at.at c.args.values.now) (drop_of_length-le c.args.values.now (omega arith)))
