use Rattle.std.proofs.Common.{◌≡◌, ℕ, ◌+◌, drop, length-drop, arith, Some, ◌∙◌, ap, sym, length}
use Rattle.std.proofs.Math.ListN.{drop_of_length-le}
use Rattle.session_rows.proofs.Suited.{value_left, value_missing}
use Rattle.session_rows.proofs.suiting.unsuited_place.Goals as goal

pub returns-then-at-values : goal.returns-then-at-values
returns-then-at-values c =
    value_missing c.loop-at.at (drop c.loop-at.at c.args.attributes.now) (drop c.loop-at.at c.args.values.now)
    (omega (arith, length-drop c.loop-at.at c.args.attributes.now)) (drop_of_length-le c.args.values.now (omega arith))
    ∙ sym c.loop-at.invariant.so_far

pub returns-then-attributes-values : goal.returns-then-attributes-values
returns-then-attributes-values c =
    let last : c.loop-at.at ≡ length c.args.attributes.now = omega arith in
    ap (λ (n : ℕ). Some (n + 1)) (sym last)
    ∙ value_left c.loop-at.at (drop c.loop-at.at c.args.attributes.now) (drop c.loop-at.at c.args.values.now)
    (drop_of_length-le c.args.attributes.now (omega arith)) (omega (arith, length-drop c.loop-at.at c.args.values.now))
    ∙ sym c.loop-at.invariant.so_far
