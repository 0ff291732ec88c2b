use Rattle.std.proofs.Common.{rules, ◌≡◌, ◌<◌, ◌∙◌, sym, ap, length, get_or, true, false}
use Rattle.db_model.specs.Plan.{is_empty, range_at}
use Rattle.index_set.proofs.Choosing.{found_any, passed_any}
use Rattle.index_set.proofs.choices.has_empty.Goals as goal

pub returns-then-is_empty : goal.returns-then-is_empty
returns-then-is_empty c =
    let xs = c.args.indexes.now in
    let y = c.get.result.now in
    let n = c.loop-nth.nth in
    let below : n < length xs = search rules in
    let e : y ≡ get_or xs n y = c.get.ensures in
    let test : is_empty (range_at c.args.ranges.now y.attribute) ≡ true = ap is_empty (sym c.range_of-range.ensures) ∙ sym c.is_empty.ensures ∙ c.if-is_empty.true in
    sym (found_any (λ index. is_empty (range_at c.args.ranges.now index.1)) xs n y below e c.loop-nth.invariant test)

pub loop-nth-preserved : goal.loop-nth-preserved
loop-nth-preserved c =
    let xs = c.args.indexes.now in
    let y = c.get.result.now in
    let n = c.loop-nth.nth in
    let below : n < length xs = search rules in
    let e : y ≡ get_or xs n y = c.get.ensures in
    let test : is_empty (range_at c.args.ranges.now y.attribute) ≡ false = ap is_empty (sym c.range_of-range.ensures) ∙ sym c.is_empty.ensures ∙ c.if-is_empty.false in
    passed_any (λ index. is_empty (range_at c.args.ranges.now index.1)) xs n y below e c.loop-nth.invariant test
