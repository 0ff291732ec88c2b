use Rattle.std.proofs.Common.{rules, ◌≡◌, ◌<◌, sym, length, get_or}
use Rattle.index_set.specs.Plans.{by_kind}
use Rattle.index_set.proofs.Choosing.{given_plan, no_given}
use Rattle.index_set.proofs.choices.first_of.Goals as goal

pub returns-then-is_some-clause-plan : goal.returns-then-is_some-clause-plan
returns-then-is_some-clause-plan c =
    let xs = c.args.indexes.now in
    let y = c.get-info.result.now in
    let n = c.loop-nth.nth in
    let below : n < length xs = search rules in
    let e : y ≡ get_or xs n y = c.get-info.ensures in
    let given = c.usable-plan.ensures.plan c.args.ranges.now y.attribute (sym c.range_of-range.ensures) in
    let small : n < 256 = search rules in
    given_plan (by_kind c.args.kind c.args.ranges.now) xs n y below e c.loop-nth.invariant c.usable-plan.result (search rules) given

pub loop-nth-preserved : goal.loop-nth-preserved
loop-nth-preserved c =
    let xs = c.args.indexes.now in
    let y = c.get-info.result.now in
    let n = c.loop-nth.nth in
    let below : n < length xs = search rules in
    let e : y ≡ get_or xs n y = c.get-info.ensures in
    let given = c.usable-plan.ensures.plan c.args.ranges.now y.attribute (sym c.range_of-range.ensures) in
    no_given (by_kind c.args.kind c.args.ranges.now) xs n y below e c.loop-nth.invariant c.usable-plan.result (search rules) given
