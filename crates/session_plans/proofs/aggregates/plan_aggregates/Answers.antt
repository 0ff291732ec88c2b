use Rattle.std.proofs.Common.{sym}
use Rattle.db_model.specs.Cond.{condition_of}
use Rattle.session_plans.proofs.Aggregated.{aggregate_answers, aggregate_refused, aggregate_unnamed, aggregate_untyped, each_true, medians_same}
use Rattle.session_plans.specs.Aggregates.{suits_fold}
use Rattle.session_plans.proofs.aggregates.plan_aggregates.Goals as goal

pub returns-in-Err-clause-refused : goal.returns-in-Err-clause-refused
returns-in-Err-clause-refused c r e =
    aggregate_unnamed c.args.list.now (condition_of c.args.condition.now) r c.in-Err.nth
    (rw e (rw (c.as_slice.ensures.items, c.as_slice-attributes.ensures.items) at c.in-Err.ensures.missing))

pub returns-in-None-clause-numbers : goal.returns-in-None-clause-numbers
returns-in-None-clause-numbers c r e =
    rw (sym e)
    (aggregate_answers c.args.list.now (condition_of c.args.condition.now) r c.in-Ok.items
    (rw e (rw (c.as_slice.ensures.items, c.as_slice-attributes.ensures.items) at c.in-Ok.ensures.items))
    (rw e (rw (c.as_slice.ensures.items, c.as_slice-attributes.ensures.items) at c.in-Ok.ensures.known))
    (rw e (rw (c.as_slice-2.ensures.items, c.as_slice-attributes.ensures.items) at (sym c.in-None.ensures)))
    (rw e (rw c.len.ensures.value at c.in_default.ensures.accepted)))

pub returns-in-None-clause-suit : goal.returns-in-None-clause-suit
returns-in-None-clause-suit c = each_true (suits_fold c.args.schema.now.attributes) c.in-Ok.items 0 (rw (c.as_slice-2.ensures.items, c.as_slice-attributes.ensures.items) at (sym c.in-None.ensures))

pub returns-in-None-clause-medians : goal.returns-in-None-clause-medians
returns-in-None-clause-medians c =
    medians_same c.args.schema.now.attributes c.args.list.now c.in-Ok.items
    (rw (c.as_slice.ensures.items, c.as_slice-attributes.ensures.items) at c.in-Ok.ensures.items)

pub returns-in-Some-clause-refused : goal.returns-in-Some-clause-refused
returns-in-Some-clause-refused c r e =
    aggregate_untyped c.args.list.now (condition_of c.args.condition.now) r c.in-Ok.items
    (rw e (rw (c.as_slice.ensures.items, c.as_slice-attributes.ensures.items) at c.in-Ok.ensures.items))
    (rw e (rw (c.as_slice.ensures.items, c.as_slice-attributes.ensures.items) at c.in-Ok.ensures.known))
    c.in-Some.nth (rw e (rw (c.as_slice-2.ensures.items, c.as_slice-attributes.ensures.items) at (sym c.in-Some.ensures)))
    (rw e (rw c.len.ensures.value at c.in_default.ensures.accepted))

pub returns-in-Err-compile-clause-refused : goal.returns-in-Err-compile-clause-refused
returns-in-Err-compile-clause-refused c r e =
    rw c.first_of.ensures
    (aggregate_refused c.args.list.now (condition_of c.args.condition.now) r c.in-Ok.items
    (rw e (rw (c.as_slice.ensures.items, c.as_slice-attributes.ensures.items) at c.in-Ok.ensures.items))
    (rw e (rw (c.as_slice.ensures.items, c.as_slice-attributes.ensures.items) at c.in-Ok.ensures.known))
    c.first_unsuited-unsuited.result c.in-Err-compile.refusal (rw e (rw (c.as_slice-2.ensures.items, c.as_slice-attributes.ensures.items) at (sym c.first_unsuited-unsuited.ensures)))
    (rw e (rw c.len.ensures.value at c.in-Err-compile.ensures.refused)))
