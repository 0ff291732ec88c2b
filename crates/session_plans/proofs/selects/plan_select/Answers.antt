use Rattle.std.proofs.Common.{sym}
use Rattle.db_model.specs.Cond.{condition_of}
use Rattle.session_plans.proofs.Planned.{select_answers, select_refused, select_unnamed}
use Rattle.session_plans.proofs.selects.plan_select.Goals as goal

pub returns-in-Err-clause-refused : goal.returns-in-Err-clause-refused
returns-in-Err-clause-refused c r e =
    select_unnamed c.args.list.now (condition_of c.args.condition.now) r c.in-Err.nth
    (rw e (rw (c.as_slice.ensures.items, c.as_slice-2.ensures.items) at c.in-Err.ensures.missing))

pub returns-clause-rows : goal.returns-clause-rows
returns-clause-rows c r e =
    rw (sym e)
    (select_answers c.args.list.now (condition_of c.args.condition.now) r c.in-Ok.places
    (rw e (rw (c.as_slice.ensures.items, c.as_slice-2.ensures.items) at c.in-Ok.ensures.places))
    (rw e (rw (c.as_slice.ensures.items, c.as_slice-2.ensures.items) at c.in-Ok.ensures.known))
    (rw e (rw c.len.ensures.value at c.in_default.ensures.accepted)))

pub returns-in-Err-compile-clause-refused : goal.returns-in-Err-compile-clause-refused
returns-in-Err-compile-clause-refused c r e =
    select_refused c.args.list.now (condition_of c.args.condition.now) r c.in-Err-compile.refusal
    (rw e (rw (c.as_slice.ensures.items, c.as_slice-2.ensures.items) at c.in-Ok.ensures.known))
    (rw e (rw c.len.ensures.value at c.in-Err-compile.ensures.refused))
