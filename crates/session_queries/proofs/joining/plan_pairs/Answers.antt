use Rattle.std.proofs.Common.{refl}
use Rattle.afl_base.specs.Files.{bytes_at}
use Rattle.session_model.specs.View.{relation_of_rows}
use Rattle.session_model.proofs.Views.{named_none, named_some}
use Rattle.session_plans.proofs.Joined.{rows_whole}
use Rattle.session_queries.proofs.Paired.{join_cost_is}
use Rattle.session_queries.proofs.joining.plan_pairs.Goals as goal

pub returns-in-None-clause-refused : goal.returns-in-None-clause-refused
returns-in-None-clause-refused c = λ files opens. rw (named_none files c.args.held.now opens c.args.left.now c.in-None.ensures.none) refl

pub returns-in-None-find-clause-refused : goal.returns-in-None-find-clause-refused
returns-in-None-find-clause-refused c = λ files opens.
    rw (
      named_some files c.args.held.now opens c.args.left.now c.in-Some.left.slot c.in-Some.left.tuples c.in-Some.ensures.found.cell,
      named_none files c.args.held.now opens c.args.right.now c.in-None-find.ensures.none,
    ) refl

pub returns-in-Ok-clause-rows : goal.returns-in-Ok-clause-rows
returns-in-Ok-clause-rows c = λ files opens.
    rw (
      named_some files c.args.held.now opens c.args.left.now c.in-Some.left.slot c.in-Some.left.tuples c.in-Some.ensures.found.cell,
      named_some files c.args.held.now opens c.args.right.now c.in-Some-find.right.slot c.in-Some-find.right.tuples c.in-Some-find.ensures.found.cell,
    )
    (c.in-Ok.ensures.rows (relation_of_rows files c.in-Some.left.tuples) (relation_of_rows files c.in-Some-find.right.tuples) refl refl
    (rows_whole c.in-Some.left.tuples.schema.attributes (bytes_at files c.in-Some.left.tuples.file)))

pub returns-in-Ok-clause-cost : goal.returns-in-Ok-clause-cost
returns-in-Ok-clause-cost c = λ files opens.
    join_cost_is files c.args.held.now opens c.args.left.now c.args.right.now c.args.on.now c.args.list.now c.in-Some.left c.in-Some-find.right
    c.in-Ok.plan.places c.in-Ok.plan.left_on c.in-Ok.plan.right_on c.in-Some.ensures.found c.in-Some-find.ensures.found c.in-Ok.ensures.left_on c.in-Ok.ensures.right_on
    (c.in-Ok.ensures.rows (relation_of_rows files c.in-Some.left.tuples) (relation_of_rows files c.in-Some-find.right.tuples) refl refl
    (rows_whole c.in-Some.left.tuples.schema.attributes (bytes_at files c.in-Some.left.tuples.file)))

pub returns-in-Err-clause-refused : goal.returns-in-Err-clause-refused
returns-in-Err-clause-refused c = λ files opens.
    rw (
      named_some files c.args.held.now opens c.args.left.now c.in-Some.left.slot c.in-Some.left.tuples c.in-Some.ensures.found.cell,
      named_some files c.args.held.now opens c.args.right.now c.in-Some-find.right.slot c.in-Some-find.right.tuples c.in-Some-find.ensures.found.cell,
    )
    (c.in-Err.ensures.refused (relation_of_rows files c.in-Some.left.tuples) (relation_of_rows files c.in-Some-find.right.tuples) refl refl)
