use Rattle.std.proofs.Common.{refl}
use Rattle.session_model.specs.View.{relation_of_rows}
use Rattle.session_model.proofs.Views.{named_none, named_some}
use Rattle.session_queries.proofs.Seen.{aggregate_cost_is}
use Rattle.session_queries.proofs.aggregating.plan_folds.Goals as goal

pub returns-in-None-clause-refused : goal.returns-in-None-clause-refused
returns-in-None-clause-refused c = λ files opens. rw (named_none files c.args.held.now opens c.args.relation.now c.in-None.ensures.none) refl

pub returns-in-Ok-clause-numbers : goal.returns-in-Ok-clause-numbers
returns-in-Ok-clause-numbers c = λ files opens.
    rw (
      named_some files c.args.held.now opens c.args.relation.now c.in-Some.found.slot c.in-Some.found.tuples c.in-Some.ensures.found.cell,
      c.in-Ok.ensures.numbers (relation_of_rows files c.in-Some.found.tuples) refl,
    ) refl

pub returns-in-Ok-clause-cost : goal.returns-in-Ok-clause-cost
returns-in-Ok-clause-cost c = λ files opens.
    aggregate_cost_is files c.args.held.now opens c.args.relation.now c.args.list.now c.args.condition.now c.in-Some.found c.in-Ok.plan.items c.in-Some.ensures.found c.in-Ok.ensures.medians

pub returns-in-Err-clause-refused : goal.returns-in-Err-clause-refused
returns-in-Err-clause-refused c = λ files opens.
    rw (
      named_some files c.args.held.now opens c.args.relation.now c.in-Some.found.slot c.in-Some.found.tuples c.in-Some.ensures.found.cell,
      c.in-Err.ensures.refused (relation_of_rows files c.in-Some.found.tuples) refl,
    ) refl
