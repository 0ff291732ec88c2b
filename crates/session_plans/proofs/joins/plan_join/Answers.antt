use Rattle.std.proofs.Common.{Option, Some, ap, sym, ◌∙◌}
use Rattle.db_model.specs.declared.schemas.Domain.{Domain}
use Rattle.db_model.specs.Step.{joins}
use Rattle.db_model.specs.Typing.{domain_of}
use Rattle.session_plans.proofs.Joined.{domain_there, join_answers}
use Rattle.session_plans.proofs.joins.plan_join.Goals as goal

pub returns-clause-rows : goal.returns-clause-rows
returns-clause-rows c l r e f whole =
    let left_at = rw c.as_slice-lefts.ensures.items at (sym c.in-Some.ensures.place) in
    let right_at = rw c.as_slice-rights.ensures.items at (sym c.in-Some-place_of.ensures.place) in
    let left_there = rw c.as_slice-lefts.ensures.items at c.index-lefts-left_on.is in
    let right_there = rw c.as_slice-rights.ensures.items at c.index-rights-right_on.is in
    join_answers c.args.on.now c.args.list.now l r c.in-Some.place c.in-Some-place_of.place (rw e left_at) (rw f right_at) c.in-Ok.places
    (rw (e, f) (rw (c.as_slice.ensures.items, c.as_slice-lefts.ensures.items, c.as_slice-rights.ensures.items) at c.in-Ok.ensures.sides))
    (rw (e, f) (rw (c.as_slice.ensures.items, c.as_slice-lefts.ensures.items, c.as_slice-rights.ensures.items) at c.in-Ok.ensures.known))
    (rw (e, f)
    (ap (λ (d : Option Domain). joins d (domain_of c.args.right.now.attributes c.args.on.now))
    (domain_there c.args.left.now.attributes c.args.on.now c.in-Some.place c.index-lefts-left_on.result left_at left_there)
    ∙ ap (λ (d : Option Domain). joins (Some c.index-lefts-left_on.result.domain) d)
    (domain_there c.args.right.now.attributes c.args.on.now c.in-Some-place_of.place c.index-rights-right_on.result right_at right_there)
    ∙ sym (rw (sym c.index-lefts-left_on.is, sym c.index-rights-right_on.is) at c.are_joined.ensures) ∙ c.if-not-are_joined.false))
    (rw e whole)
