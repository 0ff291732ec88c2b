use Rattle.std.proofs.Common.{rules, arith, ◌≡◌, ℤ, pos, ◌+ℤ◌, w64, SFits}
use Rattle.std.proofs.lemmas.Int.{ints}
use Rattle.stored_mend.specs.Filled.{IsLeast}
use Rattle.stored_mend.proofs.Least.{least_behind, none_given, rest_is, some_given}
use Rattle.stored_mend.proofs.fields.least.Goals as goal

fits : (c : goal.After-checked_add) → SFits w64 c.args.wanted.now.before
fits c = search rules

found : (c : goal.After-checked_add) → IsLeast c.args.wanted.now.before c.args.wanted.now.base c.args.wanted.now.low (c.args.wanted.now.before +ℤ pos c.step_to-step.result)
found c =
    let w = c.args.wanted.now in
    let here : SFits w64 c.rem_euclid-here.result = record { sfits = c.rem_euclid-here.type_inv } in
    least_behind w.before w.base w.low _ c.step_to-step.result c.requires.some c.if-wanted.false
    (rest_is w.before c.rem_euclid-here.result w.base (fits c) here (omega (arith, c.requires.most)) c.rem_euclid-here.ensures.value)
    (omega (arith, ints, c.rem_euclid-here.ensures.upper_bound, c.requires.most, here.sfits)) c.step_to-step.ensures.less c.step_to-step.ensures.there

pub returns-clause-least : goal.returns-clause-least
returns-clause-least c =
    let w = c.args.wanted.now in
    some_given w.before (w.before +ℤ pos c.step_to-step.result) _ w.base w.low (found c) (omega (arith, ints, (fits c).sfits, c.step_to-step.ensures.less, c.requires.most)) c.checked_add.result c.checked_add.ensures

pub returns-clause-none : goal.returns-clause-none
returns-clause-none c =
    let w = c.args.wanted.now in
    none_given w.before (w.before +ℤ pos c.step_to-step.result) _ w.base w.low (found c) (omega (arith, ints, (fits c).sfits, c.step_to-step.ensures.less, c.requires.most)) c.checked_add.result (fits c) c.checked_add.ensures
