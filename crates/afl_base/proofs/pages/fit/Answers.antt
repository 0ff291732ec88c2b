use Rattle.std.proofs.Common.{◌≡◌, refl, arith, sym, ◌∙◌}
use Rattle.afl_base.specs.Fit.{fit}
use Rattle.afl_base.proofs.FitLaws.{fit_here, is_fit, turn_last, turn_short}
use Rattle.afl_base.proofs.pages.fit.Goals as goal

pub doublings-init : goal.doublings-init
unfolding fit
doublings-init c = refl

pub doublings-preserved : goal.doublings-preserved
doublings-preserved c =
    turn_short c.doublings.turn c.doublings.pages c.args.size (fit c.args.size) c.doublings-test.true (omega (arith, c.from.ensures)) c.doublings.invariant

pub returns-then-size-from-clause-value : goal.returns-then-size-from-clause-value
returns-then-size-from-clause-value c =
    sym (fit_here _ c.doublings.pages c.args.size (omega (arith, c.from.ensures))) ∙ c.doublings.invariant

pub returns-then-size-from-clause-least : goal.returns-then-size-from-clause-least
returns-then-size-from-clause-least c =
    let is : c.doublings.pages ≡ fit c.args.size = sym (fit_here _ c.doublings.pages c.args.size (omega (arith, c.from.ensures))) ∙ c.doublings.invariant in
    rw is (is_fit c.args.size c.requires)

pub returns-clause-value : goal.returns-clause-value
returns-clause-value c = turn_last c.doublings.turn c.doublings.pages c.args.size (fit c.args.size) c.doublings-test.false c.doublings.invariant

pub returns-clause-least : goal.returns-clause-least
returns-clause-least c =
    let is : c.doublings.pages ≡ fit c.args.size = turn_last c.doublings.turn c.doublings.pages c.args.size (fit c.args.size) c.doublings-test.false c.doublings.invariant in
    rw is (is_fit c.args.size c.requires)
