use Rattle.std.proofs.Common.{◌≡◌, ◌-◌}
use Rattle.afl_base.specs.Fit.{first_fit, fit}
use Rattle.afl_base.proofs.pages.fit.Given as goal

-- the rest of the search gives the answer
abbrev pub invariant-doublings : goal.invariant-doublings
invariant-doublings l = first_fit (11 - l.turn) l.pages l.fn.size ≡ fit l.fn.size
