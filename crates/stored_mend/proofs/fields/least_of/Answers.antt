use Rattle.std.proofs.Common.{ℤ, Option, ◌≤ℤ◌, subst, sym}
use Rattle.std.specs.Prelude.{IfNone}
use Rattle.stored_mend.specs.Filled.{IsAlike, most_number}
use Rattle.stored_mend.proofs.PutNumbers.{within_64}
use Rattle.stored_mend.proofs.fields.least_of.Goals as goal

pub returns-in_err-number-clause-none : goal.returns-in_err-number-clause-none
returns-in_err-number-clause-none c =
    let w = c.args.wanted.now in
    subst (λ (r : Option ℤ). IfNone r ((z : ℤ) → w.before ≤ℤ z → z ≤ℤ most_number c.args.domain → IsAlike w.base w.low z → ⊥)) (sym c.from_residual.ensures)
    (λ z above within alike. c.in_err-number.ensures.none z above (within_64 c.args.domain z within) alike)
