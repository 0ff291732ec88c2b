use Rattle.std.proofs.Common.{rules, ◌≡◌, ◌+ℤ◌, [], ◌∷◌, to_z, of_z, arith, length-append, sym, ◌∙◌, ap}
use Rattle.std.specs.Int.{w64}
use Rattle.std.specs.Prelude.{FitsSigned}
use Rattle.std.proofs.lemmas.Int.{to_z-of_z}
use Rattle.aggregate.proofs.Ends.{AreEnds-more}
use Rattle.aggregate.proofs.Totals.{total-append}
use Rattle.aggregate.proofs.summary.Summary.with.Goals as goal

pub returns-clause-told : goal.returns-clause-told
returns-clause-told c = λ ns s.
    let f : FitsSigned w64 c.args.self.sum = search rules in
    let e : to_z w64 (of_z w64 (to_z w64 (of_z w64 c.args.self.sum) +ℤ to_z w64 (of_z w64 c.args.number))) ≡ c.args.self.sum +ℤ c.args.number = search rules in
    record {
      count_is = omega (arith, s.count_is, length-append ns (c.args.number ∷ []));
      sum_is = e ∙ ap (λ t. t +ℤ c.args.number) s.sum_is ∙ sym (total-append ns c.args.number);
      least_is = search (rules, c.lesser.ensures.told ns s.least_is);
      greatest_is = search (rules, c.greater.ensures.told ns s.greatest_is);
    }

pub returns-clause-ends : goal.returns-clause-ends
returns-clause-ends c = λ agg a b h.
    let n : FitsSigned w64 c.args.number = c.ranges.number in
    rw (c.lesser.ensures.value, c.greater.ensures.value, to_z-of_z w64 c.args.number n) (AreEnds-more agg c.args.self.least c.args.self.greatest c.args.number a b h)
