use Rattle.std.proofs.Common.{arith, rules, ◌∙◌, refl, ap, ℕ, List, length, get_or}
use Rattle.std.specs.Prelude.{FitsSigned}
use Rattle.std.specs.Int.{w64}
use Rattle.std.proofs.lemmas.Int.{ints, to_z-of_z}
use Rattle.db_model.specs.Answers.{numbers}
use Rattle.aggregate.proofs.Searching.{nothing-at}
use Rattle.aggregate.proofs.Sixteenths.{sixteenth-left}
use Rattle.aggregate.proofs.Medians.{median-found}
use Rattle.aggregate.proofs.stage.after_later.Goals as goal

pub returns-then-next-eq0-clause-told : goal.returns-then-next-eq0-clause-told
returns-then-next-eq0-clause-told c = λ all k.
    let f : FitsSigned w64 c.narrowed-next.result.lo = search rules in
    rw (to_z-of_z w64 c.narrowed-next.result.lo f) (median-found (numbers all) _ c.narrowed-next.result (c.narrowed-next.ensures.told (numbers all) _ k) c.if-next-eq0.true)

pub returns-else-next-eq0-clause-sound : goal.returns-else-next-eq0-clause-sound
returns-else-next-eq0-clause-sound c = λ p n k. record {
  median = refl;
  low = omega (arith, ints);
  high = omega (arith, ints);
  some = omega arith;
  sixteenth = sixteenth-left c.narrowed-next.result.span c.args.search.span p 68719476736 c.narrowed-next.ensures.part k.sixteenth;
  sixteen = ap (λ (xs : List ℕ). length xs) c.narrowed-next.ensures.counts;
  counted = λ part. let none = ap (λ (xs : List ℕ). get_or xs part 0) c.narrowed-next.ensures.counts ∙ nothing-at 16 part in omega (arith, none);
}
