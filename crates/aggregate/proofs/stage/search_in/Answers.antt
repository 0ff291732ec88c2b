use Rattle.std.proofs.Common.{◌≡◌, ◌-◌, ◌/◌, ℤ, pos, negsuc, ◌+ℤ◌, ◌-ℤ◌, Some, length, arith, rules, ap, ◌∙◌, sym, nat_abs, to_z, of_z, refl}
use Rattle.std.specs.Prelude.{FitsSigned, ◌≤ℤ◌}
use Rattle.std.specs.Int.{w64}
use Rattle.std.proofs.lemmas.Int.{ints, to_z-of_z}
use Rattle.db_model.specs.declared.commands.Agg.TheVariants.{Median}
use Rattle.db_model.specs.Answers.{numbers}
use Rattle.aggregate.proofs.Ends.{ends-are}
use Rattle.aggregate.proofs.Medians.{median-equal, Seeks-first}
use Rattle.aggregate.proofs.Searching.{nothing-at}
use Rattle.aggregate.proofs.stage.search_in.Goals as goal

pub returns-then-span-eq0-clause-told : goal.returns-then-span-eq0-clause-told
returns-then-span-eq0-clause-told c = λ all s.
    let a : ℤ = c.in-Some-Some.least in
    let b : ℤ = c.in-Some-Some.greatest in
    let e : (negsuc 2147483647 ≤ℤ a) × (a ≤ℤ b) × (b ≤ℤ pos 2147483647) = ends-are Median c.args.summary.least c.args.summary.greatest a b c.in-Some-Some.is-0 c.in-Some-Some.is-1 c.requires.ends in
    let f : FitsSigned w64 a = search rules in
    let same : a ≡ b = omega (arith, ints) in
    rw (to_z-of_z w64 a f) (median-equal (numbers all) a (sym s.least_is ∙ c.in-Some-Some.is-0) (sym s.greatest_is ∙ c.in-Some-Some.is-1 ∙ ap (λ z. Some z) (sym same)))

pub returns-clause-told : goal.returns-clause-told
returns-clause-told c = λ all s.
    let a : ℤ = c.in-Some-Some.least in
    let b : ℤ = c.in-Some-Some.greatest in
    let e : (negsuc 2147483647 ≤ℤ a) × (a ≤ℤ b) × (b ≤ℤ pos 2147483647) = ends-are Median c.args.summary.least c.args.summary.greatest a b c.in-Some-Some.is-0 c.in-Some-Some.is-1 c.requires.ends in
    let f : FitsSigned w64 a = search rules in
    let lo : to_z w64 (of_z w64 a) ≡ a = to_z-of_z w64 a f in
    let hi : to_z w64 (of_z w64 a) +ℤ pos (nat_abs (to_z w64 (of_z w64 (to_z w64 (of_z w64 b) -ℤ to_z w64 (of_z w64 a))))) ≡ b = omega (arith, ints) in
    let place : c.saturating_sub.result / 2 ≡ (length (numbers all) - 1) / 2 = ap (λ n. n / 2) (c.saturating_sub.ensures ∙ ap (λ n. n - 1) s.count_is) in
    Seeks-first (numbers all) a b _ (sym s.least_is ∙ c.in-Some-Some.is-0) (sym s.greatest_is ∙ c.in-Some-Some.is-1) lo hi place refl

pub returns-clause-sound : goal.returns-clause-sound
returns-clause-sound c =
    let a : ℤ = c.in-Some-Some.least in
    let b : ℤ = c.in-Some-Some.greatest in
    let e : (negsuc 2147483647 ≤ℤ a) × (a ≤ℤ b) × (b ≤ℤ pos 2147483647) = ends-are Median c.args.summary.least c.args.summary.greatest a b c.in-Some-Some.is-0 c.in-Some-Some.is-1 c.requires.ends in
    record {
      median = refl;
      low = omega (arith, ints);
      high = omega (arith, ints);
      some = omega arith;
      sixteenth = omega (arith, ints);
      sixteen = refl;
      counted = λ part. let none = nothing-at 16 part in omega (arith, none);
    }
