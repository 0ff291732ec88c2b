use Rattle.std.proofs.Common.{rules, arith, ◌≡◌, pos, ◌+ℤ◌, to_z, of_z, refl}
use Rattle.std.specs.Int.{w64}
use Rattle.std.specs.Prelude.{FitsSigned}
use Rattle.std.proofs.lemmas.Int.{ints}
use Rattle.aggregate.proofs.Searching.{Seeks-narrowed}
use Rattle.aggregate.proofs.search.Search.narrowed.Goals as goal

pub returns-clause-told : goal.returns-clause-told
returns-clause-told c = λ all place k.
    let lo : FitsSigned w64 c.args.self.now.lo = search rules in
    let at : to_z w64 (of_z w64 (to_z w64 (of_z w64 c.args.self.now.lo) +ℤ to_z w64 (of_z w64 c.from.result))) ≡ c.args.self.now.lo +ℤ pos c.min-from.result = omega (arith, ints) in
    Seeks-narrowed c.args.self.now _ all place c.chosen-part.result.0 c.min-from.result k c.chosen-part.ensures.part
    (c.chosen-part.ensures.place all k.counted) (c.chosen-part.ensures.inside all k.counted)
    (rw c.width.ensures.value at c.min-from.ensures) at c.min.ensures refl
