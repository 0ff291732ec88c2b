use Rattle.std.specs.Int.{w64}
use Rattle.std.proofs.lemmas.Int.{to_z-of_z}
use Rattle.aggregate.proofs.Searching.{counted-in, counted-out}
use Rattle.aggregate.proofs.search.Search.take.Goals as goal

pub returns-in-Some-clause-told : goal.returns-in-Some-clause-told
returns-in-Some-clause-told c = λ all so_far place k.
    let is = rw (to_z-of_z w64 c.args.number c.ranges.number) at (c.in-Some.ensures) in
    record { lowest = k.lowest; highest = k.highest; counted = counted-in c.args.self.now so_far c.in-Some.part c.args.number is c.requires.sixteen k.counted }

pub returns-in_default-clause-told : goal.returns-in_default-clause-told
returns-in_default-clause-told c = λ all so_far place k.
    let is = rw (to_z-of_z w64 c.args.number c.ranges.number) at (c.in_default.ensures) in
    record { lowest = k.lowest; highest = k.highest; counted = counted-out c.args.self.now so_far c.args.number is k.counted }
