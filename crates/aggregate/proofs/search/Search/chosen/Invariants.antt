use Rattle.std.proofs.Common.{◌≡◌, ◌+◌, ◌≤◌, ℤ, List}
use Rattle.aggregate.specs.Order.{below}
use Rattle.aggregate.specs.Search.{IsCounted, begins}
use Rattle.aggregate.proofs.search.Search.chosen.Given as goal

abbrev pub invariant-loop-part : goal.invariant-loop-part
invariant-loop-part l = record {
  few : l.place ≤ l.fn.self.place;
  placed : (all : List ℤ) → IsCounted all l.fn.self → below (begins l.fn.self l.part) all + l.place ≡ below l.fn.self.lo all + l.fn.self.place;
}
