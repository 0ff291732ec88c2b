-- The median of some numbers, by counts alone.
use Rattle.std.proofs.Common.{◌≡◌, ◌+◌, ◌-◌, ◌<◌, ◌/◌, List, [], length, replicate, Some, ap, sym, ◌∙◌, arith}
use Rattle.std.specs.Prelude.{ℤ, pos, ◌+ℤ◌}
use Rattle.std.proofs.lemmas.Int.{ints}
use Rattle.aggregate.specs.declared.search.Search.{Search}
use Rattle.db_model.specs.Answers.{least, greatest, median}
use Rattle.aggregate.specs.Order.{up_to, below}
use Rattle.aggregate.specs.Search.{Seeks}
use Rattle.aggregate.proofs.Ends.{below-the_least, up_to-the_greatest, length-the_least}
use Rattle.aggregate.proofs.Rising.{rising-at}
use Rattle.aggregate.proofs.Searching.{nothing-counted}

-- the median of numbers whose least is their greatest
pub median-equal : (ns : List ℤ) (m : ℤ) → least ns ≡ Some m → greatest ns ≡ Some m → Some m ≡ median ns
median-equal ns m l g =
    let b : below m ns ≡ 0 = below-the_least ns m l in
    let u : up_to m ns ≡ length ns = up_to-the_greatest ns m g in
    let p : 0 < length ns = length-the_least ns m l in
    sym (rising-at m ns ((length ns - 1) / 2) (omega arith) (omega arith))

-- the search between the least and the greatest
pub Seeks-first : (ns : List ℤ) (a b : ℤ) (s : Search) → least ns ≡ Some a → greatest ns ≡ Some b → s.lo ≡ a → s.lo +ℤ pos s.span ≡ b
    → s.place ≡ (length ns - 1) / 2 → s.counts ≡ replicate 16 0 → Seeks ns [] ((length ns - 1) / 2) s
Seeks-first ns a b s l g lo hi p z =
    let k : below a ns ≡ 0 = below-the_least ns a l in
    let u : up_to b ns ≡ length ns = up_to-the_greatest ns b g in
    let n : 0 < length ns = length-the_least ns a l in
    record {
      lowest = ap (λ m. below m ns + s.place) lo ∙ omega (arith, k, p);
      highest = rw hi (omega arith);
      counted = nothing-counted s z;
    }

-- a search that leaves one number has found the median
pub median-found : (ns so_far : List ℤ) (s : Search) → Seeks ns so_far ((length ns - 1) / 2) s → s.span ≡ 0 → Some s.lo ≡ median ns
median-found ns so_far s k z =
    let e : s.lo +ℤ pos s.span ≡ s.lo = omega (arith, ints) in
    let h : (length ns - 1) / 2 < up_to s.lo ns = rw e at k.highest in
    sym (rising-at s.lo ns ((length ns - 1) / 2) (omega (arith, k.lowest)) h)
