-- The end of a path, read off the bytes of a tree.
use Rattle.std.proofs.Common.{◌≡◌, ℕ, ℤ, zero, suc, ◌+◌, ◌<◌, ◌≤◌, List, [], length, get_or, refl, sym, ◌∙◌, subst, arith, true, false}
use Rattle.std.specs.Prelude.{◌==◌, min, nat_lt}
use Rattle.std.proofs.Math.Logic.{⊎_elim}
use Rattle.std.proofs.lemmas.Bool.{cases_eq}
use Rattle.std.proofs.lemmas.Bool.Decides.{nat_tests}
use Rattle.index_tree.specs.Ends.{IsPathEnd, end_from, path_end, filled_from, filled_of}
use Rattle.index_tree.specs.Pairs.{Pair, goes, no_pair, reaching}
use Rattle.index_tree.specs.TreeFile.{HoldsPairs, IsBucket, IsTree, number_of, numbered_place, slot_at}
use Rattle.index_tree.proofs.Reach.{deep}

-- a bucket's filled pairs are those that it holds, at most 32
filled_is : (turns : ℕ) (bytes : List ℕ) (place pair : ℕ) (rest : List Pair) (n : ℕ) → HoldsPairs bytes place rest → turns + pair ≡ 32 → pair ≤ n → n ≤ 32 → n ≤ length rest → (n < 32 → n ≡ length rest) → filled_from turns bytes place pair ≡ n
filled_is zero bytes place pair rest n holds full low high few short = omega (arith, full, low, high)
filled_is (suc turns) bytes place pair rest n holds full low high few short =
    ⊎_elim
    (λ same.
    let empty : slot_at bytes place pair ≡ 0 = holds.empty pair (omega (arith, full)) (let e = short (omega (arith, full, same)) in omega (arith, e, same)) in
    rw empty same)
    (λ other.
    let within : pair < n = omega (arith, low, other) in
    let slot : slot_at bytes place pair ≡ (get_or rest pair no_pair).slot + 1 = holds.slot pair (omega (arith, full)) (omega (arith, within, few)) in
    let some : (slot_at bytes place pair == 0) ≡ false = grind (arith, nat_tests) in
    rw some (filled_is turns bytes place (pair + 1) rest n holds (omega (arith, full)) (omega (arith, within)) high few short))
    (cases_eq pair n)

-- the bytes tell how many pairs the bucket of a number has
pub filled_bucket : (bytes : List ℕ) (number : ℕ) (rest : List Pair) → IsBucket bytes number rest → filled_of bytes number ≡ min 32 (length rest)
filled_bucket bytes number rest bucket =
    ⊎_elim
    (λ none. let empty : rest ≡ [] = bucket.none none in rw (none, empty) refl)
    (λ some.
    let there : (number == 0) ≡ false = grind (arith, nat_tests) in
    let filled : filled_from 32 bytes (numbered_place number) 0 ≡ min 32 (length rest) =
    filled_is 32 bytes (numbered_place number) 0 rest (min 32 (length rest)) (bucket.holds some) refl (omega arith) (omega arith) (omega arith) (λ h. omega (arith, h)) in
    rw there filled)
    (cases_eq number 0)

-- from a hop before the end on, a walk over the bytes comes to the end
walked : (turns : ℕ) (bytes : List ℕ) (ps : List Pair) (key : ℤ) (hop steps : ℕ) → IsTree bytes ps → IsPathEnd ps key (hop + steps) → steps < turns → end_from turns bytes key hop ≡ hop + steps
walked zero bytes ps key hop steps tree end few = absurd (omega (arith, few))
walked (suc turns) bytes ps key hop zero tree end few =
    let same : hop + 0 ≡ hop = omega arith in
    let last : IsPathEnd ps key hop = subst (λ (h : ℕ). IsPathEnd ps key h) same end in
    let room = last.room in
    let filled = filled_bucket bytes (number_of bytes key hop) (reaching (goes key) hop ps) (tree.each key hop) in
    let short : nat_lt (filled_of bytes (number_of bytes key hop)) 32 ≡ true = grind (arith, nat_tests) in
    rw (short, same) refl
walked (suc turns) bytes ps key hop (suc steps) tree end few =
    let full : 32 ≤ length (reaching (goes key) hop ps) = end.full hop (omega arith) in
    let filled = filled_bucket bytes (number_of bytes key hop) (reaching (goes key) hop ps) (tree.each key hop) in
    let long : nat_lt (filled_of bytes (number_of bytes key hop)) 32 ≡ false = grind (arith, nat_tests) in
    let more : hop + suc steps ≡ hop + 1 + steps = omega arith in
    rw (long, more) (walked turns bytes ps key (hop + 1) steps tree (subst (λ (h : ℕ). IsPathEnd ps key h) more end) (omega (arith, few)))

-- the end that the bytes tell is the end of the path
pub end_is : (bytes : List ℕ) (ps : List Pair) (key : ℤ) (hop : ℕ) → IsTree bytes ps → IsPathEnd ps key hop → path_end bytes key ≡ hop
unfolding path_end
end_is bytes ps key hop tree end =
    let few = tree.few in
    let far = deep (goes key) ps hop end.full in
    let same : 0 + hop ≡ hop = omega arith in
    walked 1026 bytes ps key 0 hop tree (subst (λ (h : ℕ). IsPathEnd ps key h) (sym same) end) (omega (arith, few, far)) ∙ same
