-- Each pair of a tree stands where it was the end of its path.
use Rattle.std.proofs.Common.{◌≡◌, ◌≢◌, ◌<◌, ◌+◌, ◌-◌, ℕ, ℤ, List, [], ◌∷◌, ◌++◌, length, get_or, refl, arith, ap, ◌∙◌, length-append}
use Rattle.std.proofs.lemmas.List.{get_or_append_left}
use Rattle.std.proofs.Math.Seq.{get_or-append_seam}
use Rattle.index_tree.specs.Buckets.{HasPair}
use Rattle.index_tree.specs.Ends.{IsPathEnd}
use Rattle.index_tree.specs.Pairs.{Pair, goes, no_pair, pair_of, pairs_of, reaching}
use Rattle.index_tree.specs.TreeFile.{IsTree, number_of}
use Rattle.index_tree.proofs.Added.{passes_all}
use Rattle.index_tree.proofs.Loaded.{pairs_more}
use Rattle.index_tree.proofs.Owned.{later}
use Rattle.index_tree.proofs.Reach.{reach-append}
use Rattle.index_tree.proofs.Shared.{goes_self}

pub expected : (bytes : List ℕ) (f : ℕ → ℤ) (slots s hop : ℕ) → IsTree bytes (pairs_of f slots) → s < slots → IsPathEnd (pairs_of f s) (f s) hop → HasPair bytes (number_of bytes (f s) hop) (length (reaching (goes (f s)) hop (pairs_of f s))) (pair_of f s)
expected bytes f slots s hop tree small end =
    let key : ℤ = f s in
    let q : Pair = pair_of f s in
    let front : List Pair = reaching (goes key) hop (pairs_of f s) in
    let grown : reaching (goes key) hop (pairs_of f s ++ q ∷ []) ≡ front ++ q ∷ [] = reach-append (goes key) (pairs_of f s) (q ∷ []) hop end.full ∙ ap (λ xs. front ++ xs) (passes_all key hop q (λ i k. goes_self key i q refl)) in
    let after = later f key hop (s + 1) (slots - (s + 1)) in
    let all : s + 1 + (slots - (s + 1)) ≡ slots = omega (arith, small) in
    let now : reaching (goes key) hop (pairs_of f (s + 1)) ≡ front ++ q ∷ [] = ap (reaching (goes key) hop) (pairs_more f s) ∙ grown in
    let whole : reaching (goes key) hop (pairs_of f slots) ≡ (front ++ q ∷ []) ++ after.0 = rw all at after.1 ∙ ap (λ (xs : List Pair). xs ++ after.0) now in
    let sum : length (front ++ q ∷ []) ≡ length front + 1 = length-append front (q ∷ []) in
    let total : length ((front ++ q ∷ []) ++ after.0) ≡ length (front ++ q ∷ []) + length after.0 = length-append (front ++ q ∷ []) after.0 in
    let long = ap length whole in
    let there : get_or (reaching (goes key) hop (pairs_of f slots)) (length front) no_pair ≡ q =
    ap (λ (xs : List Pair). get_or xs (length front) no_pair) whole ∙ get_or_append_left (front ++ q ∷ []) after.0 no_pair (length front) (omega (arith, sum)) ∙ get_or-append_seam front q [] no_pair in
    let bucket = tree.each key hop in
    let some : number_of bytes key hop ≢ 0 = λ z. let empty : length (reaching (goes key) hop (pairs_of f slots)) ≡ 0 = ap length (bucket.none z) in omega (arith, empty, long, total, sum) in
    let room = end.room in
    record {
      some = some;
      within = bucket.within some;
      slot = (bucket.holds some).slot (length front) room (omega (arith, long, total, sum)) ∙ ap (λ (p : Pair). p.slot + 1) there;
      key = (bucket.holds some).key (length front) room (omega (arith, long, total, sum)) ∙ ap (λ (p : Pair). p.key) there;
      last = (bucket.holds some).last;
    }
