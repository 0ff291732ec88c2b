-- The pairs of a key along its path are the slots with that key.
use Rattle.std.proofs.Common.{◌≡◌, ◌≢◌, ◌≤◌, ◌<◌, ◌+◌, ℕ, ℤ, zero, suc, List, [], ◌∷◌, ◌++◌, length, take, drop, get_or, map, Bool, true, false, cond, refl, arith, ap, ◌∙◌, sym, append_assoc, ⊎_elim, subst}
use Rattle.std.specs.Prelude.{min}
use Rattle.std.specs.List.{filter, range_with_len}
use Rattle.std.specs.Ordering.{int_eq}
use Rattle.std.proofs.lemmas.List.{append-nil, take-append-drop}
use Rattle.std.proofs.lemmas.List.Elements.{filter-append}
use Rattle.index_tree.specs.Ends.{filled_of}
use Rattle.afl_base.specs.Keys.{is_key_at}
use Rattle.index_tree.specs.Pairs.{Pair, goes, has_key, no_pair, reaching, slots_of}
use Rattle.index_tree.specs.Trees.{IsTreeOf, numbered, pair_in, pairs_along, pairs_in}
use Rattle.index_tree.specs.TreeFile.{IsBucket, IsTree, number_of, numbered_place, slot_at}
use Rattle.index_tree.proofs.Added.{same_pair, zero_or}
use Rattle.index_tree.proofs.Ends.{filled_bucket}
use Rattle.index_tree.proofs.Loaded.{end_there}
use Rattle.index_tree.proofs.Reach.{deep, filter_weaker}
use Rattle.index_tree.proofs.Shared.{empty_next, empty_on, order}
use Rattle.index_tree.proofs.Stays.{goes_mine}

-- ---- a bucket

front_is : (f : ℕ → Pair) (from n : ℕ) (rest : List Pair) → n ≤ length rest → ((i : ℕ) → i < n → f (from + i) ≡ get_or rest i no_pair) → map f (range_with_len from n) ≡ take n rest
front_is f from zero rest few is = refl
front_is f from (suc n) [] few is = absurd (omega (arith, few))
front_is f from (suc n) (p ∷ rest) few is =
    let here : f from ≡ p = (let e : from + 0 ≡ from = omega arith in rw e at (is 0 (omega arith))) in
    let more : map f (range_with_len (from + 1) n) ≡ take n rest = front_is f (from + 1) n rest (omega (arith, few)) (λ i h. let e : from + 1 + i ≡ from + suc i = omega arith in rw e (is (suc i) (omega (arith, h)))) in
    rw (here, more) refl

take_min : (n : ℕ) (rest : List Pair) → take (min n (length rest)) rest ≡ take n rest
take_min zero rest = let e : min zero (length rest) ≡ 0 = omega arith in rw e refl
take_min (suc n) [] = let e : min (suc n) 0 ≡ 0 = omega arith in rw e refl
take_min (suc n) (p ∷ rest) = let e : min (suc n) (suc (length rest)) ≡ suc (min n (length rest)) = omega arith in rw e (ap (λ (xs : List Pair). p ∷ xs) (take_min n rest))

-- the bytes of a bucket tell the first 32 of what reaches it
bucket_pairs : (bytes : List ℕ) (number : ℕ) (rest : List Pair) → IsBucket bytes number rest → pairs_in bytes number ≡ take 32 rest
bucket_pairs bytes number rest bucket =
    let filled : filled_of bytes number ≡ min 32 (length rest) = filled_bucket bytes number rest bucket in
    ⊎_elim
    (λ (none : number ≡ 0). let empty : rest ≡ [] = bucket.none none in rw (filled, empty) refl)
    (λ (some : number ≢ 0).
    let holds = bucket.holds some in
    rw filled (front_is (pair_in bytes (numbered_place number)) 0 (min 32 (length rest)) rest (omega arith)
    (λ i h. let n : slot_at bytes (numbered_place number) i ≡ (get_or rest i no_pair).slot + 1 = holds.slot i (omega (arith, h)) (omega (arith, h)) in
    let z : 0 + i ≡ i = omega arith in
    rw z (same_pair (pair_in bytes (numbered_place number) i) (get_or rest i no_pair) (holds.key i (omega (arith, h)) (omega (arith, h))) (omega (arith, n))))
    ∙ take_min 32 rest))
    (zero_or number)

-- ---- a path

-- those of a key in the buckets before a hop, and those that reach it, are all
split_at : (bytes : List ℕ) (ps : List Pair) (key : ℤ) (hop : ℕ) → IsTree bytes ps → filter (has_key key) (pairs_along bytes key hop) ++ filter (has_key key) (reaching (goes key) hop ps) ≡ filter (has_key key) ps
split_at bytes ps key zero tree = refl
split_at bytes ps key (suc hop) tree =
    let mine : Pair → Bool = has_key key in
    let before : List Pair = pairs_along bytes key hop in
    let rest : List Pair = reaching (goes key) hop ps in
    let here : pairs_in bytes (number_of bytes key hop) ≡ take 32 rest = bucket_pairs bytes (number_of bytes key hop) rest (tree.each key hop) in
    let left : filter mine (pairs_along bytes key (suc hop)) ≡ filter mine before ++ filter mine (take 32 rest) = ap (λ (xs : List Pair). filter mine (before ++ xs)) here ∙ filter-append mine before (take 32 rest) in
    let right : filter mine (reaching (goes key) (suc hop) ps) ≡ filter mine (drop 32 rest) = filter_weaker mine (goes key hop) (goes_mine key hop) (drop 32 rest) in
    let whole : filter mine (take 32 rest) ++ filter mine (drop 32 rest) ≡ filter mine rest = sym (filter-append mine (take 32 rest) (drop 32 rest)) ∙ ap (filter mine) (take-append-drop 32 rest) in
    ap (λ (xs : List Pair). xs ++ filter mine (reaching (goes key) (suc hop) ps)) left
    ∙ ap (λ (xs : List Pair). (filter mine before ++ filter mine (take 32 rest)) ++ xs) right
    ∙ append_assoc (filter mine before) (filter mine (take 32 rest)) (filter mine (drop 32 rest))
    ∙ ap (λ (xs : List Pair). filter mine before ++ xs) whole
    ∙ split_at bytes ps key hop tree

-- nothing reaches so far
none_there : (key : ℤ) (ps : List Pair) (hop : ℕ) → length ps ≤ 32768 → 1024 ≤ hop → reaching (goes key) hop ps ≡ []
none_there key ps hop few far =
    let end = end_there key ps in
    let room = end.1.room in
    let long = deep (goes key) ps end.0 end.1.full in
    ⊎_elim
    (λ (here : hop ≤ end.0). let empty : length (reaching (goes key) end.0 ps) ≡ 0 = omega (arith, few, far, here, long) in
    let same : hop ≡ end.0 = omega (arith, few, far, here, long) in
    subst (λ (h : ℕ). reaching (goes key) h ps ≡ []) (sym same) (no_length (reaching (goes key) end.0 ps) empty))
    (λ (behind : end.0 < hop). empty_on (goes key) ps (suc end.0) hop (empty_next (goes key) ps end.0 (omega (arith, room))) (omega (arith, behind)))
    (order hop end.0)
  where
    no_length : (xs : List Pair) → length xs ≡ 0 → xs ≡ []
    no_length [] e = refl
    no_length (x ∷ xs) e = absurd (omega (arith, e))

-- ---- slots

slots_from : (key : ℤ) (test : ℕ → Bool) (n : ℕ) (ks : List ℤ) → ((i : ℕ) → i < length ks → test (n + i) ≡ is_key_at key ks i) → slots_of (filter (has_key key) (numbered n ks)) ≡ filter test (range_with_len n (length ks))
slots_from key test n [] is = refl
slots_from key test n (k ∷ ks) is =
    let here : test n ≡ int_eq k key = (let e : n + 0 ≡ n = omega arith in rw e at (is 0 (omega arith))) in
    let more = slots_from key test (n + 1) ks (λ i h. let e : n + 1 + i ≡ n + suc i = omega arith in rw e (is (suc i) (omega (arith, h)))) in
    rw here (step (int_eq k key) (filter (has_key key) (numbered (n + 1) ks)) (filter test (range_with_len (n + 1) (length ks))) more)
  where
    step : (b : Bool) (xs : List Pair) (ys : List ℕ) → slots_of xs ≡ ys → slots_of (cond b (record { key = k; slot = n } ∷ xs) xs) ≡ cond b (n ∷ ys) ys
    step true xs ys e = ap (λ (zs : List ℕ). n ∷ zs) e
    step false xs ys e = e

-- the slots of a key along its path are the slots with that key, in order
pub slots_along : (bytes : List ℕ) (keys : List ℤ) (key : ℤ) (hops : ℕ) → IsTreeOf bytes keys → 1024 ≤ hops →
    slots_of (filter (has_key key) (pairs_along bytes key hops)) ≡ filter (is_key_at key keys) (range_with_len 0 (length keys))
slots_along bytes keys key hops tree far =
    let ps : List Pair = numbered 0 keys in
    let none : reaching (goes key) hops ps ≡ [] = none_there key ps hops tree.few far in
    let all : filter (has_key key) (pairs_along bytes key hops) ≡ filter (has_key key) ps =
    sym (append-nil (filter (has_key key) (pairs_along bytes key hops))) ∙ sym (ap (λ (xs : List Pair). filter (has_key key) (pairs_along bytes key hops) ++ filter (has_key key) xs) none) ∙ split_at bytes ps key hops tree in
    ap slots_of all ∙ slots_from key (is_key_at key keys) 0 keys (λ i h. let e : 0 + i ≡ i = omega arith in rw e refl)
