-- How long a path is, told by the keys that have its four digits.
use Rattle.std.proofs.Common.{◌≡◌, ◌≤◌, ◌+◌, ◌*◌, ◌/◌, ℕ, ℤ, suc, List, [], ◌∷◌, length, Bool, true, false, cond, refl, arith, ap, ◌∙◌}
use Rattle.std.specs.Prelude.{◌==◌}
use Rattle.std.specs.List.{filter}
use Rattle.std.proofs.lemmas.Bool.Decides.{nat_tests}
use Rattle.db_model.specs.Cost.{keys_beside}
use Rattle.db_model.specs.HashTree.{digit, node, same_path}
use Rattle.index_tree.specs.Pairs.{Pair, goes, sifted}
use Rattle.index_tree.specs.Places.{IsOnPath}
use Rattle.index_tree.specs.Trees.{numbered}
use Rattle.index_tree.proofs.Lengths.{both, fuse, path_length}

-- whether a pair's key has the four digits
abbrev pub has_path : ℤ → Pair → Bool
has_path key p = same_path key p.key

-- whether a pair goes the key's way at each of the four upper nodes
all_ways : ℤ → Pair → Bool
all_ways key = both (goes key 3) (both (goes key 2) (both (goes key 1) (goes key 0)))

more_pass : (f g : Pair → Bool) → ((p : Pair) → f p ≡ true → g p ≡ true) → (ps : List Pair) → length (filter f ps) ≤ length (filter g ps)
more_pass f g weaker [] = omega arith
more_pass f g weaker (p ∷ ps) = step (f p) (g p) (filter f ps) (filter g ps) (weaker p) (more_pass f g weaker ps)
  where
    step : (a b : Bool) (xs ys : List Pair) → (a ≡ true → b ≡ true) → length xs ≤ length ys → length (cond a (p ∷ xs) xs) ≤ length (cond b (p ∷ ys) ys)
    step true true xs ys w less = omega (arith, less)
    step true false xs ys w less = let e : false ≡ true = w refl in absurd cc
    step false true xs ys w less = omega (arith, less)
    step false false xs ys w less = less

same_number : (m n : ℕ) → (m == n) ≡ true → m ≡ n
same_number m n e = grind (arith, nat_tests)

parts_of : (f g : Pair → Bool) (p : Pair) → both f g p ≡ true → (f p ≡ true) × (g p ≡ true)
unfolding both
parts_of f g p e = split (f p) (g p) e
  where
    split : (a b : Bool) → cond b a false ≡ true → (a ≡ true) × (b ≡ true)
    split a true e = (e, refl)
    split a false e = cc

way_is_path : (key : ℤ) (p : Pair) → all_ways key p ≡ true → has_path key p ≡ true
unfolding all_ways
way_is_path key p e =
    let third = parts_of (goes key 3) (both (goes key 2) (both (goes key 1) (goes key 0))) p e in
    let second = parts_of (goes key 2) (both (goes key 1) (goes key 0)) p third.1 in
    let first = parts_of (goes key 1) (goes key 0) p second.1 in
    let three : digit p.key 3 ≡ digit key 3 = same_number (digit p.key 3) (digit key 3) third.0 in
    let two_ : digit p.key 2 ≡ digit key 2 = same_number (digit p.key 2) (digit key 2) second.0 in
    let one : digit p.key 1 ≡ digit key 1 = same_number (digit p.key 1) (digit key 1) first.0 in
    let none : digit p.key 0 ≡ digit key 0 = same_number (digit p.key 0) (digit key 0) first.1 in
    same_test (node key 4) (node p.key 4) (nodes (digit key 0) (digit key 1) (digit key 2) (digit key 3) (digit p.key 0) (digit p.key 1) (digit p.key 2) (digit p.key 3) none one two_ three)
  where
    same_test : (m n : ℕ) → m ≡ n → (m == n) ≡ true
    same_test m n e = grind (arith, nat_tests)

    nodes : (a b c d e f g h : ℕ) → e ≡ a → f ≡ b → g ≡ c → h ≡ d → 4 * (4 * (4 * (4 * 0 + 1 + a) + 1 + b) + 1 + c) + 1 + d ≡ 4 * (4 * (4 * (4 * 0 + 1 + e) + 1 + f) + 1 + g) + 1 + h
    nodes a b c d e f g h i j k l = omega (arith, i, j, k, l)

all_sifted : (key : ℤ) (ps : List Pair) → sifted (goes key) 4 ps ≡ filter (all_ways key) ps
unfolding all_ways
all_sifted key ps =
    ap (λ (xs : List Pair). filter (goes key 3) (filter (goes key 2) xs)) (fuse (goes key 1) (goes key 0) ps)
    ∙ ap (filter (goes key 3)) (fuse (goes key 2) (both (goes key 1) (goes key 0)) ps)
    ∙ fuse (goes key 3) (both (goes key 2) (both (goes key 1) (goes key 0))) ps

keys_counted : (key : ℤ) (n : ℕ) (ks : List ℤ) → length (filter (has_path key) (numbered n ks)) ≡ length (filter (same_path key) ks)
keys_counted key n [] = refl
keys_counted key n (k ∷ ks) = step (same_path key k) (filter (has_path key) (numbered (n + 1) ks)) (filter (same_path key) ks) (keys_counted key (n + 1) ks)
  where
    step : (b : Bool) (xs : List Pair) (ys : List ℤ) → length xs ≡ length ys → length (cond b (record { key = k; slot = n } ∷ xs) xs) ≡ length (cond b (k ∷ ys) ys)
    step true xs ys e = ap suc e
    step false xs ys e = e

beside : (key : ℤ) (keys : List ℤ) → length (sifted (goes key) 4 (numbered 0 keys)) ≤ keys_beside key keys
beside key keys =
    let same : length (sifted (goes key) 4 (numbered 0 keys)) ≡ length (filter (all_ways key) (numbered 0 keys)) = ap (λ (xs : List Pair). length xs) (all_sifted key (numbered 0 keys)) in
    let less = more_pass (all_ways key) (has_path key) (way_is_path key) (numbered 0 keys) in
    let count = keys_counted key 0 keys in
    omega (arith, same, less, count)

-- a path has at most 5 buckets and one more for each 32 keys beside its own
pub path_short : (key : ℤ) (keys : List ℤ) (hop : ℕ) → IsOnPath (numbered 0 keys) key hop → hop ≤ 4 + keys_beside key keys / 32
path_short key keys hop on =
    let long = path_length key (numbered 0 keys) hop on in
    let less = beside key keys in
    omega (arith, long, less)
