-- A hash tree has at most one bucket that is not full at each of its nodes.
use Rattle.std.proofs.Common.{◌≡◌, ℕ, ℤ, zero, suc, ◌+◌, ◌*◌, ◌/◌, ◌<◌, ◌≤◌, Bool, true, false, List, [], ◌∷◌, length, drop, arith}
use Rattle.std.specs.Prelude.{filter, ◌==◌, cond}
use Rattle.std.proofs.lemmas.Bool.Decides.{nat_tests}
use Rattle.std.proofs.lemmas.List.{length-drop}
use Rattle.db_model.specs.HashTree.{digit, onward, buckets_at, buckets}

-- how many keys have a digit
pub having : ℕ → ℕ → List ℤ → ℕ
having level d keys = length (filter (λ key. digit key level == d) keys)

-- the nodes at and below a node that is so many levels above the lowest
pub nodes : ℕ → ℕ
nodes zero = 1
nodes (suc above) = 1 + 4 * nodes above

-- 1 for true
unfoldable pub one : Bool → ℕ
one true = 1
one false = 0

having-cons : (level d : ℕ) (key : ℤ) (keys : List ℤ) → having level d (key ∷ keys) ≡ one (digit key level == d) + having level d keys
unfolding having one
having-cons level d key keys = by_test (digit key level == d) (filter (λ key. digit key level == d) keys)
  where
    by_test : (b : Bool) (rest : List ℤ) → length (cond b (key ∷ rest) rest) ≡ one b + length rest
    by_test true rest = omega arith
    by_test false rest = omega arith

pub more : (n k : ℕ) → k < 4 → (suc (suc (suc (suc n))) == k) ≡ false
more n k below = grind (arith, nat_tests, below)

-- a number is at most one of 0, 1, 2 and 3
pub one_of_four : (n : ℕ) → one (n == 0) + one (n == 1) + one (n == 2) + one (n == 3) ≤ 1
unfolding one
one_of_four zero = omega arith
one_of_four (suc zero) = omega arith
one_of_four (suc (suc zero)) = omega arith
one_of_four (suc (suc (suc zero))) = omega arith
one_of_four (suc (suc (suc (suc n)))) = rw (more n 0 (omega arith), more n 1 (omega arith), more n 2 (omega arith), more n 3 (omega arith)) (omega arith)

pub parts : (level : ℕ) (keys : List ℤ) → having level 0 keys + having level 1 keys + having level 2 keys + having level 3 keys ≤ length keys
unfolding having
parts level [] = omega arith
parts level (key ∷ keys) =
    let a = having-cons level 0 key keys in
    let b = having-cons level 1 key keys in
    let c = having-cons level 2 key keys in
    let d = having-cons level 3 key keys in
    let four = one_of_four (digit key level) in
    let rest = parts level keys in
    omega (arith, a, b, c, d, four, rest)

-- each bucket holds 32 keys, but for one at each node
pub few_buckets : (above level : ℕ) (keys : List ℤ) → 32 * buckets_at above level keys ≤ length keys + 32 * nodes above
unfolding nodes having
few_buckets zero level keys = omega arith
few_buckets (suc above) level [] = omega arith
few_buckets (suc above) level (key ∷ keys) =
    let all : List ℤ = key ∷ keys in
    let a = few_buckets above (level + 1) (onward level 0 all) in
    let b = few_buckets above (level + 1) (onward level 1 all) in
    let c = few_buckets above (level + 1) (onward level 2 all) in
    let d = few_buckets above (level + 1) (onward level 3 all) in
    let onwards = parts level (drop 32 all) in
    let left = length-drop 32 all in
    omega (arith, a, b, c, d, onwards, left)

pub buckets_bound : (keys : List ℤ) → buckets keys ≤ length keys / 32 + 341
unfolding nodes
buckets_bound keys = let e = few_buckets 4 0 keys in omega (arith, e)
