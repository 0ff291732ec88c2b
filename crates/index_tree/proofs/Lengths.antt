use Rattle.std.proofs.Common.{◌≡◌, ◌≤◌, ◌<◌, ◌+◌, ◌*◌, ◌-◌, ◌/◌, ℕ, ℤ, zero, suc, List, [], ◌∷◌, length, drop, Bool, true, false, cond, refl, arith, ap, sym, ◌⊎◌, ⊎_elim, subst}
use Rattle.std.specs.List.{filter}
use Rattle.std.proofs.lemmas.List.{length-drop}
use Rattle.index_tree.proofs.Shared.{order}
use Rattle.index_tree.specs.Pairs.{Pair, goes, reaching, sifted}
use Rattle.index_tree.specs.Places.{IsOnPath}
use Rattle.padded.proofs.Facts.{filter_few}

unfoldable pub both : (Pair → Bool) → (Pair → Bool) → Pair → Bool
both f g p = cond (g p) (f p) false

cut : (f : Pair → Bool) (n : ℕ) (ps : List Pair) → length (filter f (drop n ps)) ≤ length (filter f ps)
cut f zero ps = omega arith
cut f (suc n) [] = omega arith
cut f (suc n) (p ∷ ps) =
    let less : length (filter f (drop n ps)) ≤ length (filter f ps) = cut f n ps in
    elim (f p) as (λ b. length (filter f (drop n ps)) ≤ length (cond b (p ∷ filter f ps) (filter f ps))) [ true ↦ omega arith | false ↦ omega arith ]

fuse_step : (a b : Bool) (p : Pair) (g : Pair → Bool) (xs ys : List Pair) → g p ≡ a → filter g xs ≡ ys → filter g (cond b (p ∷ xs) xs) ≡ cond (cond b a false) (p ∷ ys) ys
fuse_step true true p g xs ys e same = rw e (ap (λ zs. p ∷ zs) same)
fuse_step false true p g xs ys e same = rw e same
fuse_step true false p g xs ys e same = same
fuse_step false false p g xs ys e same = same

pub fuse : (g f : Pair → Bool) (ps : List Pair) → filter g (filter f ps) ≡ filter (both g f) ps
unfolding both
fuse g f [] = refl
fuse g f (p ∷ ps) = fuse_step (g p) (f p) p g (filter f ps) (filter (both g f) ps) refl (fuse g f ps)

-- no more reach a bucket than pass the tests before it
pub reach_fewer : (test : ℕ → Pair → Bool) (hop : ℕ) (ps : List Pair) (g : Pair → Bool) → length (filter g (reaching test hop ps)) ≤ length (filter g (sifted test hop ps))
reach_fewer test zero ps g = omega arith
reach_fewer test (suc hop) ps g =
    let before : length (filter (both g (test hop)) (reaching test hop ps)) ≤ length (filter (both g (test hop)) (sifted test hop ps)) = reach_fewer test hop ps (both g (test hop)) in
    let less : length (filter (both g (test hop)) (drop 32 (reaching test hop ps))) ≤ length (filter (both g (test hop)) (reaching test hop ps)) = cut (both g (test hop)) 32 (reaching test hop ps) in
    rw (fuse g (test hop) (drop 32 (reaching test hop ps))) (rw (fuse g (test hop) (sifted test hop ps)) (omega arith))

always : Pair → Bool
always p = true

all_stay : (ps : List Pair) → filter always ps ≡ ps
unfolding always
all_stay [] = refl
all_stay (p ∷ ps) = ap (λ xs. p ∷ xs) (all_stay ps)

-- each full bucket takes 32 pairs from those that go on
pub deep_from : (test : ℕ → Pair → Bool) (ps : List Pair) (h hop : ℕ) → h ≤ hop → ((i : ℕ) → i < hop → 32 ≤ length (reaching test i ps)) → 32 * (hop - h) + length (reaching test hop ps) ≤ length (reaching test h ps)
deep_from test ps h zero under full = let none : h ≡ 0 = omega arith in subst (λ x. 32 * (0 - x) + length (reaching test 0 ps) ≤ length (reaching test x ps)) (sym none) (omega arith)
deep_from test ps h (suc hop) under full =
    ⊎_elim
    (λ (below : h ≤ hop).
    let before : 32 * (hop - h) + length (reaching test hop ps) ≤ length (reaching test h ps) = deep_from test ps h hop below (λ i k. full i (omega arith)) in
    let enough : 32 ≤ length (reaching test hop ps) = full hop (omega arith) in
    let less : length (reaching test (suc hop) ps) ≤ length (drop 32 (reaching test hop ps)) = filter_few (test hop) (drop 32 (reaching test hop ps)) in
    let left : length (drop 32 (reaching test hop ps)) ≡ length (reaching test hop ps) - 32 = length-drop 32 (reaching test hop ps) in
    let next : 32 * (suc hop - h) ≡ 32 * (hop - h) + 32 = omega arith in
    rw next (omega (arith, before, enough, less, left)))
    (λ (above : hop < h). let same : h ≡ suc hop = omega arith in subst (λ x. 32 * (suc hop - x) + length (reaching test (suc hop) ps) ≤ length (reaching test x ps)) (sym same) (let z : suc hop - suc hop ≡ 0 = omega arith in rw z (omega arith)))
    (order h hop)

-- a path has at most 5 + e / 32 buckets, e pairs having its four digits
bound : (more some here all hop : ℕ) → hop ≡ 4 + more → 32 * more + some ≤ here → here ≤ all → hop ≤ 4 + all / 32
bound more some here all hop h far e = omega arith

pub path_length : (key : ℤ) (ps : List Pair) (hop : ℕ) → IsOnPath ps key hop → hop ≤ 4 + length (sifted (goes key) 4 ps) / 32
path_length key ps hop on =
    ⊎_elim
    (λ (low : hop ≤ 4). let z : hop ≤ 4 = low in omega arith)
    (λ (high : 4 < hop).
    let some : 0 < length (reaching (goes key) hop ps) = on.some in
    let far : 32 * (hop - 4) + length (reaching (goes key) hop ps) ≤ length (reaching (goes key) 4 ps) = deep_from (goes key) ps 4 hop (omega arith) on.full in
    let fewer : length (filter always (reaching (goes key) 4 ps)) ≤ length (filter always (sifted (goes key) 4 ps)) = reach_fewer (goes key) 4 ps always in
    let e : length (reaching (goes key) 4 ps) ≤ length (sifted (goes key) 4 ps) = rw (sym (ap length (all_stay (reaching (goes key) 4 ps)))) (rw (sym (ap length (all_stay (sifted (goes key) 4 ps)))) fewer) in
    bound (hop - 4) (length (reaching (goes key) hop ps)) (length (reaching (goes key) 4 ps)) (length (sifted (goes key) 4 ps)) hop (omega arith) far e)
    (order hop 4)
