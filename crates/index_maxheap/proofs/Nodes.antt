-- Each node lies on the path of a key, and a tree has no number or pair too much.
use Rattle.std.proofs.Common.{◌≡◌, ◌≢◌, ◌≤◌, ◌<◌, ◌+◌, ◌*◌, ◌-◌, ◌/◌, ◌%◌, ℕ, ℤ, zero, suc, List, length, get_or, refl, arith, ap, ◌∙◌, sym, ◌⊎◌, inl, inr, ⊎_elim, subst}
use Rattle.std.specs.Prelude.{bit_xor, min, slice_range, slice_index}
use Rattle.std.specs.Int.{w32, cast_signed, cast_unsigned}
use Rattle.std.specs.Int.Bits.{xor_zero_r}
use Rattle.std.proofs.lemmas.Int.{of_z-to_z}
use Rattle.afl_base.specs.Fields.{u16_at}
use Rattle.db_model.specs.HashTree.{digit, mixed, node}
use Rattle.index_tree.specs.Loads.{load_of}
use Rattle.index_tree.specs.Pairs.{Pair, goes, reaching}
use Rattle.index_tree.specs.TreeFile.{HoldsPairs, IsTree, next_at, number_of, numbered_place}
use Rattle.index_maxheap.specs.Verify.{AreHeads, IsNodeDone, IsTail, Verifies, hop_of}
use Rattle.index_maxheap.proofs.Built.{chain_length}
use Rattle.index_tree.proofs.Counted.{chain}
use Rattle.index_tree.proofs.Frames.{part_same, u16_same}
use Rattle.index_tree.proofs.PutBucket.{behind_chain}
use Rattle.index_tree.proofs.Shared.{order}
use Rattle.index_maxheap.proofs.Verified.{number_node}
use Rattle.index_tree.proofs.Loaded.{load_upper}

-- ---- keys for nodes

key_for : ℕ → ℤ
key_for k = cast_signed w32 k

mixed_is : (k : ℕ) → k < 256 → mixed (key_for k) ≡ k
unfolding key_for
mixed_is k small =
    let back : cast_unsigned w32 (cast_signed w32 k) ≡ k = of_z-to_z w32 k (omega (arith, small)) in
    let none : k / 65536 ≡ 0 = omega (arith, small) in
    ap (λ (x : ℕ). bit_xor x (x / 65536)) back ∙ ap (bit_xor k) none ∙ xor_zero_r k

digit_is : (k level d : ℕ) → k < 256 → (mixed (key_for k) ≡ k → digit (key_for k) level ≡ d) → digit (key_for k) level ≡ d
digit_is k level d small from = from (mixed_is k small)

pub node_key : (n : ℕ) → n < 341 → (key : ℤ) × (level : ℕ) × (level ≤ 4) × (node key level ≡ n)
node_key n small = ⊎_elim
    (λ (a : n < 1). (key_for 0, 0, omega arith, omega arith))
    (λ (a : 1 ≤ n). ⊎_elim
    (λ (b : n < 5).
    let k : ℕ = n - 1 in
    let x : digit (key_for k) 0 ≡ n - 1 = digit_is k 0 (n - 1) (omega arith) (λ m. ap (λ (y : ℕ). y % 4) m ∙ omega arith) in
    (key_for k, 1, omega arith, omega (arith, x)))
    (λ (b : 5 ≤ n). ⊎_elim
    (λ (c : n < 21).
    let m : ℕ = n - 5 in
    let k : ℕ = m / 4 + 4 * (m % 4) in
    let x : digit (key_for k) 0 ≡ m / 4 = digit_is k 0 (m / 4) (omega arith) (λ e. ap (λ (y : ℕ). y % 4) e ∙ omega arith) in
    let y : digit (key_for k) 1 ≡ m % 4 = digit_is k 1 (m % 4) (omega arith) (λ e. ap (λ (z : ℕ). z / 4 % 4) e ∙ omega arith) in
    (key_for k, 2, omega arith, omega (arith, x, y)))
    (λ (c : 21 ≤ n). ⊎_elim
    (λ (d : n < 85).
    let m : ℕ = n - 21 in
    let k : ℕ = m / 16 + 4 * (m / 4 % 4) + 16 * (m % 4) in
    let x : digit (key_for k) 0 ≡ m / 16 = digit_is k 0 (m / 16) (omega arith) (λ e. ap (λ (z : ℕ). z % 4) e ∙ omega arith) in
    let y : digit (key_for k) 1 ≡ m / 4 % 4 = digit_is k 1 (m / 4 % 4) (omega arith) (λ e. ap (λ (z : ℕ). z / 4 % 4) e ∙ omega arith) in
    let z : digit (key_for k) 2 ≡ m % 4 = digit_is k 2 (m % 4) (omega arith) (λ e. ap (λ (w : ℕ). w / 16 % 4) e ∙ omega arith) in
    (key_for k, 3, omega arith, omega (arith, x, y, z)))
    (λ (d : 85 ≤ n).
    let m : ℕ = n - 85 in
    let k : ℕ = m / 64 + 4 * (m / 16 % 4) + 16 * (m / 4 % 4) + 64 * (m % 4) in
    let x : digit (key_for k) 0 ≡ m / 64 = digit_is k 0 (m / 64) (omega arith) (λ e. ap (λ (z : ℕ). z % 4) e ∙ omega arith) in
    let y : digit (key_for k) 1 ≡ m / 16 % 4 = digit_is k 1 (m / 16 % 4) (omega arith) (λ e. ap (λ (z : ℕ). z / 4 % 4) e ∙ omega arith) in
    let z : digit (key_for k) 2 ≡ m / 4 % 4 = digit_is k 2 (m / 4 % 4) (omega arith) (λ e. ap (λ (w : ℕ). w / 16 % 4) e ∙ omega arith) in
    let w : digit (key_for k) 3 ≡ m % 4 = digit_is k 3 (m % 4) (omega arith) (λ e. ap (λ (v : ℕ). v / 64 % 4) e ∙ omega arith) in
    (key_for k, 4, omega arith, omega (arith, x, y, z, w)))
    (low_or n 85))
    (low_or n 21))
    (low_or n 5))
    (low_or n 1)
  where
    low_or : (a b : ℕ) → (a < b) ⊎ (b ≤ a)
    low_or a b = grind arith

-- ---- what a tree's nodes have

fill_is : (bytes : List ℕ) (number place next fill level : ℕ) (rest : List Pair) → IsTail bytes number place next fill level → HoldsPairs bytes (numbered_place number) rest → length rest ≤ 32 → fill ≡ length rest
fill_is bytes number place next fill level rest tail holds few =
    let most = tail.few in
    ⊎_elim
    (λ (up : fill ≤ length rest). ⊎_elim
    (λ (down : length rest ≤ fill). omega (arith, up, down))
    (λ (less : fill < length rest). let z = tail.empty fill (omega (arith, less, few)) (omega arith) in let s = holds.slot fill (omega (arith, less, few)) less in absurd (omega (arith, z, s)))
    (order (length rest) fill))
    (λ (past : length rest < fill). absurd (tail.some (length rest) past (holds.empty (length rest) (omega (arith, past, most)) (omega arith))))
    (order fill (length rest))

fill_min : (bytes : List ℕ) (number place next fill level : ℕ) (rest : List Pair) → IsTail bytes number place next fill level → HoldsPairs bytes (numbered_place number) rest → fill ≡ min 32 (length rest)
fill_min bytes number place next fill level rest tail holds =
    let most = tail.few in
    ⊎_elim
    (λ (up : fill ≤ length rest). ⊎_elim
    (λ (all : 32 ≤ fill). omega (arith, all, most, up))
    (λ (short : fill < 32). ⊎_elim
    (λ (down : length rest ≤ fill). omega (arith, up, down, short))
    (λ (less : fill < length rest). let z = tail.empty fill short (omega arith) in let s = holds.slot fill short less in absurd (omega (arith, z, s)))
    (order (length rest) fill))
    (order 32 fill))
    (λ (past : length rest < fill). absurd (tail.some (length rest) past (holds.empty (length rest) (omega (arith, past, most)) (omega arith))))
    (order fill (length rest))

-- a tree's nodes are done
pub tree_done : (bytes loads places nexts fills : List ℕ) (ps : List Pair) → IsTree bytes ps → Verifies bytes loads places nexts fills ps → (n : ℕ) → n < 341 → IsNodeDone bytes n (get_or loads n 0) (get_or nexts n 0) (get_or fills n 0)
tree_done bytes loads places nexts fills ps tree v n small =
    let found = node_key n small in
    subst (λ (m : ℕ). IsNodeDone bytes m (get_or loads m 0) (get_or nexts m 0) (get_or fills m 0)) found.3 (at_key found.0 found.1 found.2)
  where
    at_key : (key : ℤ) (level : ℕ) → level ≤ 4 → IsNodeDone bytes (node key level) (get_or loads (node key level) 0) (get_or nexts (node key level) 0) (get_or fills (node key level) 0)
    at_key key level low =
        let each = v.counts.each key level low in
        ⊎_elim
        (λ (none : get_or loads (node key level) 0 ≤ 0).
        let z : get_or loads (node key level) 0 ≡ 0 = omega (arith, none) in
        let empty : length (reaching (goes key) level ps) ≡ 0 = zero_of level (length (reaching (goes key) level ps)) (sym each ∙ z) in
        inl (z, sym (number_node bytes key level low) ∙ zero_number key level empty))
        (λ (some : 0 < get_or loads (node key level) 0).
        let tail = v.tails key level low some in
        let hop : ℕ = hop_of level (get_or loads (node key level) 0) in
        ⊎_elim
        (λ (deep : 4 ≤ level).
        let at : level ≡ 4 = omega (arith, low, deep) in
        let load : get_or loads (node key level) 0 ≡ length (reaching (goes key) 4 ps) = each ∙ subst (λ (l : ℕ). load_of l (length (reaching (goes key) l ps)) ≡ length (reaching (goes key) 4 ps)) (sym at) refl in
        let j : ℕ = (get_or loads (node key level) 0 - 1) / 32 in
        let is : hop ≡ chain j = omega (arith, at) in
        let long : length (reaching (goes key) hop ps) ≡ length (reaching (goes key) 4 ps) - 32 * j = ap (λ (h : ℕ). length (reaching (goes key) h ps)) is ∙ chain_length key ps j in
        let next_is : suc hop ≡ chain (suc j) = omega (arith, at) in
        let after : length (reaching (goes key) (suc hop) ps) ≡ length (reaching (goes key) 4 ps) - 32 * suc j = ap (λ (h : ℕ). length (reaching (goes key) h ps)) next_is ∙ chain_length key ps (suc j) in
        let there : 0 < length (reaching (goes key) hop ps) = omega (arith, long, load, some) in
        let number = some_number key hop there in
        let fill = fill_is bytes (number_of bytes key hop) (get_or places (node key level) 0) (get_or nexts (node key level) 0) (get_or fills (node key level) 0) level (reaching (goes key) hop ps) tail ((tree.each key hop).holds number) (omega (arith, long, load, some)) in
        let onward : number_of bytes key (suc hop) ≡ next_at bytes (numbered_place (number_of bytes key hop)) = behind_chain bytes key hop (number_of bytes key hop) number (omega (arith, is)) in
        inr (some, fill ∙ omega (arith, long, load, some), tail.onward ∙ sym onward ∙ zero_number key (suc hop) (omega (arith, after, load, some))))
        (λ (upper : level < 4).
        let load = load_upper level (length (reaching (goes key) level ps)) upper in
        let is : hop ≡ level = omega (arith, each, load) in
        let same : length (reaching (goes key) hop ps) ≡ length (reaching (goes key) level ps) = ap (λ (h : ℕ). length (reaching (goes key) h ps)) is in
        let there : 0 < length (reaching (goes key) hop ps) = omega (arith, same, each, load, some) in
        let number = some_number key hop there in
        inr (some, upper_fill key level hop (get_or loads (node key level) 0) tail ((tree.each key hop).holds number) same each load there, tail.upper upper))
        (order 4 level))
        (order (get_or loads (node key level) 0) 0)
      where
        zero_of : (l m : ℕ) → load_of l m ≡ 0 → m ≡ 0
        zero_of zero m e = omega (arith, e)
        zero_of (suc zero) m e = omega (arith, e)
        zero_of (suc (suc zero)) m e = omega (arith, e)
        zero_of (suc (suc (suc zero))) m e = omega (arith, e)
        zero_of (suc (suc (suc (suc l)))) m e = e

        zero_number : (k : ℤ) (h : ℕ) → length (reaching (goes k) h ps) ≡ 0 → number_of bytes k h ≡ 0
        zero_number k h z = ⊎_elim (λ (y : number_of bytes k h ≤ 0). omega (arith, y)) (λ (y : 0 < number_of bytes k h). let s = (tree.each k h).some (λ e. omega (arith, e, y)) in absurd (omega (arith, s, z))) (order (number_of bytes k h) 0)

        some_number : (k : ℤ) (h : ℕ) → 0 < length (reaching (goes k) h ps) → number_of bytes k h ≢ 0
        some_number k h s = λ z. let e : length (reaching (goes k) h ps) ≡ 0 = ap length ((tree.each k h).none z) in omega (arith, e, s)

        upper_fill : (k : ℤ) (l h load : ℕ) → IsTail bytes (number_of bytes k h) (get_or places (node k l) 0) (get_or nexts (node k l) 0) (get_or fills (node k l) 0) l → HoldsPairs bytes (numbered_place (number_of bytes k h)) (reaching (goes k) h ps) →
            length (reaching (goes k) h ps) ≡ length (reaching (goes k) l ps) → load ≡ load_of l (length (reaching (goes k) l ps)) → load_of l (length (reaching (goes k) l ps)) ≡ min 32 (length (reaching (goes k) l ps)) → 0 < length (reaching (goes k) h ps) → get_or fills (node k l) 0 ≡ (load - 1) % 32 + 1
        upper_fill k l h load tail holds same each min_is there = let fill = fill_min bytes (number_of bytes k h) (get_or places (node k l) 0) (get_or nexts (node k l) 0) (get_or fills (node k l) 0) l (reaching (goes k) h ps) tail holds in omega (arith, fill, same, each, min_is, there)

-- ---- the heads

pub are_heads : (bytes heads : List ℕ) → heads ≡ slice_range bytes 0 683 → AreHeads heads bytes
are_heads bytes heads is n small = u16_same heads bytes (2 * n) (2 * n) (λ i h. part_same bytes heads 0 683 (2 * n) 2 is (omega arith) i h ∙ (let e : 0 + 2 * n + i ≡ 2 * n + i = omega arith in ap (λ (j : ℕ). get_or bytes j 0) e))

pub head_mark : (bytes heads : List ℕ) → heads ≡ slice_range bytes 0 683 → slice_index heads 682 ≡ slice_index bytes 682
head_mark bytes heads is = part_same bytes heads 0 683 682 1 is (omega arith) 0 (omega arith)

-- the answers of the nodes are those of the file
pub done_heads : (bytes heads : List ℕ) (n load next fill : ℕ) → AreHeads heads bytes → n < 341 → ((load ≡ 0) × (u16_at heads (2 * n) ≡ 0)) ⊎ ((0 < load) × (fill ≡ (load - 1) % 32 + 1) × (next ≡ 0)) → IsNodeDone bytes n load next fill
done_heads bytes heads n load next fill are small (inl x) = inl (x.0, sym (are n (omega (arith, small))) ∙ x.1)
done_heads bytes heads n load next fill are small (inr x) = inr x

pub heads_done : (bytes heads : List ℕ) (n load next fill : ℕ) → AreHeads heads bytes → n < 341 → IsNodeDone bytes n load next fill → ((load ≡ 0) × (u16_at heads (2 * n) ≡ 0)) ⊎ ((0 < load) × (fill ≡ (load - 1) % 32 + 1) × (next ≡ 0))
heads_done bytes heads n load next fill are small (inl x) = inl (x.0, are n (omega (arith, small)) ∙ x.1)
heads_done bytes heads n load next fill are small (inr x) = inr x
