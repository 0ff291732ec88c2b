-- The pairs of a list of keys.
use Rattle.std.proofs.Common.{◌≡◌, ◌<◌, ◌+◌, ℕ, ℤ, zero, suc, List, [], ◌∷◌, ◌++◌, length, map, refl, arith, ap, ◌∙◌, sym, subst}
use Rattle.std.specs.List.{range_with_len}
use Rattle.afl_base.specs.Keys.{first_keys, key_in}
use Rattle.index_tree.specs.Pairs.{Pair, pair_keys, pair_of, pairs_of}
use Rattle.index_tree.specs.Places.{Above, SlotsRise}
use Rattle.index_tree.specs.Trees.{IsTreeOf, numbered}
use Rattle.index_tree.specs.TreeFile.{IsTree}

pub numbered_length : (n : ℕ) (ks : List ℤ) → length (numbered n ks) ≡ length ks
numbered_length n [] = refl
numbered_length n (k ∷ ks) = ap suc (numbered_length (n + 1) ks)

pub numbered-append : (n : ℕ) (xs ys : List ℤ) → numbered n (xs ++ ys) ≡ numbered n xs ++ numbered (n + length xs) ys
numbered-append n [] ys = let e : n + 0 ≡ n = omega arith in rw e refl
numbered-append n (x ∷ xs) ys =
    let e : n + 1 + length xs ≡ n + suc (length xs) = omega arith in
    ap (λ (ps : List Pair). record { key = x; slot = n } ∷ ps) (numbered-append (n + 1) xs ys ∙ ap (λ (m : ℕ). numbered (n + 1) xs ++ numbered m ys) e)

pub keys_numbered : (n : ℕ) (ks : List ℤ) → pair_keys (numbered n ks) ≡ ks
keys_numbered n [] = refl
keys_numbered n (k ∷ ks) = ap (λ (xs : List ℤ). k ∷ xs) (keys_numbered (n + 1) ks)

above_numbered : (m n : ℕ) (ks : List ℤ) → m < n → Above m (numbered n ks)
above_numbered m n [] h = tt
above_numbered m n (k ∷ ks) h = (h, above_numbered m (n + 1) ks (omega (arith, h)))

pub rises_numbered : (n : ℕ) (ks : List ℤ) → SlotsRise (numbered n ks)
rises_numbered n [] = tt
rises_numbered n (k ∷ ks) = (above_numbered n (n + 1) ks (omega arith), rises_numbered (n + 1) ks)

numbered_range : (f : ℕ → ℤ) (from n : ℕ) → numbered from (map f (range_with_len from n)) ≡ map (pair_of f) (range_with_len from n)
numbered_range f from zero = refl
numbered_range f from (suc n) = ap (λ (ps : List Pair). pair_of f from ∷ ps) (numbered_range f (from + 1) n)

-- the pairs of the first keys are those of the first slots
pub numbered_pairs : (f : ℕ → ℤ) (slots : ℕ) → numbered 0 (first_keys f slots) ≡ pairs_of f slots
numbered_pairs f slots = numbered_range f 0 slots

pub tree_of_pairs : (bytes : List ℕ) (f : ℕ → ℤ) (slots : ℕ) → IsTree bytes (pairs_of f slots) → IsTreeOf bytes (first_keys f slots)
tree_of_pairs bytes f slots tree = subst (λ (ps : List Pair). IsTree bytes ps) (sym (numbered_pairs f slots)) tree

pub tree_of_keys : (bytes : List ℕ) (f : ℕ → ℤ) (slots : ℕ) → IsTreeOf bytes (first_keys f slots) → IsTree bytes (pairs_of f slots)
tree_of_keys bytes f slots tree = subst (λ (ps : List Pair). IsTree bytes ps) (numbered_pairs f slots) tree

shifted : (f : ℕ → ℤ) (from n : ℕ) → map f (range_with_len (suc from) n) ≡ map (λ i. f (suc i)) (range_with_len from n)
shifted f from zero = refl
shifted f from (suc n) = ap (λ (ks : List ℤ). f (suc from) ∷ ks) (let e : suc from + 1 ≡ suc (from + 1) = omega arith in rw e (shifted f (from + 1) n))

-- a list of keys is that of its own first keys
pub keys_first : (keys : List ℤ) → first_keys (key_in keys) (length keys) ≡ keys
keys_first [] = refl
keys_first (k ∷ ks) = ap (λ (xs : List ℤ). k ∷ xs) (shifted (key_in (k ∷ ks)) 0 (length ks) ∙ keys_first ks)

-- one key more
pub numbered_one : (keys : List ℤ) (key : ℤ) (slot : ℕ) → length keys ≡ slot → numbered 0 (keys ++ key ∷ []) ≡ numbered 0 keys ++ record { key = key; slot = slot } ∷ []
numbered_one keys key slot e = numbered-append 0 keys (key ∷ []) ∙ ap (λ (n : ℕ). numbered 0 keys ++ record { key = key; slot = n } ∷ []) (let z : 0 + length keys ≡ length keys = omega arith in z ∙ e)

pub keys_pairs : (f : ℕ → ℤ) (slots : ℕ) → pair_keys (pairs_of f slots) ≡ first_keys f slots
keys_pairs f slots = sym (ap (λ (ps : List Pair). pair_keys ps) (numbered_pairs f slots)) ∙ keys_numbered 0 (first_keys f slots)
