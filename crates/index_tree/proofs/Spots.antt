-- Places of the file that lie apart.
use Rattle.std.proofs.lemmas.Grind.{common_steps}
use Rattle.std.proofs.Common.{◌≡◌, ◌≢◌, ◌≤◌, ◌<◌, ◌+◌, ◌*◌, ◌-◌, ℕ, ℤ, zero, suc, List, length, get_or, refl, arith, ap, ◌∙◌, sym, ◌⊎◌, inl, inr, ⊎_elim, subst}
use Rattle.std.specs.Prelude.{slice_index}
use Rattle.afl_base.specs.Fields.{i32_at, put_at, u16_at}
use Rattle.db_model.specs.HashTree.{digit, node}
use Rattle.index_tree.specs.TreeFile.{next_number, next_at, number_of, numbered_place}
use Rattle.index_tree.proofs.Counted.{digit_small}
use Rattle.index_tree.proofs.Frames.{i32_same, put_outside, u16_same}
use Rattle.index_tree.proofs.Shared.{Same, order}

-- ---- nodes

pub node_small : (key : ℤ) (h : ℕ) → h ≤ 4 → node key h ≤ 340
node_small key zero k = omega arith
node_small key (suc zero) k = let a = digit_small key 0 in omega arith
node_small key (suc (suc zero)) k = let a = digit_small key 0 in let b = digit_small key 1 in omega arith
node_small key (suc (suc (suc zero))) k = let a = digit_small key 0 in let b = digit_small key 1 in let c = digit_small key 2 in omega arith
node_small key (suc (suc (suc (suc zero)))) k = let a = digit_small key 0 in let b = digit_small key 1 in let c = digit_small key 2 in let d = digit_small key 3 in omega arith
node_small key (suc (suc (suc (suc (suc h))))) k = absurd (omega arith)

-- a node has one way to it
pub node_same : (a b : ℤ) (h k : ℕ) → node a h ≡ node b k → (h ≡ k) × ((i : ℕ) → i < h → digit a i ≡ digit b i)
node_same a b zero zero e = (refl, λ i j. absurd (omega arith))
node_same a b zero (suc k) e = absurd (omega arith)
node_same a b (suc h) zero e = absurd (omega arith)
node_same a b (suc h) (suc k) e =
    let x = digit_small a h in
    let y = digit_small b k in
    let up : node a h ≡ node b k = omega (arith, e, x, y) in
    let last : digit a h ≡ digit b k = omega (arith, e, x, y) in
    let before = node_same a b h k up in
    let same : h ≡ k = before.0 in
    (omega arith, λ i j. ⊎_elim (λ (here : h ≤ i). let is : i ≡ h = omega arith in rw is (last ∙ ap (digit b) (sym same))) (λ (less : i < h). before.1 i less) (order h i))

pub digit_same : (a b : ℤ) (i : ℕ) → digit a i ≡ digit b i → Same a b i
digit_same a b zero e = λ p. rw e refl
digit_same a b (suc zero) e = λ p. rw e refl
digit_same a b (suc (suc zero)) e = λ p. rw e refl
digit_same a b (suc (suc (suc zero))) e = λ p. rw e refl
digit_same a b (suc (suc (suc (suc i)))) e = λ p. refl

pub chain_same : (a b : ℤ) (i : ℕ) → 4 ≤ i → Same a b i
chain_same a b zero h = absurd (omega arith)
chain_same a b (suc zero) h = absurd (omega arith)
chain_same a b (suc (suc zero)) h = absurd (omega arith)
chain_same a b (suc (suc (suc zero))) h = absurd (omega arith)
chain_same a b (suc (suc (suc (suc i)))) h = λ p. refl

-- ---- buckets

pub apart_places : (n m x y k l : ℕ) → n ≢ 0 → m ≢ 0 → n ≢ m → x + k ≤ 195 → y + l ≤ 195 → (numbered_place n + x + k ≤ numbered_place m + y) ⊎ (numbered_place m + y + l ≤ numbered_place n + x)
apart_places n m x y k l some more other a b = grind (arith, common_steps, order)

-- ---- fields that stay

pub u16_stays : (xs w : List ℕ) (at p : ℕ) → at + length w ≤ length xs → (p + 2 ≤ at) ⊎ (at + length w ≤ p) → u16_at (put_at xs at w) p ≡ u16_at xs p
u16_stays xs w at p fits apart = u16_same (put_at xs at w) xs p p (put_outside xs w at p 2 fits apart)

pub i32_stays : (xs w : List ℕ) (at p : ℕ) → at + length w ≤ length xs → (p + 4 ≤ at) ⊎ (at + length w ≤ p) → i32_at (put_at xs at w) p ≡ i32_at xs p
i32_stays xs w at p fits apart = i32_same (put_at xs at w) xs p p (put_outside xs w at p 4 fits apart)

pub byte_stays : (xs w : List ℕ) (at p : ℕ) → at + length w ≤ length xs → (p + 1 ≤ at) ⊎ (at + length w ≤ p) → slice_index (put_at xs at w) p ≡ slice_index xs p
byte_stays xs w at p fits apart = let e : p ≡ p + 0 = omega arith in subst (λ (j : ℕ). get_or (put_at xs at w) j 0 ≡ get_or xs j 0) (sym e) (put_outside xs w at p 1 fits apart 0 (omega arith))

-- ---- numbers

-- the numbers behind a bucket stay
pub behind_stays : (old new : List ℕ) (key : ℤ) (h n : ℕ) → ((p : ℕ) → p + 2 ≤ 682 → u16_at new p ≡ u16_at old p) → (n ≢ 0 → next_at new (numbered_place n) ≡ next_at old (numbered_place n)) → next_number new key h n ≡ next_number old key h n
behind_stays old new key zero n heads next = let small = node_small key 1 (omega arith) in heads (2 * node key 1) (omega arith)
behind_stays old new key (suc zero) n heads next = let small = node_small key 2 (omega arith) in heads (2 * node key 2) (omega arith)
behind_stays old new key (suc (suc zero)) n heads next = let small = node_small key 3 (omega arith) in heads (2 * node key 3) (omega arith)
behind_stays old new key (suc (suc (suc zero))) n heads next = let small = node_small key 4 (omega arith) in heads (2 * node key 4) (omega arith)
behind_stays old new key (suc (suc (suc (suc h)))) zero heads next = refl
behind_stays old new key (suc (suc (suc (suc h)))) (suc b) heads next = let e : suc b - 1 ≡ b = omega arith in rw e at (next (λ z. omega arith))

pub numbers_stay : (old new : List ℕ) → ((p : ℕ) → p + 2 ≤ 682 → u16_at new p ≡ u16_at old p) → ((n : ℕ) → n ≢ 0 → next_at new (numbered_place n) ≡ next_at old (numbered_place n)) → (key : ℤ) (h : ℕ) → number_of new key h ≡ number_of old key h
numbers_stay old new heads next key zero = heads 0 (omega arith)
numbers_stay old new heads next key (suc h) = ap (next_number new key h) (numbers_stay old new heads next key h) ∙ behind_stays old new key h (number_of old key h) heads (next (number_of old key h))
