-- What is counted is the buckets of some tree, also where no bytes are told.
use Rattle.std.proofs.Common.{◌≡◌, ◌≤◌, ◌+◌, ℕ, ℤ, List, [], ◌∷◌, ◌++◌, length, replicate, refl, arith, ap, ◌∙◌, sym, length-append}
use Rattle.index_tree.specs.Loads.{Loads}
use Rattle.index_tree.specs.Pairs.{Pair, pair_keys}
use Rattle.index_tree.proofs.Counted.{length-keys}
use Rattle.index_tree.proofs.Loaded.{counts_none}
use Rattle.index_maxheap.specs.Builds.{AreLoads}
use Rattle.db_model.proofs.Buckets.{buckets_bound}

pub loads_none : AreLoads (replicate 341 0) 0 0
loads_none = ([], refl, counts_none, refl)

pub loads_one : (old new : List ℕ) (slots n opens : ℕ) (key : ℤ) → Loads old new key opens → AreLoads old slots n → AreLoads new (slots + 1) (n + opens)
loads_one old new slots n opens key loads kept =
    let ps : List Pair = kept.0 in
    let q : Pair = record { key = key; slot = 0 } in
    (ps ++ q ∷ [], length-append ps (q ∷ []) ∙ ap (λ (m : ℕ). m + 1) kept.1, loads.counts ps 0 kept.2, ap (λ (m : ℕ). m + opens) kept.3 ∙ sym (loads.buckets ps 0 kept.2))

pub loads_few : (loads : List ℕ) (slots n : ℕ) → AreLoads loads slots n → slots ≤ 32768 → n ≤ 1365
loads_few loads slots n kept few =
    let ps : List Pair = kept.0 in
    let long : length (pair_keys ps) ≡ length ps = length-keys ps in
    let most = buckets_bound (pair_keys ps) in
    let count = kept.1 in
    let is = kept.3 in
    omega (arith, long, most, count, is, few)
