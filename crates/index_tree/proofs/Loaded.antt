-- The end of a key's path by the loads of nodes, and the loads after one pair more.
use Rattle.std.proofs.Common.{◌≡◌, ◌≢◌, ◌≤◌, ◌<◌, ◌+◌, ◌*◌, ◌-◌, ◌/◌, ◌%◌, ℕ, ℤ, zero, suc, List, [], ◌∷◌, ◌++◌, length, get_or, set, replicate, refl, arith, ap, ◌∙◌, sym, ◌⊎◌, ⊎_elim, subst, length-append}
use Rattle.std.specs.Prelude.{min}
use Rattle.std.proofs.lemmas.List.{get_or_past, get_or-replicate, get_or-set_other, get_or-set_same, length-set}
use Rattle.std.proofs.lemmas.List.FromFn.{map-range_with_len_more}
use Rattle.db_model.specs.HashTree.{buckets, node}
use Rattle.index_tree.specs.Ends.{IsPathEnd}
use Rattle.index_tree.specs.Loads.{CountsPairs, IsLevel, Loads, load_of, opened_bucket}
use Rattle.index_tree.specs.Pairs.{Pair, goes, pair_keys, pair_of, pairs_of, reaching}
use Rattle.index_tree.proofs.Added.{passes_all, same_node, same_or}
use Rattle.index_tree.proofs.Counted.{buckets_more, chain, reach_chain}
use Rattle.index_tree.proofs.Reach.{deep, reach-append}
use Rattle.index_tree.proofs.Shared.{Full, Same, full_or_room, goes_self, grows, order, reach_same}
use Rattle.index_tree.proofs.Spots.{digit_same, node_same, node_small}

low_or : (m n : ℕ) → (m < n) ⊎ (n ≤ m)
low_or m n = grind arith

-- ---- loads

pub load_upper : (level n : ℕ) → level < 4 → load_of level n ≡ min 32 n
load_upper zero n h = refl
load_upper (suc zero) n h = refl
load_upper (suc (suc zero)) n h = refl
load_upper (suc (suc (suc zero))) n h = refl
load_upper (suc (suc (suc (suc more)))) n h = absurd (omega arith)

load_lowest : (level n : ℕ) → 4 ≤ level → load_of level n ≡ n
load_lowest zero n h = absurd (omega arith)
load_lowest (suc zero) n h = absurd (omega arith)
load_lowest (suc (suc zero)) n h = absurd (omega arith)
load_lowest (suc (suc (suc zero))) n h = absurd (omega arith)
load_lowest (suc (suc (suc (suc more)))) n h = refl

-- all buckets of the nodes before are full
full_level : (loads : List ℕ) (ps : List Pair) (key : ℤ) (level : ℕ) → CountsPairs loads ps → IsLevel loads key level → Full key ps level
full_level loads ps key level counts is i h =
    let low = is.low in
    let much = is.full i h in
    let each = counts.each key i (omega arith) in
    let load = load_upper i (length (reaching (goes key) i ps)) (omega arith) in
    omega (arith, much, each, load)

-- some end is there
pub end_there : (key : ℤ) (ps : List Pair) → (hop : ℕ) × IsPathEnd ps key hop
end_there key ps = ⊎_elim
    (λ (full : Full key ps (length ps + 1)). let long = deep (goes key) ps (length ps + 1) full in absurd (omega (arith, long)))
    (λ (found : (i : ℕ) × (i < length ps + 1) × Full key ps i × (length (reaching (goes key) i ps) < 32)). (found.0, record { full = found.2; room = found.3 }))
    (full_or_room key ps (length ps + 1))

-- the end of a path is at the level, or in the chain of the lowest node
pub end_level : (loads : List ℕ) (ps : List Pair) (key : ℤ) (level : ℕ) → CountsPairs loads ps → IsLevel loads key level →
    (hop : ℕ) × IsPathEnd ps key hop × (hop ≡ level + get_or loads (node key level) 0 / 32) × (length (reaching (goes key) hop ps) ≡ get_or loads (node key level) 0 % 32)
end_level loads ps key level counts is =
    let low : level ≤ 4 = is.low in
    let full = full_level loads ps key level counts is in
    let each = counts.each key level low in
    let end = end_there key ps in
    ⊎_elim
    (λ (upper : level < 4).
    let room = is.room upper in
    let load = load_upper level (length (reaching (goes key) level ps)) upper in
    (level, record { full = full; room = omega (arith, room, each, load) }, omega (arith, room), omega (arith, room, each, load)))
    (λ (lowest : 4 ≤ level).
    let at : level ≡ 4 = omega (arith, low, lowest) in
    let load = load_lowest level (length (reaching (goes key) level ps)) lowest in
    let hop : ℕ = end.0 in
    let far : 4 ≤ hop = ⊎_elim (λ (x : 4 ≤ hop). x) (λ (x : hop < 4). let much = full hop (omega (arith, at, x)) in let few = end.1.room in absurd (omega (arith, much, few))) (order 4 hop) in
    let is_chain : hop ≡ chain (hop - 4) = omega (arith, far) in
    let long = reach_chain key ps (hop - 4) (subst (λ (h : ℕ). Full key ps h) is_chain end.1.full) in
    let here : length (reaching (goes key) 4 ps) ≡ 32 * (hop - 4) + length (reaching (goes key) hop ps) = subst (λ (h : ℕ). length (reaching (goes key) 4 ps) ≡ 32 * (hop - 4) + length (reaching (goes key) h ps)) (sym is_chain) long in
    let same : length (reaching (goes key) level ps) ≡ length (reaching (goes key) 4 ps) = ap (λ (l : ℕ). length (reaching (goes key) l ps)) at in
    let room = end.1.room in
    (hop, end.1, omega (arith, at, each, load, here, same, room, far), omega (arith, each, load, here, same, room, far)))
    (low_or level 4)

-- the loads with one pair more at the level
after : List ℕ → ℤ → ℕ → List ℕ
after loads key level = set loads (node key level) (get_or loads (node key level) 0 + 1)

node_ways : (a b : ℤ) (l : ℕ) → node a l ≡ node b l → (i : ℕ) → i < l → Same a b i
node_ways a b l e i h = digit_same a b i ((node_same a b l l e).1 i h)

load_more : (level n m : ℕ) → level < 4 → n < 32 → m ≡ n + 1 → load_of level m ≡ load_of level n + 1
load_more level n m upper few is = rw (load_upper level m upper, load_upper level n upper) (omega (arith, few, is))

load_same : (level n m : ℕ) → level < 4 → 32 ≤ n → m ≡ n + 1 → load_of level m ≡ load_of level n
load_same level n m upper much is = rw (load_upper level m upper, load_upper level n upper) (omega (arith, much, is))

-- at the node itself one more
here_more : (loads : List ℕ) (ps : List Pair) (q : Pair) (level : ℕ) (key : ℤ) → CountsPairs loads ps → IsLevel loads q.key level → ((i : ℕ) → i < level → Same key q.key i) →
    load_of level (length (reaching (goes key) level (ps ++ q ∷ []))) ≡ load_of level (length (reaching (goes key) level ps)) + 1
here_more loads ps q level key counts is way =
    let low = is.low in
    let same : reaching (goes key) level ps ≡ reaching (goes q.key) level ps = reach_same key q.key ps level way in
    let full : Full key ps level = λ i h. subst (λ (xs : List Pair). 32 ≤ length xs) (sym (reach_same key q.key ps i (λ j l. way j (omega arith)))) (full_level loads ps q.key level counts is i h) in
    let grown : reaching (goes key) level (ps ++ q ∷ []) ≡ reaching (goes key) level ps ++ q ∷ [] = reach-append (goes key) ps (q ∷ []) level full ∙ ap (λ xs. reaching (goes key) level ps ++ xs) (passes_all key level q (λ i k. way i k q ∙ goes_self q.key i q refl)) in
    let sum : length (reaching (goes key) level ps ++ q ∷ []) ≡ length (reaching (goes key) level ps) + 1 = length-append (reaching (goes key) level ps) (q ∷ []) in
    let more : length (reaching (goes key) level (ps ++ q ∷ [])) ≡ length (reaching (goes key) level ps) + 1 = ap length grown ∙ sum in
    ⊎_elim
    (λ (upper : level < 4).
    let room = is.room upper in
    let each = counts.each q.key level low in
    let load = load_upper level (length (reaching (goes q.key) level ps)) upper in
    let len = ap length same in
    load_more level (length (reaching (goes key) level ps)) (length (reaching (goes key) level (ps ++ q ∷ []))) upper (omega (arith, room, each, load, len)) more)
    (λ (lowest : 4 ≤ level). load_lowest level (length (reaching (goes key) level (ps ++ q ∷ []))) lowest ∙ more ∙ ap (λ (n : ℕ). n + 1) (sym (load_lowest level (length (reaching (goes key) level ps)) lowest)))
    (low_or level 4)

-- at all others the same
other_same : (loads : List ℕ) (ps : List Pair) (q : Pair) (level : ℕ) (key : ℤ) (l : ℕ) → CountsPairs loads ps → IsLevel loads q.key level → l ≤ 4 → node key l ≢ node q.key level →
    load_of l (length (reaching (goes key) l (ps ++ q ∷ []))) ≡ load_of l (length (reaching (goes key) l ps))
other_same loads ps q level key l counts is small other = ⊎_elim
    (λ (same : reaching (goes key) l (ps ++ q ∷ []) ≡ reaching (goes key) l ps). ap (λ (xs : List Pair). load_of l (length xs)) same)
    (λ (grown : Full key ps l × (reaching (goes key) l (ps ++ q ∷ []) ≡ reaching (goes key) l ps ++ q ∷ []) × ((i : ℕ) → i < l → Same key q.key i)).
    let low = is.low in
    let sum : length (reaching (goes key) l ps ++ q ∷ []) ≡ length (reaching (goes key) l ps) + 1 = length-append (reaching (goes key) l ps) (q ∷ []) in
    let more : length (reaching (goes key) l (ps ++ q ∷ [])) ≡ length (reaching (goes key) l ps) + 1 = ap length grown.1 ∙ sum in
    let shared : reaching (goes key) l ps ≡ reaching (goes q.key) l ps = reach_same key q.key ps l grown.2 in
    ⊎_elim
    (λ (up : l ≤ level). ⊎_elim
    (λ (down : level ≤ l). let e : l ≡ level = omega (arith, up, down) in absurd (other (same_way_node key q.key l grown.2 small ∙ ap (node q.key) e)))
    (λ (less : l < level).
    let much = full_level loads ps q.key level counts is l less in
    let len = ap length shared in
    load_same l (length (reaching (goes key) l ps)) (length (reaching (goes key) l (ps ++ q ∷ []))) (omega (arith, low, less)) (omega (arith, much, len)) more)
    (order level l))
    (λ (deeper : level < l).
    let much = grown.0 level deeper in
    let len = ap length (reach_same key q.key ps level (λ i h. grown.2 i (omega (arith, h, deeper)))) in
    let room = is.room (omega (arith, deeper, small)) in
    let each = counts.each q.key level low in
    let load = load_upper level (length (reaching (goes q.key) level ps)) (omega (arith, deeper, small)) in
    absurd (omega (arith, much, len, room, each, load)))
    (order l level))
    (grows key ps q l)
  where
    same_way_node : (a b : ℤ) (h : ℕ) → ((i : ℕ) → i < h → Same a b i) → h ≤ 4 → node a h ≡ node b h
    same_way_node a b h way small_ = same_node a b h small_ way

pub counts_more : (loads : List ℕ) (ps : List Pair) (q : Pair) (level : ℕ) → CountsPairs loads ps → IsLevel loads q.key level → CountsPairs (set loads (node q.key level) (get_or loads (node q.key level) 0 + 1)) (ps ++ q ∷ [])
counts_more loads ps q level counts is =
    let n : ℕ = node q.key level in
    let v : ℕ = get_or loads n 0 + 1 in
    let small : n ≤ 340 = node_small q.key level is.low in
    let long : length loads ≡ 341 = counts.long in
    record {
      long = length-set loads n v ∙ long;
      each = λ key l h. ⊎_elim
          (λ (e : node key l ≡ n).
          let both = node_same key q.key l level e in
          let at : l ≡ level = both.0 in
          let way : (i : ℕ) → i < l → Same key q.key i = λ i k. digit_same key q.key i (both.1 i k) in
          ap (λ (j : ℕ). get_or (set loads n v) j 0) e ∙ get_or-set_same loads n v 0 (omega (arith, small, long))
          ∙ ap (λ (x : ℕ). x + 1) (ap (λ (j : ℕ). get_or loads j 0) (sym e) ∙ counts.each key l h)
          ∙ sym (subst (λ (x : ℕ). load_of x (length (reaching (goes key) x (ps ++ q ∷ []))) ≡ load_of x (length (reaching (goes key) x ps)) + 1) (sym at) (here_more loads ps q level key counts is (λ i k. way i (omega (arith, at, k))))))
          (λ (d : node key l ≢ n). get_or-set_other loads n (node key l) v 0 d ∙ counts.each key l h ∙ sym (other_same loads ps q level key l counts is h d))
          (same_or (node key l) n);
    }

pub loaded : (loads : List ℕ) (key : ℤ) (level : ℕ) → IsLevel loads key level → Loads loads (set loads (node key level) (get_or loads (node key level) 0 + 1)) key (opened_bucket (get_or loads (node key level) 0 % 32))
loaded loads key level is = record {
  counts = λ ps slot counts. counts_more loads ps (record { key = key; slot = slot }) level counts is;
  buckets = λ ps slot counts.
      let end = end_level loads ps key level counts is in
      buckets_more ps (record { key = key; slot = slot }) end.0 end.1 ∙ ap (λ (n : ℕ). buckets (pair_keys ps) + opened_bucket n) end.3;
}

pub reach_none : (key : ℤ) (l : ℕ) → reaching (goes key) l [] ≡ []
reach_none key zero = refl
reach_none key (suc l) = rw (reach_none key l) refl

pub counts_none : CountsPairs (replicate 341 0) []
counts_none = record {
  long = refl;
  each = λ key l h. let small = node_small key l h in get_or-replicate 341 (node key l) 0 0 (omega (arith, small)) ∙ sym (ap (λ (xs : List Pair). load_of l (length xs)) (reach_none key l) ∙ load_zero l);
}
  where
    load_zero : (l : ℕ) → load_of l 0 ≡ 0
    load_zero zero = refl
    load_zero (suc zero) = refl
    load_zero (suc (suc zero)) = refl
    load_zero (suc (suc (suc zero))) = refl
    load_zero (suc (suc (suc (suc l)))) = refl

pub loads_some : (old : List ℕ) (key : ℤ) (level n v opens : ℕ) → IsLevel old key level → n ≡ node key level → v ≡ get_or old n 0 + 1 → opens ≡ opened_bucket (get_or old n 0 % 32) → Loads old (set old n v) key opens
loads_some old key level n v opens is at value opens_is = rw (opens_is, value, at) (loaded old key level is)

pub pairs_more : (key : ℕ → ℤ) (slot : ℕ) → pairs_of key (slot + 1) ≡ pairs_of key slot ++ record { key = key slot; slot = slot } ∷ []
pairs_more key slot = map-range_with_len_more (pair_of key) 0 slot slot (omega arith)

pub opened_none : (n : ℕ) → n ≡ 0 → 1 ≡ opened_bucket n
opened_none n e = rw e refl

pub opened_some : (n : ℕ) → n ≢ 0 → 0 ≡ opened_bucket n
opened_some zero s = absurd (s refl)
opened_some (suc n) s = refl

pub zeros_few : (i n : ℕ) → get_or (replicate 341 0) i 0 ≤ n
zeros_few i n = ⊎_elim
    (λ (inside : i < 341). let z = get_or-replicate {A = ℕ} 341 i 0 0 inside in omega (arith, z))
    (λ (past : 341 ≤ i). let z = get_or_past {X = ℕ} (replicate 341 0) i 0 past in omega (arith, z))
    (low_or i 341)

-- one slot more
pub loads_more : (old new : List ℕ) (f : ℕ → ℤ) (slot n opens : ℕ) (key : ℤ) → Loads old new key opens → key ≡ f slot → CountsPairs old (pairs_of f slot) × (n ≡ buckets (pair_keys (pairs_of f slot))) →
    CountsPairs new (pairs_of f (slot + 1)) × (n + opens ≡ buckets (pair_keys (pairs_of f (slot + 1))))
loads_more old new f slot n opens key loads is before =
    let one : record { key = key; slot = slot } ≡ pair_of f slot = ap (λ (z : ℤ). record { key = z; slot = slot }) is in
    let all : pairs_of f (slot + 1) ≡ pairs_of f slot ++ record { key = key; slot = slot } ∷ [] = pairs_more f slot ∙ ap (λ (p : Pair). pairs_of f slot ++ p ∷ []) (sym one) in
    rw all (loads.counts (pairs_of f slot) slot before.0, rw before.1 (sym (loads.buckets (pairs_of f slot) slot before.0)))
