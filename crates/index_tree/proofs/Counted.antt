-- How many buckets there are, and how many more after an insert.
use Rattle.std.proofs.lemmas.Grind.{common_steps}
use Rattle.std.proofs.Common.{◌≡◌, ◌≤◌, ◌<◌, ◌+◌, ◌*◌, ◌-◌, ◌/◌, ◌%◌, ℕ, ℤ, zero, suc, List, [], ◌∷◌, ◌++◌, length, drop, Bool, true, false, cond, refl, arith, ap, ◌∙◌, sym, ◌⊎◌, inl, inr, ⊎_elim, subst, add-one, length-append}
use Rattle.std.specs.Prelude.{◌==◌}
use Rattle.std.specs.List.{filter}
use Rattle.std.proofs.lemmas.List.{append-nil, drop-append-le, drop_all, length-drop, map-append, length-map}
use Rattle.std.proofs.lemmas.List.Elements.{filter-append}
use Rattle.db_model.specs.HashTree.{buckets, buckets_at, digit, onward}
use Rattle.index_tree.specs.Ends.{IsPathEnd}
use Rattle.index_tree.specs.Loads.{opened_bucket}
use Rattle.index_tree.specs.Pairs.{Pair, goes, pair_keys, reaching}
use Rattle.index_tree.proofs.Shared.{Full, order}

-- ---- keys and pairs

keys_step : (b : Bool) (p : Pair) (ps : List Pair) (ks : List ℤ) → pair_keys ps ≡ ks → pair_keys (cond b (p ∷ ps) ps) ≡ cond b (p.key ∷ ks) ks
keys_step true p ps ks e = ap (λ (xs : List ℤ). p.key ∷ xs) e
keys_step false p ps ks e = e

keys-filter : (test : ℤ → Bool) (ps : List Pair) → pair_keys (filter (λ (p : Pair). test p.key) ps) ≡ filter test (pair_keys ps)
keys-filter test [] = refl
keys-filter test (p ∷ ps) = keys_step (test p.key) p (filter (λ (q : Pair). test q.key) ps) (filter test (pair_keys ps)) (keys-filter test ps)

keys-drop : (n : ℕ) (ps : List Pair) → pair_keys (drop n ps) ≡ drop n (pair_keys ps)
keys-drop zero ps = refl
keys-drop (suc n) [] = refl
keys-drop (suc n) (p ∷ ps) = keys-drop n ps

pub length-keys : (ps : List Pair) → length (pair_keys ps) ≡ length ps
length-keys ps = length-map ps (λ (p : Pair). p.key)

-- the keys that go on are those of the pairs
keys_onward : (key : ℤ) (level : ℕ) (ps : List Pair) → level < 4 → pair_keys (reaching (goes key) (suc level) ps) ≡ onward level (digit key level) (pair_keys (reaching (goes key) level ps))
keys_onward key zero ps h = keys-filter (λ k. digit k 0 == digit key 0) (drop 32 (reaching (goes key) 0 ps)) ∙ ap (filter (λ k. digit k 0 == digit key 0)) (keys-drop 32 (reaching (goes key) 0 ps))
keys_onward key (suc zero) ps h = keys-filter (λ k. digit k 1 == digit key 1) (drop 32 (reaching (goes key) 1 ps)) ∙ ap (filter (λ k. digit k 1 == digit key 1)) (keys-drop 32 (reaching (goes key) 1 ps))
keys_onward key (suc (suc zero)) ps h = keys-filter (λ k. digit k 2 == digit key 2) (drop 32 (reaching (goes key) 2 ps)) ∙ ap (filter (λ k. digit k 2 == digit key 2)) (keys-drop 32 (reaching (goes key) 2 ps))
keys_onward key (suc (suc (suc zero))) ps h = keys-filter (λ k. digit k 3 == digit key 3) (drop 32 (reaching (goes key) 3 ps)) ∙ ap (filter (λ k. digit k 3 == digit key 3)) (keys-drop 32 (reaching (goes key) 3 ps))
keys_onward key (suc (suc (suc (suc more)))) ps h = absurd (omega arith)

-- ---- the four ways

pub digit_small : (key : ℤ) (level : ℕ) → digit key level < 4
digit_small key zero = omega arith
digit_small key (suc zero) = omega arith
digit_small key (suc (suc zero)) = omega arith
digit_small key (suc (suc (suc more))) = omega arith

pub ways : (d : ℕ) → d < 4 → (d ≡ 0) ⊎ ((d ≡ 1) ⊎ ((d ≡ 2) ⊎ (d ≡ 3)))
ways zero h = inl refl
ways (suc zero) h = inr (inl refl)
ways (suc (suc zero)) h = inr (inr (inl refl))
ways (suc (suc (suc zero))) h = inr (inr (inr refl))
ways (suc (suc (suc (suc d)))) h = absurd (omega arith)

abbrev below : ℕ → ℕ → (ℕ → List ℤ) → ℕ
below above level f = buckets_at above level (f 0) + buckets_at above level (f 1) + buckets_at above level (f 2) + buckets_at above level (f 3)

bucket_sum : (above level : ℕ) (keys : List ℤ) → 0 < length keys → buckets_at (suc above) level keys ≡ 1 + below above (level + 1) (λ d. onward level d keys)
bucket_sum above level [] h = absurd (omega arith)
bucket_sum above level (k ∷ keys) h = omega arith

no_buckets : (above level : ℕ) → buckets_at above level [] ≡ 0
no_buckets zero level = refl
no_buckets (suc above) level = refl

-- fewer than 32 stay in the bucket
none_onward : (level d : ℕ) (keys : List ℤ) → length keys ≤ 32 → onward level d keys ≡ []
none_onward level d keys few = ap (filter (λ key. digit key level == d)) (drop_all 32 keys few)

bucket_alone : (above level : ℕ) (keys : List ℤ) → 0 < length keys → length keys ≤ 32 → buckets_at (suc above) level keys ≡ 1
bucket_alone above level keys some few =
    let none = no_buckets above (level + 1) in
    bucket_sum above level keys some
    ∙ rw (none_onward level 0 keys few, none_onward level 1 keys few, none_onward level 2 keys few, none_onward level 3 keys few, none) refl

onward_one : (level d : ℕ) (keys : List ℤ) (k : ℤ) → 32 ≤ length keys → onward level d (keys ++ k ∷ []) ≡ onward level d keys ++ filter (λ key. digit key level == d) (k ∷ [])
onward_one level d keys k full = ap (filter (λ key. digit key level == d)) (drop-append-le 32 keys (k ∷ []) full) ∙ filter-append (λ key. digit key level == d) (drop 32 keys) (k ∷ [])

onward_here : (level d : ℕ) (keys : List ℤ) (k : ℤ) → 32 ≤ length keys → (digit k level == d) ≡ true → onward level d (keys ++ k ∷ []) ≡ onward level d keys ++ k ∷ []
onward_here level d keys k full mine = onward_one level d keys k full ∙ rw mine refl

onward_other : (level d : ℕ) (keys : List ℤ) (k : ℤ) → 32 ≤ length keys → (digit k level == d) ≡ false → onward level d (keys ++ k ∷ []) ≡ onward level d keys
onward_other level d keys k full other = onward_one level d keys k full ∙ rw other (append-nil (onward level d keys))

is_digit : (k : ℤ) (level d e : ℕ) → digit k level ≡ d → (digit k level == e) ≡ (d == e)
is_digit k level d e is = rw is refl

-- one more in a full bucket goes on in one of the four ways
abbrev Passes : ℕ → ℕ → List ℤ → ℤ → ℕ → Type 0
Passes above level keys k d = below above (level + 1) (λ e. onward level e (keys ++ k ∷ [])) + buckets_at above (level + 1) (onward level d keys) ≡ below above (level + 1) (λ e. onward level e keys) + buckets_at above (level + 1) (onward level d keys ++ k ∷ [])

passes : (above level : ℕ) (keys : List ℤ) (k : ℤ) → 32 ≤ length keys → Passes above level keys k (digit k level)
passes above level keys k full =
    ⊎_elim
    (λ (e : digit k level ≡ 0). subst (λ (d : ℕ). Passes above level keys k d) (sym e)
    (rw (onward_here level 0 keys k full (is_digit k level 0 0 e), onward_other level 1 keys k full (is_digit k level 0 1 e), onward_other level 2 keys k full (is_digit k level 0 2 e), onward_other level 3 keys k full (is_digit k level 0 3 e)) (omega arith)))
    (λ (rest : (digit k level ≡ 1) ⊎ ((digit k level ≡ 2) ⊎ (digit k level ≡ 3))). ⊎_elim
    (λ (e : digit k level ≡ 1). subst (λ (d : ℕ). Passes above level keys k d) (sym e)
    (rw (onward_other level 0 keys k full (is_digit k level 1 0 e), onward_here level 1 keys k full (is_digit k level 1 1 e), onward_other level 2 keys k full (is_digit k level 1 2 e), onward_other level 3 keys k full (is_digit k level 1 3 e)) (omega arith)))
    (λ (more : (digit k level ≡ 2) ⊎ (digit k level ≡ 3)). ⊎_elim
    (λ (e : digit k level ≡ 2). subst (λ (d : ℕ). Passes above level keys k d) (sym e)
    (rw (onward_other level 0 keys k full (is_digit k level 2 0 e), onward_other level 1 keys k full (is_digit k level 2 1 e), onward_here level 2 keys k full (is_digit k level 2 2 e), onward_other level 3 keys k full (is_digit k level 2 3 e)) (omega arith)))
    (λ (e : digit k level ≡ 3). subst (λ (d : ℕ). Passes above level keys k d) (sym e)
    (rw (onward_other level 0 keys k full (is_digit k level 3 0 e), onward_other level 1 keys k full (is_digit k level 3 1 e), onward_other level 2 keys k full (is_digit k level 3 2 e), onward_here level 3 keys k full (is_digit k level 3 3 e)) (omega arith)))
    more)
    rest)
    (ways (digit k level) (digit_small k level))

-- ---- one key more

pub opened_some : (n : ℕ) → 0 < n → opened_bucket n ≡ 0
opened_some zero h = absurd (omega arith)
opened_some (suc n) h = refl

ceil_more : (n : ℕ) → (n + 1 + 31) / 32 ≡ (n + 31) / 32 + opened_bucket (n % 32)
ceil_more n = grind (arith, common_steps, opened_some, order)

pub all_stay : (ps : List Pair) → filter (λ (p : Pair). true) ps ≡ ps
all_stay [] = refl
all_stay (p ∷ ps) = ap (λ xs. p ∷ xs) (all_stay ps)

-- a chain holds what reaches its node, 32 in each bucket
abbrev pub chain : ℕ → ℕ
chain j = suc (suc (suc (suc j)))

pub reach_chain : (key : ℤ) (ps : List Pair) (j : ℕ) → Full key ps (chain j) → length (reaching (goes key) 4 ps) ≡ 32 * j + length (reaching (goes key) (chain j) ps)
reach_chain key ps zero full = omega arith
reach_chain key ps (suc j) full =
    let before = reach_chain key ps j (λ i h. full i (omega arith)) in
    let enough : 32 ≤ length (reaching (goes key) (chain j) ps) = full (chain j) (omega arith) in
    let next : length (reaching (goes key) (chain (suc j)) ps) ≡ length (drop 32 (reaching (goes key) (chain j) ps)) = ap length (all_stay (drop 32 (reaching (goes key) (chain j) ps))) in
    let cut = length-drop 32 (reaching (goes key) (chain j) ps) in
    omega (arith, before, enough, next, cut)

length_one : (ks : List ℤ) (k : ℤ) → length (ks ++ k ∷ []) ≡ length ks + 1
length_one ks k = length-append ks (k ∷ [])

counts : (above level : ℕ) (ps : List Pair) (key : ℤ) (hop : ℕ) → above + level ≡ 4 → level ≤ hop → Full key ps hop → length (reaching (goes key) hop ps) < 32 →
    buckets_at above level (pair_keys (reaching (goes key) level ps) ++ key ∷ []) ≡ buckets_at above level (pair_keys (reaching (goes key) level ps)) + opened_bucket (length (reaching (goes key) hop ps))
counts zero level ps key hop deep on full room =
    let at : level ≡ 4 = omega arith in
    let ks : List ℤ = pair_keys (reaching (goes key) level ps) in
    let one : length (ks ++ key ∷ []) ≡ length ks + 1 = length_one ks key in
    let far : hop ≡ chain (hop - 4) = omega arith in
    let long = reach_chain key ps (hop - 4) (subst (λ (h : ℕ). Full key ps h) far full) in
    let here : length ks ≡ 32 * (hop - 4) + length (reaching (goes key) hop ps) = length-keys (reaching (goes key) level ps) ∙ rw (at) (subst (λ (h : ℕ). length (reaching (goes key) 4 ps) ≡ 32 * (hop - 4) + length (reaching (goes key) h ps)) (sym far) long) in
    let left : length (reaching (goes key) hop ps) ≡ length ks % 32 = omega (arith, here, room) in
    rw (one, left) (ceil_more (length ks))
counts (suc above) level ps key hop deep on full room =
    let ks : List ℤ = pair_keys (reaching (goes key) level ps) in
    let len : length ks ≡ length (reaching (goes key) level ps) = length-keys (reaching (goes key) level ps) in
    let one : length (ks ++ key ∷ []) ≡ length ks + 1 = length_one ks key in
    ⊎_elim
    (λ (here : hop ≤ level).
    let at : hop ≡ level = omega arith in
    let few : length ks < 32 = rw len (subst (λ (h : ℕ). length (reaching (goes key) h ps) < 32) at room) in
    let after : buckets_at (suc above) level (ks ++ key ∷ []) ≡ 1 = bucket_alone above level (ks ++ key ∷ []) (omega arith) (omega arith) in
    rw (after, at, sym len)
    (⊎_elim
    (λ (some : 1 ≤ length ks). rw (bucket_alone above level ks some (omega arith), opened_some (length ks) some) refl)
    (λ (none : length ks < 1). (let empty = empty_of ks none in rw (empty) refl))
    (order 1 (length ks))))
    (λ (more : level < hop).
    let enough : 32 ≤ length ks = rw len (full level more) in
    let next = counts above (suc level) ps key hop (omega arith) more full room in
    let onto = keys_onward key level ps (omega arith) in
    let same : level + 1 ≡ suc level = add-one level in
    let sum = passes above level ks key enough in
    let deeper = rw (onto, sym same) at next in
    bucket_sum above level (ks ++ key ∷ []) (omega arith) ∙ omega (arith, sum, deeper, bucket_sum above level ks (omega arith)))
    (order hop level)
  where
    empty_of : (xs : List ℤ) → length xs < 1 → xs ≡ []
    empty_of [] h = refl
    empty_of (x ∷ xs) h = absurd (omega arith)

-- an insert opens a bucket exactly where nothing reaches the end of its path
pub buckets_more : (ps : List Pair) (q : Pair) (hop : ℕ) → IsPathEnd ps q.key hop → buckets (pair_keys (ps ++ q ∷ [])) ≡ buckets (pair_keys ps) + opened_bucket (length (reaching (goes q.key) hop ps))
buckets_more ps q hop end = ap buckets (map-append (λ (p : Pair). p.key) ps (q ∷ [])) ∙ counts 4 0 ps q.key hop (omega arith) (omega arith) end.full end.room

-- ---- how many buckets there may be

split_step : (level : ℕ) (k : ℤ) (a b c d n : ℕ) → a + b + c + d ≡ n → digit k level < 4 →
    a + cond (digit k level == 0) 1 0 + (b + cond (digit k level == 1) 1 0) + (c + cond (digit k level == 2) 1 0) + (d + cond (digit k level == 3) 1 0) ≡ n + 1
split_step level k a b c d n sum small = grind (arith, common_steps, ways)

length_cond : (b : Bool) (k : ℤ) (ks : List ℤ) → length (cond b (k ∷ ks) ks) ≡ length ks + cond b 1 0
length_cond true k ks = omega arith
length_cond false k ks = omega arith

abbrev way : ℕ → ℕ → List ℤ → List ℤ
way level d ks = filter (λ key. digit key level == d) ks

split : (level : ℕ) (ks : List ℤ) → length (way level 0 ks) + length (way level 1 ks) + length (way level 2 ks) + length (way level 3 ks) ≡ length ks
split level [] = refl
split level (k ∷ ks) =
    rw (length_cond (digit k level == 0) k (way level 0 ks), length_cond (digit k level == 1) k (way level 1 ks), length_cond (digit k level == 2) k (way level 2 ks), length_cond (digit k level == 3) k (way level 3 ks))
    (split_step level k (length (way level 0 ks)) (length (way level 1 ks)) (length (way level 2 ks)) (length (way level 3 ks)) (length ks) (split level ks) (digit_small k level) ∙ add-one (length ks))

-- the nodes of so many levels and one
abbrev nodes : ℕ → ℕ
nodes zero = 1
nodes (suc above) = 1 + 4 * nodes above
