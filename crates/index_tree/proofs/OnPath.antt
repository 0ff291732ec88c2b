-- Which buckets of a tree's file lie on the path of a key, and places in them.
use Rattle.std.proofs.lemmas.Grind.{common_steps}
use Rattle.std.proofs.Common.{◌≡◌, ◌≢◌, ◌≤◌, ◌<◌, ◌+◌, ◌*◌, ◌-◌, ◌/◌, add-one, ℕ, ℤ, zero, suc, List, [], ◌∷◌, length, drop, get_or, Bool, true, false, cond, refl, arith, ap, ◌∙◌, sym, ⊎_elim, subst}
use Rattle.std.specs.Prelude.{◌&&◌, nat_le}
use Rattle.std.specs.List.{filter}
use Rattle.std.proofs.lemmas.Bool.Decides.{nat_tests}
use Rattle.afl_base.specs.Fields.{u16_at}
use Rattle.afl_base.specs.Keys.{key_in}
use Rattle.db_model.specs.HashTree.{node}
use Rattle.index_tree.specs.Ends.{spot_of}
use Rattle.index_tree.specs.Pairs.{Pair, goes, has_key, no_pair, reaching}
use Rattle.index_tree.specs.Places.{IsPlaceAt, SlotsRise, is_wanted}
use Rattle.index_tree.specs.Rules.{MeetsRules}
use Rattle.index_tree.specs.TreeFile.{HoldsPairs, IsTree, bucket_place, key_at, next_at, next_number, number_of, numbered_place, slot_at}
use Rattle.index_tree.specs.Trees.{IsTreeOf, numbered}
use Rattle.index_tree.proofs.Added.{number_same}
use Rattle.index_tree.proofs.Converse.{earlier_less, in_get, reach_goes, rises_index}
use Rattle.index_tree.proofs.Filters.{In}
use Rattle.index_tree.proofs.Law.{tree_of_rules}
use Rattle.index_tree.proofs.Numbered.{keys_first, numbered_length, rises_numbered}
use Rattle.index_tree.proofs.PutBucket.{behind_chain}
use Rattle.index_tree.proofs.Reach.{filter_weaker}
use Rattle.index_tree.proofs.Shared.{Full, Same, empty_next, empty_on, full_or_room, goes_self, order, rises_reach, same_way}
use Rattle.index_tree.proofs.Spots.{chain_same, digit_same, node_same}
use Rattle.index_tree.proofs.Stays.{goes_wanted}

-- ---- numbers along a path

-- a node's number stands at its own place, whatever stands before
pub node_number : (bytes : List ℕ) (key : ℤ) (level : ℕ) → level ≤ 4 → number_of bytes key level ≡ u16_at bytes (2 * node key level)
node_number bytes key zero low = refl
node_number bytes key (suc zero) low = refl
node_number bytes key (suc (suc zero)) low = refl
node_number bytes key (suc (suc (suc zero))) low = refl
node_number bytes key (suc (suc (suc (suc zero)))) low = refl
node_number bytes key (suc (suc (suc (suc (suc level))))) low = absurd (omega arith)

pub node_spot : (bytes : List ℕ) (key : ℤ) (level : ℕ) → level ≤ 4 → spot_of bytes key level ≡ 2 * node key level
node_spot bytes key zero low = refl
node_spot bytes key (suc zero) low = refl
node_spot bytes key (suc (suc zero)) low = refl
node_spot bytes key (suc (suc (suc zero))) low = refl
node_spot bytes key (suc (suc (suc (suc zero)))) low = refl
node_spot bytes key (suc (suc (suc (suc (suc level))))) low = absurd (omega arith)

pub chain_number : (bytes : List ℕ) (key : ℤ) (number hop : ℕ) → number ≡ number_of bytes key hop → number ≢ 0 → 4 ≤ hop → number_of bytes key (hop + 1) ≡ next_at bytes (numbered_place number)
chain_number bytes key number hop there some far = rw add-one (ap (next_number bytes key hop) (sym there) ∙ behind_chain bytes key hop number some far)

-- where a bucket stands, those before it are full
pub full_to : (bytes : List ℕ) (ps : List Pair) (key : ℤ) (hop : ℕ) → IsTree bytes ps → number_of bytes key hop ≢ 0 → Full key ps hop
full_to bytes ps key hop tree some =
    ⊎_elim
    (λ (full : Full key ps hop). full)
    (λ (found : (i : ℕ) × (i < hop) × Full key ps i × (length (reaching (goes key) i ps) < 32)).
    let less : found.0 < hop = found.1 in
    let few : length (reaching (goes key) found.0 ps) < 32 = found.3 in
    let empty = empty_on (goes key) ps (suc found.0) hop (empty_next (goes key) ps found.0 (omega (arith, few))) (omega (arith, less)) in
    let none : length (reaching (goes key) hop ps) ≡ 0 = ap length empty in
    let more : 0 < length (reaching (goes key) hop ps) = (tree.each key hop).some some in
    absurd (omega (arith, more, none)))
    (full_or_room key ps hop)

-- ---- buckets of the file

-- keys of one lowest node have one path
ways_of : (a b : ℤ) → node a 4 ≡ node b 4 → (i : ℕ) → Same a b i
ways_of a b e i = grind (arith, common_steps, chain_same, digit_same, node_same, order)

pub path_same : (bytes : List ℕ) (a b : ℤ) (hop : ℕ) → node a 4 ≡ node b 4 → number_of bytes a hop ≡ number_of bytes b hop
path_same bytes a b hop e = number_same bytes a b hop (λ i h. ways_of a b e i)

rules_of : (bytes : List ℕ) (keys : List ℤ) → IsTreeOf bytes keys → MeetsRules bytes (key_in keys) (length keys)
rules_of bytes keys tree =
    let few : length keys ≤ 32768 = (let long = numbered_length 0 keys in let most = tree.few in omega (arith, long, most)) in
    tree_of_rules bytes (key_in keys) (length keys) few (subst (λ (ks : List ℤ). IsTreeOf bytes ks) (sym (keys_first keys)) tree)

inside : (size n : ℕ) → n ≢ 0 → bucket_place n ≤ size → n - 1 < (size - 683) / 195
inside size n s w = omega (arith, s, w)

back : (n : ℕ) → n ≢ 0 → n - 1 + 1 ≡ n
back n s = omega (arith, s)

-- each key of a bucket on a path has that bucket at the same hop
pair_goes : (bytes : List ℕ) (ps : List Pair) (key : ℤ) (hop number pair : ℕ) → IsTree bytes ps → number_of bytes key hop ≡ number → number ≢ 0 → pair < 32 → slot_at bytes (numbered_place number) pair ≢ 0 → number_of bytes (key_at bytes (numbered_place number) pair) hop ≡ number
pair_goes bytes ps key hop number pair tree there some short filled =
    let xs : List Pair = reaching (goes key) hop ps in
    let p : Pair = get_or xs pair no_pair in
    let here : number_of bytes key hop ≢ 0 = λ z. some (sym there ∙ z) in
    let holds : HoldsPairs bytes (numbered_place number) xs = subst (λ (n : ℕ). HoldsPairs bytes (numbered_place n) xs) there ((tree.each key hop).holds here) in
    let within : pair < length xs = ⊎_elim (λ (out : length xs ≤ pair). absurd (filled (holds.empty pair short out))) (λ (x : pair < length xs). x) (order (length xs) pair) in
    ap (λ (k : ℤ). number_of bytes k hop) (holds.key pair short within)
    ∙ sym (number_same bytes key p.key hop (λ i h. same_way key p.key i p (reach_goes (goes key) ps p hop i h (in_get xs pair within)) (goes_self p.key i p refl)))
    ∙ there

-- a bucket lies on the path of each of its keys
pub pair_on_path : (bytes : List ℕ) (keys : List ℤ) (key : ℤ) (number pair : ℕ) → IsTreeOf bytes keys → number ≢ 0 → bucket_place number ≤ length bytes → pair < 32 → slot_at bytes (numbered_place number) pair ≢ 0 → key_at bytes (numbered_place number) pair ≡ key → (hop : ℕ) × (number ≡ number_of bytes key hop)
pair_on_path bytes keys key number pair tree some within short filled is =
    let rules : MeetsRules bytes (key_in keys) (length keys) = rules_of bytes keys tree in
    let own = rules.owned (number - 1) (inside (length bytes) number some within) in
    let hop : ℕ = own.1 in
    let there : number_of bytes own.0 hop ≡ number = own.2 ∙ back number some in
    (hop, sym (pair_goes bytes (numbered 0 keys) own.0 hop number pair tree there some short filled) ∙ ap (λ (k : ℤ). number_of bytes k hop) is)

-- a bucket whose first key has the lowest node of a key lies on the path of that key
pub bucket_on_path : (bytes : List ℕ) (keys : List ℤ) (key : ℤ) (number : ℕ) → IsTreeOf bytes keys → number ≢ 0 → bucket_place number ≤ length bytes → node (key_at bytes (numbered_place number) 0) 4 ≡ node key 4 → (hop : ℕ) × (number ≡ number_of bytes key hop)
bucket_on_path bytes keys key number tree some within same =
    let first = (rules_of bytes keys tree).some (number - 1) (inside (length bytes) number some within) in
    let on = pair_on_path bytes keys (key_at bytes (numbered_place number) 0) number 0 tree some within (omega arith) first refl in
    (on.0, on.1 ∙ path_same bytes (key_at bytes (numbered_place number) 0) key on.0 same)

-- ---- a place behind a pair

not_wanted : (key : ℤ) (from : ℕ) (p : Pair) → p.slot < from → is_wanted key from p ≡ false
not_wanted key from p less =
    let past : nat_le from p.slot ≡ false = grind (arith, nat_tests) in
    rw past (never (has_key key p))
  where
    never : (b : Bool) → (b && false) ≡ false
    never true = refl
    never false = refl

-- what does not pass a test may be dropped before it
drop_none : (test : Pair → Bool) (n : ℕ) (xs : List Pair) → ((i : ℕ) → i < n → i < length xs → test (get_or xs i no_pair) ≡ false) → filter test (drop n xs) ≡ filter test xs
drop_none test zero xs fails = refl
drop_none test (suc n) [] fails = refl
drop_none test (suc n) (x ∷ xs) fails =
    drop_none test n xs (λ i h k. fails (suc i) (omega (arith, h)) (omega (arith, k))) ∙ sym (skipped (test x) (fails 0 (omega arith) (omega arith)))
  where
    skipped : (b : Bool) → b ≡ false → cond b (x ∷ filter test xs) (filter test xs) ≡ filter test xs
    skipped true e = absurd cc
    skipped false e = refl

-- where a slot reaches a bucket, all later ones come in it or behind
later_reach : (ps : List Pair) (key : ℤ) (from hop : ℕ) (q : Pair) → SlotsRise ps → q.slot < from → In q (reaching (goes key) hop ps) → (h : ℕ) → h ≤ hop → filter (is_wanted key from) (reaching (goes key) h ps) ≡ filter (is_wanted key from) ps
later_reach ps key from hop q rises less there zero up = refl
later_reach ps key from hop q rises less there (suc h) up =
    filter_weaker (is_wanted key from) (goes key h) (goes_wanted key from h) (drop 32 (reaching (goes key) h ps))
    ∙ drop_none (is_wanted key from) 32 (reaching (goes key) h ps) (λ i short within.
    let before = earlier_less (goes key) ps q h hop i rises (omega (arith, up)) short within there in
    not_wanted key from (get_or (reaching (goes key) h ps) i no_pair) (omega (arith, before, less)))
    ∙ later_reach ps key from hop q rises less there h (omega (arith, up))

-- behind the pair of a slot stand all later slots of a key that has that bucket on its path
pub place_behind : (bytes : List ℕ) (keys : List ℤ) (key : ℤ) (from number pair hop : ℕ) → IsTreeOf bytes keys → number ≡ number_of bytes key hop → number ≢ 0 → 0 < pair → pair ≤ 32 → 0 < from → slot_at bytes (numbered_place number) (pair - 1) ≡ from →
    IsPlaceAt bytes (numbered 0 keys) key from number pair hop
place_behind bytes keys key from number pair hop tree there some low short begun is =
    let ps : List Pair = numbered 0 keys in
    let xs : List Pair = reaching (goes key) hop ps in
    let here : number_of bytes key hop ≢ 0 = subst (λ (n : ℕ). n ≢ 0) there some in
    let holds : HoldsPairs bytes (numbered_place number) xs = subst (λ (n : ℕ). HoldsPairs bytes (numbered_place n) xs) (sym there) ((tree.each key hop).holds here) in
    let last : pair - 1 < 32 = omega (arith, low, short) in
    let within : pair - 1 < length xs = ⊎_elim
    (λ (out : length xs ≤ pair - 1). let none = holds.empty (pair - 1) last out in absurd (omega (arith, none, is, begun)))
    (λ (x : pair - 1 < length xs). x) (order (length xs) (pair - 1)) in
    let q : Pair = get_or xs (pair - 1) no_pair in
    let slot : slot_at bytes (numbered_place number) (pair - 1) ≡ q.slot + 1 = holds.slot (pair - 1) last within in
    let rises : SlotsRise ps = rises_numbered 0 keys in
    record {
      there = there;
      some = some;
      good = record { full = full_to bytes ps key hop tree here; within = omega (arith, within); short = short };
      rest =
          drop_none (is_wanted key from) pair xs (λ i h k. ⊎_elim
          (λ (at : pair - 1 ≤ i). let e : i ≡ pair - 1 = omega (arith, at, h) in not_wanted key from (get_or xs i no_pair) (let s : (get_or xs i no_pair).slot ≡ q.slot = ap (λ (j : ℕ). (get_or xs j no_pair).slot) e in omega (arith, s, slot, is)))
          (λ (below : i < pair - 1). let up = rises_index xs i (pair - 1) (rises_reach (goes key) hop ps rises) below within in not_wanted key from (get_or xs i no_pair) (omega (arith, up, slot, is)))
          (order (pair - 1) i))
          ∙ later_reach ps key from hop q rises (omega (arith, slot, is)) (in_get xs (pair - 1) within) hop (omega arith);
    }
