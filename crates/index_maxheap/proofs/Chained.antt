-- Ends of paths, in nodes and in chains.
use Rattle.std.proofs.Common.{◌≡◌, ◌≢◌, ◌≤◌, ◌<◌, ◌+◌, ◌*◌, ◌/◌, ◌-◌, add-one, ℕ, ℤ, List, length, true, arith, ap, ◌∙◌, sym, ⊎_elim, subst}
use Rattle.std.specs.Prelude.{None, nat_eq, slice_range}
use Rattle.afl_base.specs.Fields.{i32_at, u16_at}
use Rattle.db_model.specs.Cost.{keys_beside}
use Rattle.db_model.specs.HashTree.{node}
use Rattle.index_tree.specs.Ends.{spot_of}
use Rattle.index_tree.specs.Pairs.{Pair, goes, reaching}
use Rattle.index_tree.specs.TreeFile.{IsBucket, IsTree, bucket_place, key_at, next_at, number_of, numbered_place}
use Rattle.index_tree.specs.Trees.{IsTreeOf, numbered}
use Rattle.index_tree.proofs.Added.{zero_or}
use Rattle.index_tree.proofs.Beside.{path_short}
use Rattle.index_tree.proofs.Frames.{i32_same, part_same}
use Rattle.index_tree.proofs.OnPath.{bucket_on_path, chain_number, full_to, node_number, node_spot}
use Rattle.index_tree.proofs.PutBucket.{spot_chain}
use Rattle.index_tree.proofs.Reach.{deep}
use Rattle.index_tree.proofs.Shared.{Full, order}
use Rattle.index_maxheap.specs.Searches.{walk_left}
use Rattle.index_maxheap.specs.Walks.{EndsPath, IsBeside, IsFullLowest, IsInChain, IsUnmet}
use Rattle.index_maxheap.specs.declared.rooms.End.TheVariants as end
use Rattle.index_maxheap.proofs.Walked.{full_more}

-- ---- the last bucket of the file

pub eq_of : (m n : ℕ) → nat_eq m n ≡ true → m ≡ n
eq_of m n e = grind arith

-- four bytes tell the first key of a bucket
pub beside_is : (file part : List ℕ) (number m n : ℕ) (first key : ℤ) → part ≡ slice_range file (bucket_place (number - 1)) (bucket_place (number - 1) + 4) → first ≡ i32_at part 0 → m ≡ node first 4 → n ≡ node key 4 → nat_eq m n ≡ true → IsBeside file number key
beside_is file part number m n first key is told a b same =
    let its : i32_at part 0 ≡ key_at file (numbered_place number) 0 = i32_same part file 0 (numbered_place number + 0) (part_same file part (numbered_place number) (numbered_place number + 4) 0 4 is (omega arith)) in
    ap (λ (k : ℤ). node k 4) (sym (told ∙ its)) ∙ sym a ∙ eq_of m n same ∙ b

pub last_in_chain : (bytes : List ℕ) (keys : List ℤ) (key : ℤ) (last : ℕ) → IsTreeOf bytes keys → last ≢ 0 → bucket_place last ≤ length bytes → IsBeside bytes last key → IsUnmet bytes key 5 last → (hop : ℕ) × (5 ≤ hop) × IsInChain bytes key hop last
last_in_chain bytes keys key last tree some within beside unmet =
    let on = bucket_on_path bytes keys key last tree some within beside in
    let hop : ℕ = on.0 in
    let far : 5 ≤ hop = ⊎_elim (λ (x : 5 ≤ hop). x) (λ (x : hop < 5). absurd (unmet some hop x (sym on.1))) (order 5 hop) in
    (hop, far, record { deep = omega (arith, far); there = on.1; some = some })

-- ---- ends

pub pair_end : (bytes : List ℕ) (ps : List Pair) (key : ℤ) (hop number pair at : ℕ) → Full key ps hop → number ≡ number_of bytes key hop → (number ≢ 0) × (length (reaching (goes key) hop ps) ≡ pair) × (pair < 32) → at ≡ bucket_place (number - 1) + 6 * pair → EndsPath (end.Pair at) bytes ps key
pair_end bytes ps key hop number pair at full there seen is =
    let long = seen.1 in
    let few = seen.2 in (
      hop,
      record { full = full; room = omega (arith, long, few) },
      subst (λ (n : ℕ). n ≢ 0) there seen.0,
      is ∙ ap (λ (n : ℕ). numbered_place n + 6 * pair) there ∙ ap (λ (n : ℕ). numbered_place (number_of bytes key hop) + 6 * n) (sym long),
    )

pub bucket_end : (bytes : List ℕ) (ps : List Pair) (key : ℤ) (hop at : ℕ) → IsTree bytes ps → Full key ps hop → number_of bytes key hop ≡ 0 → at ≡ spot_of bytes key hop → EndsPath (end.Bucket at) bytes ps key
bucket_end bytes ps key hop at tree full none is =
    let empty : length (reaching (goes key) hop ps) ≡ 0 = ap length ((tree.each key hop).none none) in
    (hop, record { full = full; room = omega (arith, empty) }, none, is)

-- ---- in a chain

pub chain_bucket : (bytes : List ℕ) (keys : List ℤ) (key : ℤ) (hop number : ℕ) → IsTreeOf bytes keys → IsInChain bytes key hop number → IsBucket bytes number (reaching (goes key) hop (numbered 0 keys))
chain_bucket bytes keys key hop number tree chain = subst (λ (n : ℕ). IsBucket bytes n (reaching (goes key) hop (numbered 0 keys))) (sym chain.there) (tree.each key hop)

pub chain_full : (bytes : List ℕ) (keys : List ℤ) (key : ℤ) (hop number : ℕ) → IsTreeOf bytes keys → IsInChain bytes key hop number → Full key (numbered 0 keys) hop
chain_full bytes keys key hop number tree chain = full_to bytes (numbered 0 keys) key hop tree (subst (λ (n : ℕ). n ≢ 0) chain.there chain.some)

pub chain_more : (bytes : List ℕ) (key : ℤ) (hop number next : ℕ) → IsInChain bytes key hop number → next ≡ next_at bytes (numbered_place number) → next ≢ 0 → IsInChain bytes key (hop + 1) next
chain_more bytes key hop number next chain is some = record {
  deep = (let far = chain.deep in omega (arith, far));
  there = is ∙ sym (chain_number bytes key number hop chain.there chain.some chain.deep);
  some = some;
}

pub chain_last : (bytes : List ℕ) (keys : List ℤ) (key : ℤ) (hop number next at : ℕ) → IsTreeOf bytes keys → IsInChain bytes key hop number → 32 ≤ length (reaching (goes key) hop (numbered 0 keys)) → next ≡ next_at bytes (numbered_place number) → next ≡ 0 → at ≡ bucket_place (number - 1) + 192 →
    EndsPath (end.Bucket at) bytes (numbered 0 keys) key
chain_last bytes keys key hop number next at tree chain now onward none is =
    let ps : List Pair = numbered 0 keys in
    let spot : spot_of bytes key (hop + 1) ≡ numbered_place (number_of bytes key hop) + 192 = rw add-one (spot_chain bytes key hop chain.deep) in
    bucket_end bytes ps key (hop + 1) at tree
    (full_more key ps hop (chain_full bytes keys key hop number tree chain) now)
    (chain_number bytes key number hop chain.there chain.some chain.deep ∙ sym onward ∙ none)
    (is ∙ ap (λ (n : ℕ). numbered_place n + 192) chain.there ∙ sym spot)

pub chain_near : (bytes : List ℕ) (keys : List ℤ) (key : ℤ) (hop number : ℕ) → IsTreeOf bytes keys → IsInChain bytes key hop number → hop ≤ 4 + keys_beside key keys / 32
chain_near bytes keys key hop number tree chain =
    path_short key keys hop (record { full = chain_full bytes keys key hop number tree chain; some = (chain_bucket bytes keys key hop number tree chain).some chain.some })

-- no chain is longer
pub chain_far : {X : Type 0} (bytes : List ℕ) (keys : List ℤ) (key : ℤ) (hop number : ℕ) → IsTreeOf bytes keys → IsInChain bytes key hop number → 1025 ≤ hop → X
chain_far bytes keys key hop number tree chain far =
    let long = deep (goes key) (numbered 0 keys) hop (chain_full bytes keys key hop number tree chain) in
    let few = tree.few in
    absurd (omega (arith, long, few, far))

-- ---- in the nodes

pub level_number : (bytes : List ℕ) (key : ℤ) (level number : ℕ) → level ≤ 4 → number ≡ u16_at bytes (2 * node key level) → number ≡ number_of bytes key level
level_number bytes key level number low is = is ∙ sym (node_number bytes key level low)

pub level_bucket : (bytes : List ℕ) (ps : List Pair) (key : ℤ) (level number : ℕ) → IsTree bytes ps → level ≤ 4 → number ≡ u16_at bytes (2 * node key level) → (number ≡ number_of bytes key level) × IsBucket bytes number (reaching (goes key) level ps)
level_bucket bytes ps key level number tree low is =
    let there : number ≡ number_of bytes key level = level_number bytes key level number low is in
    (there, subst (λ (n : ℕ). IsBucket bytes n (reaching (goes key) level ps)) (sym there) (tree.each key level))

pub level_end : (bytes : List ℕ) (ps : List Pair) (key : ℤ) (level number at : ℕ) → IsTree bytes ps → level ≤ 4 → number ≡ u16_at bytes (2 * node key level) → number ≡ 0 → at ≡ 2 * node key level → Full key ps level → EndsPath (end.Bucket at) bytes ps key
level_end bytes ps key level number at tree low is none spot full =
    bucket_end bytes ps key level at tree full (sym (level_bucket bytes ps key level number tree low is).0 ∙ none) (spot ∙ sym (node_spot bytes key level low))

pub lowest_is : (bytes : List ℕ) (ps : List Pair) (key : ℤ) (level number next : ℕ) → level ≡ 4 → number ≡ number_of bytes key level → (number ≢ 0) × (32 ≤ length (reaching (goes key) level ps)) → next ≡ next_at bytes (numbered_place number) → IsFullLowest bytes ps key number next
lowest_is bytes ps key level number next last there seen onward = record {
  place = record { deep = omega arith; there = subst (λ (h : ℕ). number ≡ number_of bytes key h) last there; some = seen.0 };
  full = subst (λ (h : ℕ). 32 ≤ length (reaching (goes key) h ps)) last seen.1;
  onward = onward;
}

pub range_kept : (new old size : ℕ) → 683 ≤ size → (new ≢ 0 → new ≡ old) → bucket_place old ≤ size → bucket_place new ≤ size
range_kept new old size heads same range = ⊎_elim
    (λ (none : new ≡ 0). omega (arith, none, heads))
    (λ (some : new ≢ 0). let is = same some in omega (arith, is, range))
    (zero_or new)

-- a number that was not met before this hop, nor at it
pub unmet_more : (bytes : List ℕ) (key : ℤ) (level number old new : ℕ) → IsUnmet bytes key level old → number ≡ number_of bytes key level → (new ≢ 0 → new ≡ old) → (new ≢ 0 → number ≢ new) → IsUnmet bytes key (level + 1) new
unmet_more bytes key level number old new before there same other = λ some i less.
    let is = same some in
    ⊎_elim
    (λ (here : level ≤ i). let e : i ≡ level = omega (arith, here, less) in λ z. other some (there ∙ sym (ap (number_of bytes key) e) ∙ z))
    (λ (low : i < level). λ z. before (subst (λ (n : ℕ). n ≢ 0) is some) i low (z ∙ is))
    (order level i)

-- ---- reads

pub chain_paid : (now was start e hop turns : ℕ) → hop + turns ≤ 4 + e / 32 → now ≤ was + 9 → was ≤ start + 9 * turns → now + 9 * hop ≤ start + 9 * (5 + e / 32)
chain_paid now was start e hop turns near look cost = omega (arith, near, look, cost)

pub behind_paid : (now was start e hop : ℕ) → 5 ≤ hop → now + 9 * hop ≤ was + 9 * (5 + e / 32) → was ≤ start + 9 → now ≤ start + 9 * (1 + e / 32)
behind_paid now was start e hop far chain cost = omega (arith, far, chain, cost)

pub find_paid : (now was start e : ℕ) → now ≤ was + 9 * (1 + e / 32) → was ≤ start + 60 → now ≤ start + walk_left e None
find_paid now was start e behind cost = omega (arith, behind, cost)
