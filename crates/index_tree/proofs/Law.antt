-- A file that meets the rules is the tree of its slots' pairs, with as many buckets as that has.
use Rattle.std.proofs.Common.{◌≡◌, ◌≤◌, ◌+◌, ◌-◌, ◌/◌, ℕ, ℤ, List, length, refl, arith, ap, ◌∙◌, sym, subst, zero, suc}
use Rattle.std.specs.Prelude.{slice_index}
use Rattle.std.proofs.lemmas.List.FromFn.{length-map-range_with_len}
use Rattle.db_model.specs.HashTree.{buckets}
use Rattle.index_tree.specs.Pairs.{pair_keys, pair_of, pairs_of}
use Rattle.index_tree.specs.Rules.{MeetsRules, bucket_count}
use Rattle.index_tree.specs.TreeFile.{IsTree, bucket_place}
use Rattle.afl_base.specs.Keys.{first_keys, key_in}
use Rattle.index_tree.specs.Trees.{IsTreeOf}
use Rattle.index_tree.proofs.Converse.{tree_rules}
use Rattle.index_tree.proofs.Numbered.{keys_first, keys_numbered, numbered_length, tree_of_keys, tree_of_pairs}
use Rattle.index_tree.proofs.Owned.{owned_count}
use Rattle.index_tree.proofs.Ruled.{each}
use Rattle.db_model.proofs.Buckets.{buckets_bound}

pub rules_tree : (bytes : List ℕ) (key : ℕ → ℤ) (slots : ℕ) → slots ≤ 32768 → MeetsRules bytes key slots → IsTree bytes (pairs_of key slots)
rules_tree bytes key slots few r =
    let long : length (pairs_of key slots) ≡ slots = length-map-range_with_len (pair_of key) 0 slots in
    let count : buckets (pair_keys (pairs_of key slots)) ≡ bucket_count bytes = owned_count bytes key slots (bucket_count bytes) (λ k h. each bytes key slots r k h) r.named r.owned in
    record {
      few = omega (arith, long, few);
      size = r.whole ∙ ap bucket_place (sym count);
      mark = r.mark;
      each = λ k h. each bytes key slots r k h;
      upper = r.upper;
    }

pub rules_tree_of : (bytes : List ℕ) (key : ℕ → ℤ) (slots : ℕ) → slots ≤ 32768 → MeetsRules bytes key slots → IsTreeOf bytes (first_keys key slots)
rules_tree_of bytes key slots few rules = tree_of_pairs bytes key slots (rules_tree bytes key slots few rules)

pub tree_of_rules : (bytes : List ℕ) (key : ℕ → ℤ) (slots : ℕ) → slots ≤ 32768 → IsTreeOf bytes (first_keys key slots) → MeetsRules bytes key slots
tree_of_rules bytes key slots few tree = tree_rules bytes key slots few (tree_of_keys bytes key slots tree)

pub sized : (bytes : List ℕ) (keys : List ℤ) → IsTreeOf bytes keys → length bytes ≡ bucket_place (buckets keys)
sized bytes keys tree = tree.size ∙ ap (λ (ks : List ℤ). bucket_place (buckets ks)) (keys_numbered 0 keys)

pub counted : (bytes : List ℕ) (keys : List ℤ) → IsTreeOf bytes keys → bucket_count bytes ≡ buckets keys
counted bytes keys tree = count (length bytes) (buckets keys) (sized bytes keys tree)
  where
    count : (len b : ℕ) → len ≡ bucket_place b → (len - 683) / 195 ≡ b
    count len b e = omega (arith, e)

pub half_many : (bytes : List ℕ) (keys : List ℤ) → IsTreeOf bytes keys → length keys ≤ 16384 → bucket_count bytes ≤ 853
half_many bytes keys tree few =
    let most = buckets_bound keys in
    let count = counted bytes keys tree in
    omega (arith, few, most, count)

pub most_many : (bytes : List ℕ) (keys : List ℤ) → IsTreeOf bytes keys → bucket_count bytes ≤ 1365
most_many bytes keys tree =
    let few : length keys ≤ 32768 = (let long = numbered_length 0 keys in let most = tree.few in omega (arith, long, most)) in
    let most = buckets_bound keys in
    let count = counted bytes keys tree in
    omega (arith, few, most, count)

-- the last byte is that of the last bucket, or stands behind the numbers of the nodes
mark_last : (bytes : List ℕ) (key : ℕ → ℤ) (slots b : ℕ) → MeetsRules bytes key slots → bucket_count bytes ≡ b → slice_index bytes (length bytes - 1) ≡ 1
mark_last bytes key slots zero rules is =
    let whole : length bytes ≡ bucket_place (bucket_count bytes) = rules.whole in
    let at : length bytes - 1 ≡ 682 = omega (arith, whole, is) in
    rw at rules.mark
mark_last bytes key slots (suc b) rules is =
    let whole : length bytes ≡ bucket_place (bucket_count bytes) = rules.whole in
    let at : length bytes - 1 ≡ bucket_place b + 194 = omega (arith, whole, is) in
    rw at (rules.last b (omega (arith, is)))

pub ends_marked : (bytes : List ℕ) (keys : List ℤ) → IsTreeOf bytes keys → slice_index bytes (length bytes - 1) ≡ 1
ends_marked bytes keys tree =
    let few : length keys ≤ 32768 = (let long = numbered_length 0 keys in let most = tree.few in omega (arith, long, most)) in
    mark_last bytes (key_in keys) (length keys) (bucket_count bytes) (tree_of_rules bytes (key_in keys) (length keys) few (subst (λ (ks : List ℤ). IsTreeOf bytes ks) (sym (keys_first keys)) tree)) refl
