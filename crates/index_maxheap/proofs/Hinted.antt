-- Places that hints name.
use Rattle.std.proofs.Common.{◌≡◌, ◌≢◌, ◌≤◌, ◌<◌, ◌+◌, ◌*◌, ◌-◌, ℕ, ℤ, List, length, refl, arith, ap, ◌∙◌, sym, ⊎_elim}
use Rattle.std.specs.Prelude.{Some, slice_range}
use Rattle.afl_base.specs.Fields.{u16_at}
use Rattle.db_model.specs.HashTree.{node}
use Rattle.index_tree.specs.TreeFile.{bucket_place, key_at, number_of, numbered_place, slot_at}
use Rattle.index_tree.specs.Trees.{IsTreeOf}
use Rattle.index_tree.proofs.OnPath.{node_number, pair_on_path, place_behind}
use Rattle.index_tree.proofs.Shared.{order}
use Rattle.index_maxheap.specs.Searches.{IsBehind, IsOnPathAt, IsPlaceOf, MayStand}
use Rattle.index_maxheap.specs.declared.places.Place.{Place}
use Rattle.index_maxheap.proofs.Walked.{key_part, slot_part}

-- ---- the hop of a bucket

pub hop_here : (bytes : List ℕ) (key : ℤ) (bucket number level : ℕ) → level < 4 → number ≡ u16_at bytes (2 * node key level) → number ≡ bucket → IsOnPathAt bytes key bucket level
hop_here bytes key bucket number level low is same =
    (level, record { least = omega arith; exact = λ x. refl }, sym same ∙ is ∙ sym (node_number bytes key level (omega (arith, low))))

pub past_more : (bytes : List ℕ) (key : ℤ) (bucket number level : ℕ) → level < 4 → number ≡ u16_at bytes (2 * node key level) → number ≢ bucket → ((i : ℕ) → i < level → number_of bytes key i ≢ bucket) → (i : ℕ) → i < level + 1 → number_of bytes key i ≢ bucket
past_more bytes key bucket number level low is other past i less = ⊎_elim
    (λ (here : level ≤ i). let e : i ≡ level = omega (arith, here, less) in λ z. other (is ∙ sym (node_number bytes key level (omega (arith, low))) ∙ sym (ap (number_of bytes key) e) ∙ z))
    (λ (before : i < level). past i before)
    (order level i)

-- ---- the pair before a place

pub behind_is : (file part : List ℕ) (key : ℤ) (from : ℕ) (place : Place) → part ≡ slice_range file (bucket_place (place.bucket - 1)) (bucket_place (place.bucket - 1) + 195) → 0 < place.pair → place.pair ≤ 32 → key_at part 0 (place.pair - 1) ≡ key → slot_at part 0 (place.pair - 1) ≡ from → IsBehind file key from place
behind_is file part key from place is low short its slot =
    let last : place.pair - 1 < 32 = omega (arith, low, short) in
    (sym (key_part file part (numbered_place place.bucket) (place.pair - 1) is last) ∙ its, sym (slot_part file part (numbered_place place.bucket) (place.pair - 1) is last) ∙ slot)

pub on_path_behind : (bytes : List ℕ) (keys : List ℤ) (key : ℤ) (from : ℕ) (place : Place) → IsTreeOf bytes keys → MayStand place from (length bytes) → IsBehind bytes key from place → (hop : ℕ) × (place.bucket ≡ number_of bytes key hop)
on_path_behind bytes keys key from place tree stands behind =
    let low = stands.low in
    let short = stands.short in
    let begun = stands.begun in
    pair_on_path bytes keys key place.bucket (place.pair - 1) tree stands.some stands.within (omega (arith, low, short)) (λ z. none begun (sym behind.1 ∙ z)) behind.0
  where
    none : 0 < from → from ≡ 0 → ⊥
    none h z = omega (arith, h, z)

pub hinted_place : (bytes : List ℕ) (keys : List ℤ) (key : ℤ) (from told : ℕ) (place : Place) → IsTreeOf bytes keys → MayStand place from (length bytes) → IsBehind bytes key from place → IsOnPathAt bytes key place.bucket told →
    IsPlaceOf bytes keys key from (Some (record { bucket = place.bucket; pair = place.pair; hop = told }))
hinted_place bytes keys key from told place tree stands behind on =
    (on.0, on.1, place_behind bytes keys key from place.bucket place.pair on.0 tree on.2 stands.some stands.low stands.short stands.begun behind.1)
