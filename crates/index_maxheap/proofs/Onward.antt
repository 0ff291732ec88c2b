-- From one bucket of a path to the next.
use Rattle.std.proofs.Common.{◌≡◌, ◌≢◌, ◌≤◌, ◌<◌, ◌+◌, ◌*◌, ◌/◌, ◌-◌, add-one, ℕ, ℤ, List, [], ◌∷◌, drop, arith, ap, ◌∙◌, sym, subst}
use Rattle.std.specs.Prelude.{Some, min, slice_range}
use Rattle.std.specs.List.{filter}
use Rattle.afl_base.specs.Fields.{u16_at}
use Rattle.db_model.specs.Cost.{keys_beside}
use Rattle.db_model.specs.HashTree.{node}
use Rattle.index_tree.specs.Pairs.{Pair, goes, reaching}
use Rattle.index_tree.specs.Places.{IsOnPath, IsPlaceAt, is_wanted, to_come}
use Rattle.index_tree.specs.TreeFile.{HoldsPairs, next_number, bucket_place, number_of, numbered_place}
use Rattle.index_tree.specs.Trees.{IsTreeOf, numbered}
use Rattle.index_tree.proofs.Beside.{path_short}
use Rattle.index_tree.proofs.Numbered.{numbered_length}
use Rattle.index_tree.proofs.PutBucket.{behind_chain, behind_node}
use Rattle.index_tree.proofs.Reach.{ahead_hop, deep}
use Rattle.index_tree.proofs.Stays.{goes_wanted}
use Rattle.index_maxheap.specs.Searches.{IsPlaceOf, Scans, LooksInto, TellsHop, walk_left}
use Rattle.index_maxheap.specs.declared.places.Place.{Place}
use Rattle.index_maxheap.specs.declared.searching.Scanned.TheVariants as scanned
use Rattle.index_maxheap.specs.declared.searching.Step.TheVariants as step
use Rattle.index_maxheap.proofs.Firsts.{is_first, later_wanted}
use Rattle.index_maxheap.proofs.Opening.{next_part}
use Rattle.index_maxheap.proofs.Walked.{full_more, holds_part}

-- ---- the number onward

pub onward_node : (bytes : List ℕ) (key : ℤ) (hop : ℕ) → hop < 4 → number_of bytes key (hop + 1) ≡ u16_at bytes (2 * node key (hop + 1))
onward_node bytes key hop low = rw add-one (behind_node bytes key hop (number_of bytes key hop) low)

pub onward_chain : (bytes part : List ℕ) (key : ℤ) (number hop : ℕ) → number ≡ number_of bytes key hop → number ≢ 0 → 4 ≤ hop → part ≡ slice_range bytes (bucket_place (number - 1)) (bucket_place (number - 1) + 195) → u16_at part 192 ≡ number_of bytes key (hop + 1)
onward_chain bytes part key number hop there some far is =
    next_part bytes part (bucket_place (number - 1)) is ∙ sym (rw add-one (ap (next_number bytes key hop) (sym there) ∙ behind_chain bytes key hop number some far))

pub tells_more : (told hop : ℕ) → TellsHop told hop → TellsHop (told + 1) (hop + 1)
tells_more told hop tells = record {
  least = (let up = tells.least in omega (arith, up));
  exact = λ low. (let same = tells.exact (omega (arith, low)) in omega (arith, same));
}

-- ---- the bucket of a place

-- the bytes that were read are those of the place's bucket
pub held : (bytes part : List ℕ) (keys : List ℤ) (key : ℤ) (from number pair hop : ℕ) → IsTreeOf bytes keys → IsPlaceAt bytes (numbered 0 keys) key from number pair hop →
    part ≡ slice_range bytes (bucket_place (number - 1)) (bucket_place (number - 1) + 195) → HoldsPairs part 0 (reaching (goes key) hop (numbered 0 keys))
held bytes part keys key from number pair hop tree at is =
    let rest : List Pair = reaching (goes key) hop (numbered 0 keys) in
    let holds = (tree.each key hop).holds (subst (λ (n : ℕ). n ≢ 0) at.there at.some) in
    holds_part bytes part (numbered_place number) rest is (subst (λ (n : ℕ). HoldsPairs bytes (numbered_place n) rest) (sym at.there) holds)

-- behind a full bucket what is wanted comes in the next
onward : (ps : List Pair) (key : ℤ) (from hop : ℕ) → to_come ps key from hop 32 ≡ to_come ps key from (hop + 1) 0
onward ps key from hop = ahead_hop (is_wanted key from) (goes key) (goes_wanted key from) ps hop

pub found_step : (bytes : List ℕ) (keys : List ℤ) (key : ℤ) (from : ℕ) (place : Place) (pair slot : ℕ) → from ≤ slot → (at : IsPlaceOf bytes keys key from (Some place)) → Scans (scanned.Found pair slot) key from (reaching (goes key) at.0 (numbered 0 keys)) place.pair →
    LooksInto (step.Found slot (record { bucket = place.bucket; pair = pair + 1; hop = place.hop })) bytes keys key from
found_step bytes keys key from place pair slot order at scans =
    let ps : List Pair = numbered 0 keys in
    let rest : List Pair = reaching (goes key) at.0 ps in
    let first : filter (is_wanted key from) ps ≡ record { key = key; slot = slot } ∷ filter (is_wanted key from) (drop (pair + 1) rest) = sym at.2.rest ∙ scans.2 in
    let short = scans.0 in
    let within = scans.1 in (
      filter (is_wanted key from) (drop (pair + 1) rest),
      first,
      (
        at.0,
        at.1,
        record {
          there = at.2.there;
          some = at.2.some;
          good = record { full = at.2.good.full; within = omega (arith, within); short = omega (arith, short) };
          rest = later_wanted key from slot ps (drop (pair + 1) rest) order first;
        },
      ),
    )

-- a found slot is one of the tree
pub found_small : {X : Type 0} (bytes : List ℕ) (keys : List ℤ) (key : ℤ) (from : ℕ) (place : Place) (pair slot : ℕ) → IsTreeOf bytes keys → (at : IsPlaceOf bytes keys key from (Some place)) → Scans (scanned.Found pair slot) key from (reaching (goes key) at.0 (numbered 0 keys)) place.pair → 32768 ≤ slot → X
found_small bytes keys key from place pair slot tree at scans large =
    let first = is_first key from slot keys (filter (is_wanted key from) (drop (pair + 1) (reaching (goes key) at.0 (numbered 0 keys)))) (sym at.2.rest ∙ scans.2) in
    let within = first.within in
    let few = tree.few in
    let long = numbered_length 0 keys in
    absurd (omega (arith, within, few, long, large))

pub none_step : (bytes : List ℕ) (keys : List ℤ) (key : ℤ) (from : ℕ) (place : Place) → IsTreeOf bytes keys → (at : IsPlaceOf bytes keys key from (Some place)) → Scans scanned.Passed key from (reaching (goes key) at.0 (numbered 0 keys)) place.pair →
    number_of bytes key (at.0 + 1) ≡ 0 → filter (is_wanted key from) (numbered 0 keys) ≡ []
none_step bytes keys key from place tree at scans none =
    sym at.2.rest ∙ scans.1 ∙ onward (numbered 0 keys) key from at.0 ∙ ap (filter (is_wanted key from)) ((tree.each key (at.0 + 1)).none none)

pub onward_step : (bytes : List ℕ) (keys : List ℤ) (key : ℤ) (from : ℕ) (place : Place) (number : ℕ) → (at : IsPlaceOf bytes keys key from (Some place)) → Scans scanned.Passed key from (reaching (goes key) at.0 (numbered 0 keys)) place.pair →
    number ≡ number_of bytes key (at.0 + 1) → number ≢ 0 → IsPlaceOf bytes keys key from (Some (record { bucket = number; pair = 0; hop = place.hop + 1 }))
onward_step bytes keys key from place number at scans is some = (
  at.0 + 1,
  tells_more place.hop at.0 at.1,
  record {
    there = is;
    some = some;
    good = record { full = full_more key (numbered 0 keys) at.0 at.2.good.full scans.0; within = omega arith; short = omega arith };
    rest = sym (onward (numbered 0 keys) key from at.0) ∙ sym scans.1 ∙ at.2.rest;
  },
)

-- ---- how far

on_path : (bytes : List ℕ) (keys : List ℤ) (key : ℤ) (from : ℕ) (place : Place) → IsTreeOf bytes keys → (at : IsPlaceOf bytes keys key from (Some place)) → IsOnPath (numbered 0 keys) key at.0
on_path bytes keys key from place tree at = record {
  full = at.2.good.full;
  some = (tree.each key at.0).some (subst (λ (n : ℕ). n ≢ 0) at.2.there at.2.some);
}

-- a place lies on the path of its key
pub place_near : (bytes : List ℕ) (keys : List ℤ) (key : ℤ) (from : ℕ) (place : Place) → IsTreeOf bytes keys → IsPlaceOf bytes keys key from (Some place) → place.hop ≤ 4 + keys_beside key keys / 32
place_near bytes keys key from place tree at =
    let near = path_short key keys at.0 (on_path bytes keys key from place tree at) in
    let up = at.1.least in
    omega (arith, near, up)

-- no place lies so far
pub place_far : {X : Type 0} (bytes : List ℕ) (keys : List ℤ) (key : ℤ) (from : ℕ) (place : Place) → IsTreeOf bytes keys → IsPlaceOf bytes keys key from (Some place) → 1024 < place.hop → X
place_far bytes keys key from place tree at far =
    let long = deep (goes key) (numbered 0 keys) at.0 at.2.good.full in
    let up = at.1.least in
    let few = tree.few in
    absurd (omega (arith, long, few, up, far))

-- ---- reads

-- the reads that are left pay for a look
pub look_paid : (now was start e left : ℕ) (place : Place) → place.hop ≤ 4 + e / 32 → now + 3 * min place.hop 4 ≤ was + 9 + 3 * min (place.hop + 1) 4 → was + walk_left e (Some place) ≤ start + left → now ≤ start + left
look_paid now was start e left place near cost paid = omega (arith, near, cost, paid)

pub onward_paid : (now was start e left : ℕ) (place next : Place) → place.hop ≤ 4 + e / 32 → next.hop ≡ place.hop + 1 → now + 3 * min place.hop 4 ≤ was + 9 + 3 * min (place.hop + 1) 4 → was + walk_left e (Some place) ≤ start + left → now + walk_left e (Some next) ≤ start + left
onward_paid now was start e left place next near same cost paid = rw same (omega (arith, near, cost, paid))
