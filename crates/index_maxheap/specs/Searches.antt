-- Searches along the path of a key, and what they read.
use Rattle.std.specs.Prelude.{ℕ, ℤ, ⊤, ◌≡◌, ◌≢◌, ◌+◌, ◌-◌, ◌*◌, ◌/◌, ◌<◌, ◌≤◌, min, List, [], ◌∷◌, length, drop, filter, Option, Some, None}
use Rattle.index_tree.specs.Pairs.{Pair}
use Rattle.index_tree.specs.Places.{IsPlaceAt, is_wanted}
use Rattle.index_tree.specs.TreeFile.{bucket_place, key_at, number_of, numbered_place, slot_at}
use Rattle.index_tree.specs.Trees.{numbered}
use Rattle.index_maxheap.specs.declared.places.Place.{Place}
use Rattle.index_maxheap.specs.declared.searching.Scanned.{Scanned}
use Rattle.index_maxheap.specs.declared.searching.Scanned.TheVariants as scanned
use Rattle.index_maxheap.specs.declared.searching.Step.{Step}
use Rattle.index_maxheap.specs.declared.searching.Step.TheVariants as step

-- ---- places

-- what a place tells of a hop: the hop itself at an upper node, and in a chain no more than it
pub record TellsHop (told hop : ℕ) : Type 0 where
  pub least : told ≤ hop
  pub exact : told < 4 → hop ≡ told

-- a place from which the slots of a key from one on are to come; None is the root
abbrev pub IsPlaceOf : List ℕ → List ℤ → ℤ → ℕ → Option Place → Type 0
IsPlaceOf bytes keys key from None = ⊤
IsPlaceOf bytes keys key from (Some place) = (hop : ℕ) × TellsHop place.hop hop
    × IsPlaceAt bytes (numbered 0 keys) key from place.bucket place.pair hop

-- ---- hints

-- the pair before a place has the key, and the slot before one
abbrev pub IsBehind : List ℕ → ℤ → ℕ → Place → Type 0
IsBehind bytes key from place = (key_at bytes (numbered_place place.bucket) (place.pair - 1) ≡ key)
    × (slot_at bytes (numbered_place place.bucket) (place.pair - 1) ≡ from)

-- a place that may stand after a pair of a file of this many bytes, of a search from a slot on
pub record MayStand (place : Place) (from size : ℕ) : Type 0 where
  pub begun : 0 < from
  pub some : place.bucket ≢ 0
  pub low : 0 < place.pair
  pub short : place.pair ≤ 32
  pub within : bucket_place place.bucket ≤ size

-- a bucket stands on the path of a key, at a hop that is told
abbrev pub IsOnPathAt : List ℕ → ℤ → ℕ → ℕ → Type 0
IsOnPathAt bytes key bucket told = (hop : ℕ) × TellsHop told hop × (bucket ≡ number_of bytes key hop)

-- ---- reads of a walk: a node's number 3, a bucket 9

-- the numbers of nodes on the path that are still read
abbrev pub numbers_left : Option Place → ℕ
numbers_left None = 5
numbers_left (Some place) = 4 - min place.hop 4

-- the buckets, e keys having the same path; before the root one may be looked at that a hint names
abbrev pub buckets_left : ℕ → Option Place → ℕ
buckets_left e None = 6 + e / 32
buckets_left e (Some place) = 5 + e / 32 - place.hop

-- the reads of the numbers before a hop
abbrev pub number_reads : ℕ → ℕ
number_reads hop = 3 * min hop 4

-- what a walk still reads
abbrev pub walk_left : ℕ → Option Place → ℕ
walk_left e place = 3 * numbers_left place + 9 * buckets_left e place

-- ---- steps of a walk

-- what a search from a pair of a bucket on comes to, of the pairs that reach it
abbrev pub Scans : Scanned → ℤ → ℕ → List Pair → ℕ → Type 0
Scans (scanned.Found pair slot) key from rest start = (pair < 32) × (pair < length rest)
    × (filter (is_wanted key from) (drop start rest) ≡ record { key = key; slot = slot } ∷ filter (is_wanted key from) (drop (pair + 1) rest))
Scans scanned.End key from rest start = filter (is_wanted key from) (drop start rest) ≡ []
Scans scanned.Passed key from rest start = (32 ≤ length rest)
    × (filter (is_wanted key from) (drop start rest) ≡ filter (is_wanted key from) (drop 32 rest))

abbrev pub IsShort : Scanned → ℕ → Type 0
IsShort (scanned.Found pair slot) from = (pair < 32) × (from ≤ slot)
IsShort scanned.End from = ⊤
IsShort scanned.Passed from = ⊤

-- a place, or none where no bucket has a pair
pub record IsStart (bytes : List ℕ) (keys : List ℤ) (key : ℤ) (from : ℕ) (place : Place) : Type 0 where
  pub none : place.bucket ≡ 0 → keys ≡ []
  pub some : place.bucket ≢ 0 → IsPlaceOf bytes keys key from (Some place)

-- what a look into one bucket comes to
abbrev pub LooksInto : Step → List ℕ → List ℤ → ℤ → ℕ → Type 0
LooksInto (step.Found slot place) bytes keys key from = (rest : List Pair)
    × (filter (is_wanted key from) (numbered 0 keys) ≡ record { key = key; slot = slot } ∷ rest)
    × IsPlaceOf bytes keys key (slot + 1) (Some place)
LooksInto step.End bytes keys key from = filter (is_wanted key from) (numbered 0 keys) ≡ []
LooksInto (step.Onward place) bytes keys key from = IsPlaceOf bytes keys key from (Some place)

-- a place that may be read from
abbrev pub IsSafe : Place → Type 0
IsSafe place = (place.bucket ≢ 0) × (place.pair ≤ 32)

-- a slot is not below where the search begins, and a place is in the bucket at the hop or in the next
abbrev pub IsSafeStep : Step → ℕ → ℕ → Type 0
IsSafeStep (step.Found slot place) hop from = (place.hop ≡ hop) × (from ≤ slot)
IsSafeStep step.End hop from = ⊤
IsSafeStep (step.Onward place) hop from = IsSafe place × (place.hop ≡ hop + 1)

-- the hop up to which numbers have been read
abbrev pub hop_after : Step → ℕ → ℕ
hop_after (step.Found slot place) hop = hop
hop_after step.End hop = hop + 1
hop_after (step.Onward place) hop = hop + 1
