-- The five rules of a tree's file, by the buckets of the file and the paths of keys.
use Rattle.std.specs.Prelude.{ℕ, suc, ℤ, pos, ◌≡◌, ◌≢◌, ◌⊎◌, ◌+◌, ◌-◌, ◌/◌, ◌<◌, ◌≤◌, min, List, length, slice_index}
use Rattle.db_model.specs.HashTree.{node}
use Rattle.index_tree.specs.TreeFile.{bucket_place, key_at, last_at, next_at, number_of, numbered_place, slot_at}

-- the buckets of the file
abbrev pub bucket_count : List ℕ → ℕ
bucket_count bytes = (length bytes - 683) / 195

-- slot + 1 in a pair of the bucket at a hop of a key's path
abbrev pub slot_on : List ℕ → ℤ → ℕ → ℕ → ℕ
slot_on bytes key hop pair = slot_at bytes (numbered_place (number_of bytes key hop)) pair

-- the file meets the rules for this many slots with these keys. The pair of a slot is told by its hop and its place in the bucket
pub record MeetsRules (bytes : List ℕ) (key : ℕ → ℤ) (slots : ℕ) : Type 0 where
  -- 1: a bucket's pairs are filled from the front, an empty pair has key 0, and each bucket has a pair
  pub front : (b i : ℕ) → b < bucket_count bytes → i + 1 < 32 → slot_at bytes (bucket_place b) i ≡ 0
      → slot_at bytes (bucket_place b) (i + 1) ≡ 0
  pub blank : (b i : ℕ) → b < bucket_count bytes → i < 32 → slot_at bytes (bucket_place b) i ≡ 0
      → key_at bytes (bucket_place b) i ≡ pos 0
  pub some : (b : ℕ) → b < bucket_count bytes → slot_at bytes (bucket_place b) 0 ≢ 0
  -- 2: after a bucket that is not full a path has no bucket, and next is set in no bucket of an upper node
  pub full : (k : ℤ) (hop : ℕ) → number_of bytes k (suc hop) ≢ 0 → (number_of bytes k hop ≢ 0)
      × (slot_on bytes k hop 31 ≢ 0)
  pub upper : (k : ℤ) (hop : ℕ) → hop < 4 → number_of bytes k hop ≢ 0
      → next_at bytes (numbered_place (number_of bytes k hop)) ≡ 0
  -- 3: each number names a bucket, each bucket belongs to one node or chain, once, and the file has no other bytes
  pub whole : length bytes ≡ bucket_place (bucket_count bytes)
  pub named : (k : ℤ) (hop : ℕ) → number_of bytes k hop ≤ bucket_count bytes
  pub owned : (b : ℕ) → b < bucket_count bytes → (k : ℤ) × (hop : ℕ)
      × (number_of bytes k hop ≡ b + 1)
  pub once : (j k : ℤ) (g h : ℕ) → number_of bytes j g ≢ 0
      → number_of bytes j g ≡ number_of bytes k h → (g ≡ h) × (node j (min g 4) ≡ node k (min g 4))
  pub mark : slice_index bytes 682 ≡ 1
  pub last : (b : ℕ) → b < bucket_count bytes → last_at bytes (bucket_place b) ≡ 1
  -- 4: each slot is in exactly one pair, with its key, on that key's path, and each pair that is not empty has a slot
  pub hop : ℕ → ℕ
  pub pair : ℕ → ℕ
  pub short : (s : ℕ) → s < slots → pair s < 32
  pub there : (s : ℕ) → s < slots → number_of bytes (key s) (hop s) ≢ 0
  pub slot : (s : ℕ) → s < slots → slot_on bytes (key s) (hop s) (pair s) ≡ s + 1
  pub its_key : (s : ℕ) → s < slots
      → key_at bytes (numbered_place (number_of bytes (key s) (hop s))) (pair s) ≡ key s
  pub only : (b c i j : ℕ) → b < bucket_count bytes → c < bucket_count bytes → i < 32 → j < 32
      → slot_at bytes (bucket_place b) i ≢ 0
      → slot_at bytes (bucket_place b) i ≡ slot_at bytes (bucket_place c) j → (b ≡ c) × (i ≡ j)
  pub known : (b i : ℕ) → b < bucket_count bytes → i < 32 → slot_at bytes (bucket_place b) i ≤ slots
  -- 5: along each path the slots rise
  pub rise : (k : ℤ) (g h i j : ℕ) → (g < h) ⊎ ((g ≡ h) × (i < j)) → i < 32 → j < 32
      → number_of bytes k h ≢ 0 → slot_on bytes k g i ≢ 0 → slot_on bytes k h j ≢ 0
      → slot_on bytes k g i < slot_on bytes k h j
