-- The bytes of a tree's file: 341 numbers of nodes, the byte 1, and buckets of 195 bytes.
use Rattle.std.specs.Prelude.{ℕ, zero, suc, ℤ, pos, ◌≡◌, ◌≢◌, ◌+◌, ◌-◌, ◌*◌, ◌<◌, ◌≤◌, List, [], length, get_or, slice_index}
use Rattle.afl_base.specs.Fields.{i32_at, u16_at}
use Rattle.db_model.specs.HashTree.{buckets, node}
use Rattle.index_tree.specs.Pairs.{Pair, goes, pair_keys, no_pair, reaching}

-- ---- fields

-- bucket + 1 of a node, 0 for none
abbrev pub bucket_number : List ℕ → ℕ → ℕ
bucket_number bytes node = u16_at bytes (2 * node)

abbrev pub bucket_place : ℕ → ℕ
bucket_place bucket = 683 + 195 * bucket

-- where the bucket of a number that is not 0 begins
abbrev pub numbered_place : ℕ → ℕ
numbered_place number = bucket_place (number - 1)

-- the pairs of a bucket that begins at a place: a key, and slot + 1, 0 for an empty pair
abbrev pub key_at : List ℕ → ℕ → ℕ → ℤ
key_at bytes place pair = i32_at bytes (place + 6 * pair)

abbrev pub slot_at : List ℕ → ℕ → ℕ → ℕ
slot_at bytes place pair = u16_at bytes (place + 6 * pair + 4)

-- bucket + 1 of the next bucket of its chain, 0 for none
abbrev pub next_at : List ℕ → ℕ → ℕ
next_at bytes place = u16_at bytes (place + 192)

-- the last byte of a bucket
abbrev pub last_at : List ℕ → ℕ → ℕ
last_at bytes place = slice_index bytes (place + 194)

-- ---- paths

-- the number after that of a bucket at a hop of a key's path: the next node's, and in a chain next
abbrev pub next_number : List ℕ → ℤ → ℕ → ℕ → ℕ
next_number bytes key zero number = bucket_number bytes (node key 1)
next_number bytes key (suc zero) number = bucket_number bytes (node key 2)
next_number bytes key (suc (suc zero)) number = bucket_number bytes (node key 3)
next_number bytes key (suc (suc (suc zero))) number = bucket_number bytes (node key 4)
next_number bytes key (suc (suc (suc (suc chain)))) zero = 0
next_number bytes key (suc (suc (suc (suc chain)))) (suc bucket) = next_at bytes (bucket_place bucket)

-- bucket + 1 of the bucket at a hop of a key's path, 0 for none
abbrev pub number_of : List ℕ → ℤ → ℕ → ℕ
number_of bytes key zero = bucket_number bytes 0
number_of bytes key (suc hop) = next_number bytes key hop (number_of bytes key hop)

-- ---- the tree of pairs

-- the bucket at a place holds the first 32 of these pairs, and nothing else
pub record HoldsPairs (bytes : List ℕ) (place : ℕ) (rest : List Pair) : Type 0 where
  pub slot : (pair : ℕ) → pair < 32 → pair < length rest
      → slot_at bytes place pair ≡ (get_or rest pair no_pair).slot + 1
  pub key : (pair : ℕ) → pair < 32 → pair < length rest
      → key_at bytes place pair ≡ (get_or rest pair no_pair).key
  pub empty : (pair : ℕ) → pair < 32 → length rest ≤ pair → slot_at bytes place pair ≡ 0
  pub blank : (pair : ℕ) → pair < 32 → length rest ≤ pair → key_at bytes place pair ≡ pos 0
  pub last : last_at bytes place ≡ 1

-- the number names a bucket of these pairs, and is 0 exactly where there is none
pub record IsBucket (bytes : List ℕ) (number : ℕ) (rest : List Pair) : Type 0 where
  pub none : number ≡ 0 → rest ≡ []
  pub some : number ≢ 0 → 0 < length rest
  pub within : number ≢ 0 → bucket_place number ≤ length bytes
  pub holds : number ≢ 0 → HoldsPairs bytes (numbered_place number) rest

-- the file is the hash tree of these pairs
pub record IsTree (bytes : List ℕ) (ps : List Pair) : Type 0 where
  pub few : length ps ≤ 32768
  pub size : length bytes ≡ bucket_place (buckets (pair_keys ps))
  pub mark : slice_index bytes 682 ≡ 1
  pub each : (key : ℤ) (hop : ℕ)
      → IsBucket bytes (number_of bytes key hop) (reaching (goes key) hop ps)
  pub upper : (key : ℤ) (hop : ℕ) → hop < 4 → number_of bytes key hop ≢ 0
      → next_at bytes (numbered_place (number_of bytes key hop)) ≡ 0

-- no pair of these bytes names a slot after this many
abbrev pub NamesOnly : ℕ → List ℕ → Type 0
NamesOnly slots bytes = (bucket pair : ℕ) → pair < 32 → bucket_place bucket + 6 * pair + 6 ≤ length bytes
    → slot_at bytes (bucket_place bucket) pair ≤ slots
