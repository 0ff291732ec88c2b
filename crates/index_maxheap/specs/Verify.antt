-- What is known of a tree's file after a look at the pairs of some slots.
use Rattle.std.specs.Prelude.{ℕ, ℤ, pos, ◌≡◌, ◌≢◌, ◌⊎◌, ◌+◌, ◌-◌, ◌*◌, ◌/◌, ◌%◌, ◌<◌, ◌≤◌, List, length, get_or, Option, Some, None}
use Rattle.db_model.specs.HashTree.{buckets, node}
use Rattle.afl_base.specs.Fields.{u16_at}
use Rattle.index_tree.specs.Buckets.{HasPair}
use Rattle.index_tree.specs.Loads.{CountsPairs}
use Rattle.index_tree.specs.Pairs.{Pair, goes, pair_keys, no_pair, pairs_of, reaching}
use Rattle.index_maxheap.specs.declared.verifying.Seen.{Seen}
use Rattle.index_maxheap.specs.declared.verifying.Tail.{Tail}
use Rattle.index_tree.specs.TreeFile.{HoldsPairs, IsTree, bucket_place, key_at, last_at, next_at, bucket_number, number_of, numbered_place, slot_at}

-- a bucket has these pairs in front
pub record Has (bytes : List ℕ) (number : ℕ) (rest : List Pair) : Type 0 where
  pub some : number ≢ 0
  pub within : bucket_place number ≤ length bytes
  pub slot : (pair : ℕ) → pair < 32 → pair < length rest
      → slot_at bytes (numbered_place number) pair ≡ (get_or rest pair no_pair).slot + 1
  pub key : (pair : ℕ) → pair < 32 → pair < length rest
      → key_at bytes (numbered_place number) pair ≡ (get_or rest pair no_pair).key
  pub last : last_at bytes (numbered_place number) ≡ 1

-- each pair is where it should be
abbrev pub AreSeen : List ℕ → List Pair → Type 0
AreSeen bytes ps = (key : ℤ) (hop : ℕ) → 0 < length (reaching (goes key) hop ps)
    → Has bytes (number_of bytes key hop) (reaching (goes key) hop ps)

-- the hop of the last bucket of a node with a load
abbrev pub hop_of : ℕ → ℕ → ℕ
hop_of level load = level + (load - 1) / 32

-- a bucket's place, the number after it, and how many pairs it has in front of its zeros
pub record IsTail (bytes : List ℕ) (number place next filled level : ℕ) : Type 0 where
  pub at : place ≡ numbered_place number
  pub onward : next ≡ next_at bytes (numbered_place number)
  pub few : filled ≤ 32
  pub some : (pair : ℕ) → pair < filled → slot_at bytes (numbered_place number) pair ≢ 0
  pub empty : (pair : ℕ) → pair < 32 → filled ≤ pair → slot_at bytes (numbered_place number) pair ≡ 0
  pub blank : (pair : ℕ) → pair < 32 → filled ≤ pair → key_at bytes (numbered_place number) pair ≡ pos 0
  pub upper : level < 4 → next ≡ 0

-- a bucket that a pair opens: its tail, or it is in no tree that has the pair there
abbrev pub Opens : Option Tail → List ℕ → ℕ → ℕ → Pair → Type 0
Opens None bytes number level q = (rest : List Pair) → HasPair bytes number 0 q
    → HoldsPairs bytes (numbered_place number) rest → (level < 4 → next_at bytes (numbered_place number) ≡ 0) → ⊥
Opens (Some tail) bytes number level q = HasPair bytes number 0 q
    × IsTail bytes number (numbered_place number) tail.next tail.fill level

-- the last buckets of the nodes that have one
abbrev pub AreTails : List ℕ → List ℕ → List ℕ → List ℕ → List ℕ → Type 0
AreTails bytes loads places nexts fills = (key : ℤ) (level : ℕ) → level ≤ 4
    → 0 < get_or loads (node key level) 0 →
    IsTail bytes (number_of bytes key (hop_of level (get_or loads (node key level) 0))) (get_or places (node key level) 0) (get_or nexts (node key level) 0) (get_or fills (node key level) 0) level

-- a node has no number, or a last bucket with no pair after those that were seen
abbrev pub IsNodeDone : List ℕ → ℕ → ℕ → ℕ → ℕ → Type 0
IsNodeDone bytes node load next filled = ((load ≡ 0) × (bucket_number bytes node ≡ 0))
    ⊎ ((0 < load) × (filled ≡ (load - 1) % 32 + 1) × (next ≡ 0))

-- what is kept while the slots are gone through
pub record Verifies (bytes loads places nexts fills : List ℕ) (ps : List Pair) : Type 0 where
  pub counts : CountsPairs loads ps
  pub three : (length places ≡ 341) × (length nexts ≡ 341) × (length fills ≡ 341)
  pub seen : AreSeen bytes ps
  pub tails : AreTails bytes loads places nexts fills

abbrev pub HasSeen : List ℕ → Seen → List Pair → Type 0
HasSeen bytes seen ps = Verifies bytes seen.loads seen.places seen.nexts seen.fills ps

-- the numbers of the nodes, read alone
abbrev pub AreHeads : List ℕ → List ℕ → Type 0
AreHeads heads bytes = (node : ℕ) → node ≤ 340 → u16_at heads (2 * node) ≡ bucket_number bytes node

-- the next slot's pair is in its place, or the file is no tree of this many slots
abbrev pub Goes : Option ℕ → List ℕ → (ℕ → ℤ) → ℕ → (ℕ → Type 0) → Type 0
Goes None bytes f slot P = (slots : ℕ) → slot < slots → IsTree bytes (pairs_of f slots) → ⊥
Goes (Some opens) bytes f slot P = P opens
    × (buckets (pair_keys (pairs_of f (slot + 1))) ≡ buckets (pair_keys (pairs_of f slot)) + opens)
