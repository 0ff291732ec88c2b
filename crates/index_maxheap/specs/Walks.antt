-- Walks to the end of a path.
use Rattle.std.specs.Prelude.{ℕ, ℤ, ⊤, ◌≡◌, ◌≢◌, ◌+◌, ◌*◌, ◌<◌, ◌≤◌, List, length}
use Rattle.db_model.specs.HashTree.{node}
use Rattle.index_tree.specs.Ends.{IsPathEnd, spot_of}
use Rattle.index_tree.specs.Pairs.{Pair, goes, reaching}
use Rattle.index_tree.specs.TreeFile.{bucket_place, key_at, next_at, number_of, numbered_place}
use Rattle.index_maxheap.specs.declared.ends.Look.{Look}
use Rattle.index_maxheap.specs.declared.ends.Look.TheVariants as look
use Rattle.index_maxheap.specs.declared.rooms.End.{End}
use Rattle.index_maxheap.specs.declared.rooms.End.TheVariants as end

-- what a look at the bucket of a number finds
abbrev pub FindsInBucket : Look → ℕ → List Pair → Type 0
FindsInBucket look.None number rest = number ≡ 0
FindsInBucket (look.Room pair) number rest = (number ≢ 0) × (length rest ≡ pair) × (pair < 32)
FindsInBucket (look.Full next) number rest = (number ≢ 0) × (32 ≤ length rest)

-- a full bucket tells the number of the next bucket of its chain
abbrev pub LeadsOn : Look → List ℕ → ℕ → Type 0
LeadsOn look.None bytes number = ⊤
LeadsOn (look.Room pair) bytes number = ⊤
LeadsOn (look.Full next) bytes number = next ≡ next_at bytes (numbered_place number)

-- a bucket lies in a file of this many bytes
abbrev pub IsSafeLook : Look → (number size : ℕ) → Type 0
IsSafeLook look.None number size = ⊤
IsSafeLook (look.Room pair) number size = (number ≢ 0) × (pair < 32) × (bucket_place number ≤ size)
IsSafeLook (look.Full next) number size = (number ≢ 0) × (bucket_place number ≤ size)

-- the first key of the bucket with a number has the same lowest node as a key
abbrev pub IsBeside : List ℕ → ℕ → ℤ → Type 0
IsBeside bytes number key = node (key_at bytes (numbered_place number) 0) 4 ≡ node key 4

-- none of the first so many buckets of a path has the number, or there is no such number
abbrev pub IsUnmet : List ℕ → ℤ → ℕ → ℕ → Type 0
IsUnmet bytes key hops number = number ≢ 0 → (i : ℕ) → i < hops → number_of bytes key i ≢ number

-- a bucket of a lowest node or of its chain
pub record IsInChain (bytes : List ℕ) (key : ℤ) (hop number : ℕ) : Type 0 where
  pub deep : 4 ≤ hop
  pub there : number ≡ number_of bytes key hop
  pub some : number ≢ 0

-- the full bucket of a lowest node, and the number of the next bucket of its chain
pub record IsFullLowest (bytes : List ℕ) (ps : List Pair) (key : ℤ) (number next : ℕ) : Type 0 where
  pub place : IsInChain bytes key 4 number
  pub full : 32 ≤ length (reaching (goes key) 4 ps)
  pub onward : next ≡ next_at bytes (numbered_place number)

-- the end of the path of a key: after the pairs of a bucket, or a spot without a number
abbrev pub EndsPath : End → List ℕ → List Pair → ℤ → Type 0
EndsPath (end.Pair at) bytes ps key = (hop : ℕ) × IsPathEnd ps key hop × (number_of bytes key hop ≢ 0)
    × (at ≡ numbered_place (number_of bytes key hop) + 6 * length (reaching (goes key) hop ps))
EndsPath (end.Bucket at) bytes ps key = (hop : ℕ) × IsPathEnd ps key hop × (number_of bytes key hop ≡ 0)
    × (at ≡ spot_of bytes key hop)
EndsPath end.Nowhere bytes ps key = ⊥
