-- How many pairs each node of a tree has, counted slot by slot.
use Rattle.std.specs.Prelude.{ℕ, zero, suc, ℤ, ◌≡◌, ◌+◌, ◌<◌, ◌≤◌, min, List, ◌++◌, [], ◌∷◌, length, get_or}
use Rattle.db_model.specs.HashTree.{buckets, node}
use Rattle.index_tree.specs.Pairs.{Pair, goes, pair_keys, reaching}

-- of the pairs that reach a node those that it holds: an upper node 32, a lowest node all
abbrev pub load_of : ℕ → ℕ → ℕ
load_of zero n = min 32 n
load_of (suc zero) n = min 32 n
load_of (suc (suc zero)) n = min 32 n
load_of (suc (suc (suc zero))) n = min 32 n
load_of (suc (suc (suc (suc more)))) n = n

-- the numbers are those of the 341 nodes of the tree of these pairs
pub record CountsPairs (loads : List ℕ) (ps : List Pair) : Type 0 where
  pub long : length loads ≡ 341
  pub each : (key : ℤ) (level : ℕ) → level ≤ 4
      → get_or loads (node key level) 0 ≡ load_of level (length (reaching (goes key) level ps))

-- the level of the first node on the path of a key that holds one pair more
pub record IsLevel (loads : List ℕ) (key : ℤ) (level : ℕ) : Type 0 where
  pub low : level ≤ 4
  pub full : (i : ℕ) → i < level → 32 ≤ get_or loads (node key i) 0
  pub room : level < 4 → get_or loads (node key level) 0 < 32

-- one bucket, where nothing reaches the end of the path
abbrev pub opened_bucket : ℕ → ℕ
opened_bucket zero = 1
opened_bucket (suc n) = 0

-- one key more, and whether it opens a bucket
pub record Loads (old new : List ℕ) (key : ℤ) (opens : ℕ) : Type 0 where
  pub counts : (ps : List Pair) (slot : ℕ) → CountsPairs old ps
      → CountsPairs new (ps ++ record { key = key; slot = slot } ∷ [])
  pub buckets : (ps : List Pair) (slot : ℕ) → CountsPairs old ps
      → buckets (pair_keys (ps ++ record { key = key; slot = slot } ∷ [])) ≡ buckets (pair_keys ps) + opens
