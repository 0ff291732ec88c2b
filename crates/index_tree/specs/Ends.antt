-- Where the path of a key ends, read off the pairs and off the bytes.
use Rattle.std.specs.Prelude.{ℕ, zero, suc, ℤ, ◌+◌, ◌*◌, ◌<◌, ◌≤◌, ◌==◌, List, length, nat_lt, if◌then◌else◌}
use Rattle.db_model.specs.HashTree.{node}
use Rattle.index_tree.specs.Pairs.{Pair, goes, reaching}
use Rattle.index_tree.specs.TreeFile.{number_of, numbered_place, slot_at}

-- the first bucket with room on the path of a key, which is one to come where nothing reaches it
pub record IsPathEnd (ps : List Pair) (key : ℤ) (hop : ℕ) : Type 0 where
  pub full : (i : ℕ) → i < hop → 32 ≤ length (reaching (goes key) i ps)
  pub room : length (reaching (goes key) hop ps) < 32

-- ---- where numbers of buckets stand

-- where the number after that of a bucket at a hop stands
abbrev pub spot_behind : ℤ → ℕ → ℕ → ℕ
spot_behind key zero number = 2 * node key 1
spot_behind key (suc zero) number = 2 * node key 2
spot_behind key (suc (suc zero)) number = 2 * node key 3
spot_behind key (suc (suc (suc zero))) number = 2 * node key 4
spot_behind key (suc (suc (suc (suc chain)))) number = numbered_place number + 192

-- where the number of the bucket at a hop stands
abbrev pub spot_of : List ℕ → ℤ → ℕ → ℕ
spot_of bytes key zero = 0
spot_of bytes key (suc hop) = spot_behind key hop (number_of bytes key hop)

-- ---- read off the bytes

-- the pairs of the bucket at a place before its first empty one, of this many from a pair on
abbrev pub filled_from : ℕ → List ℕ → ℕ → ℕ → ℕ
filled_from zero bytes place pair = pair
filled_from (suc turns) bytes place pair = if slot_at bytes place pair == 0 then pair else filled_from turns bytes place (pair + 1)

-- the pairs of the bucket with a number, none where that is 0
abbrev pub filled_of : List ℕ → ℕ → ℕ
filled_of bytes number = if number == 0 then 0 else filled_from 32 bytes (numbered_place number) 0

-- the first hop of a key's path, of this many from one on, at which no bucket stands or one with room
abbrev pub end_from : ℕ → List ℕ → ℤ → ℕ → ℕ
end_from zero bytes key hop = hop
end_from (suc turns) bytes key hop = if nat_lt (filled_of bytes (number_of bytes key hop)) 32 then hop else end_from turns bytes key (hop + 1)

-- the hop at which the path of a key ends: no path has more than 1,024 buckets, so two turns are spare
unfoldable pub path_end : List ℕ → ℤ → ℕ
path_end bytes key = end_from 1026 bytes key 0
