-- The hash tree of a list of keys, the first being that of slot 0.
use Rattle.std.specs.Prelude.{ℕ, zero, suc, ℤ, ◌+◌, ◌-◌, List, [], ◌∷◌, ◌++◌, map}
use Rattle.std.specs.List.{range_with_len}
use Rattle.index_tree.specs.Ends.{filled_of}
use Rattle.index_tree.specs.Pairs.{Pair}
use Rattle.index_tree.specs.TreeFile.{IsTree, key_at, number_of, numbered_place, slot_at}

-- the pairs of keys whose slots follow one another, from a slot on
abbrev pub numbered : ℕ → List ℤ → List Pair
numbered slot [] = []
numbered slot (key ∷ keys) = record { key = key; slot = slot } ∷ numbered (slot + 1) keys

-- the file is the hash tree of these keys
abbrev pub IsTreeOf : List ℕ → List ℤ → Type 0
IsTreeOf bytes keys = IsTree bytes (numbered 0 keys)

-- ---- what the bytes tell

-- a pair of the bucket at a place
abbrev pub pair_in : List ℕ → ℕ → ℕ → Pair
pair_in bytes place pair = record { key = key_at bytes place pair; slot = slot_at bytes place pair - 1 }

-- the pairs of the bucket with a number
abbrev pub pairs_in : List ℕ → ℕ → List Pair
pairs_in bytes number = map (pair_in bytes (numbered_place number)) (range_with_len 0 (filled_of bytes number))

-- the pairs of the first so many buckets along the path of a key
abbrev pub pairs_along : List ℕ → ℤ → ℕ → List Pair
pairs_along bytes key zero = []
pairs_along bytes key (suc hop) = pairs_along bytes key hop ++ pairs_in bytes (number_of bytes key hop)
