-- The hash tree of a list of keys: which keys stand in which bucket, and how many buckets there are.
use Rattle.std.specs.Prelude.{ℕ, ℤ, zero, suc, ◌+◌, ◌*◌, ◌/◌, ◌%◌, ◌==◌, Bool, List, [], ◌∷◌, length, drop, filter, bit_xor}
use Rattle.std.specs.Int.{w32, cast_unsigned}

-- ---- the path of a key

-- k as 32 bits without a sign, its upper half mixed into the lower
abbrev pub mixed : ℤ → ℕ
mixed key = bit_xor (cast_unsigned w32 key) (cast_unsigned w32 key / 65536)

-- the four digits to the base 4, from the root down; only the lowest four are asked for
abbrev pub digit : ℤ → ℕ → ℕ
digit key zero = mixed key % 4
digit key (suc zero) = mixed key / 4 % 4
digit key (suc (suc zero)) = mixed key / 16 % 4
digit key (suc (suc (suc level))) = mixed key / 64 % 4

-- the child of node n by digit d is node 4n + 1 + d, and the root is node 0: a key's node at each of the levels 0 to 4
abbrev pub node : ℤ → ℕ → ℕ
node key zero = 0
node key (suc level) = 4 * node key level + 1 + digit key level

-- whether two keys have the same four digits, and so the same path
abbrev pub same_path : ℤ → ℤ → Bool
same_path a b = node a 4 == node b 4

-- ---- keys in slot order

-- a node's bucket holds the first 32 of what reaches it; the rest goes on to the child by its digit at this level
abbrev pub onward : ℕ → ℕ → List ℤ → List ℤ
onward level d keys = filter (λ key. digit key level == d) (drop 32 keys)

-- the buckets below a node that these keys reach, itself among them, this many levels above the lowest: a lowest node
-- has a chain of buckets of 32
abbrev pub buckets_at : ℕ → ℕ → List ℤ → ℕ
buckets_at zero level keys = (length keys + 31) / 32
buckets_at (suc above) level [] = 0
buckets_at (suc above) level (key ∷ keys) =
    1 + buckets_at above (level + 1) (onward level 0 (key ∷ keys)) + buckets_at above (level + 1) (onward level 1 (key ∷ keys))
    + buckets_at above (level + 1) (onward level 2 (key ∷ keys)) + buckets_at above (level + 1) (onward level 3 (key ∷ keys))

-- the buckets of the hash tree of these keys, in slot order
abbrev pub buckets : List ℤ → ℕ
buckets keys = buckets_at 4 0 keys
