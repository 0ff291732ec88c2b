-- How a table finds a key: the entries whose keys have one hash form a chain, in their order.
use Rattle.std.specs.Prelude.{ℕ, zero, suc, ℤ, ◌≡◌, ◌+◌, ◌-◌, ◌*◌, ◌/◌, ◌%◌, ◌<◌, ◌≤◌, ◌==◌, List, [], ◌∷◌, length, drop, get_or, take, nat_lt, if◌then◌else◌, Option, MatchOption}
use Rattle.std.specs.Int.{w32, cast_unsigned}
use Rattle.afl_base.specs.Keys.{HasNone, IsFirstOf, key_in}

-- what a search for a key answers: its first slot from one on, and none where no slot has it
abbrev pub FindsKey : Option ℕ → ℤ → List ℤ → ℕ → Type 0
FindsKey found key keys from = MatchOption found (HasNone key keys from) (IsFirstOf key keys from)

-- the hash of a key, below 512: the upper nine bits of the key times 2,654,435,769, all in 32 bits without a sign
unfoldable pub hash : ℤ → ℕ
hash key = cast_unsigned w32 key * 2654435769 % 4294967296 / 8388608

-- the first entry with a hash in keys that begin at an entry, 2048 for none
abbrev pub first_from : ℕ → ℕ → List ℤ → ℕ
first_from chain at [] = 2048
first_from chain at (key ∷ keys) = if hash key == chain then at else first_from chain (at + 1) keys

-- the first entry with a hash at or after one
abbrev pub entry_from : List ℤ → ℕ → ℕ → ℕ
entry_from keys chain from = first_from chain from (drop from keys)

-- the links: at 0 to 511 each chain's first entry, and at 512 + i the one that follows entry i in its chain
abbrev pub chain_at : List ℤ → ℕ → ℕ
chain_at keys link = if nat_lt link 512 then link else hash (key_in keys (link - 512))

-- the arrays hold an entry as its number and 1, so that an array of zeros has none: the entry that is held, 2048 for none
abbrev pub entry_held : ℕ → ℕ
entry_held zero = 2048
entry_held (suc entry) = entry

-- the last link of a chain, by the last entry that is held: the chain's head where there is none
abbrev pub end_link : ℕ → ℕ → ℕ
end_link chain zero = chain
end_link chain (suc entry) = 512 + entry

-- The chains of some keys, by the entry that each link leads to and by the last entry of each chain, as they are held.
pub record IsChained (keys : List ℤ) (links last : List ℕ) : Type 0 where
  -- each link leads to the first entry of its chain after it
  pub linked : (link : ℕ) → link < 512 + length keys → entry_held (get_or links link 0) ≡ entry_from keys (chain_at keys link) (link - 511)
  -- the last link of a chain is one of its links, and leads nowhere
  pub within : (chain : ℕ) → chain < 512 → end_link chain (get_or last chain 0) < 512 + length keys
  pub own : (chain : ℕ) → chain < 512 → chain_at keys (end_link chain (get_or last chain 0)) ≡ chain
  pub ends : (chain : ℕ) → chain < 512 → entry_from keys chain (end_link chain (get_or last chain 0) - 511) ≡ 2048

-- the arrays of a table with this many entries
pub record IsHashTable (keys : List ℤ) (links last : List ℕ) (len : ℕ) : Type 0 where
  pub few : len ≤ 2048
  pub keys_size : length keys ≡ 2048
  pub links_size : length links ≡ 2560
  pub last_size : length last ≡ 512
  pub chained : IsChained (take len keys) links last
