-- The pages of an extent that holds this many bytes.
use Rattle.std.specs.Prelude.{◌≡◌, ℕ, zero, suc, ◌+◌, ◌*◌, ◌^◌, ◌≤◌, nat_le, if◌then◌else◌}

-- the bytes fit into this many pages after the 32 bytes of the header
abbrev pub HoldsSize : ℕ → ℕ → Type 0
HoldsSize pages size = size + 32 ≤ 256 * pages

-- the first of pages, 2 * pages, 4 * pages, .. that holds the size, after at most this many doublings
abbrev pub first_fit : ℕ → ℕ → ℕ → ℕ
first_fit zero pages size = pages
first_fit (suc turns) pages size = if nat_le (size + 32) (256 * pages) then pages else first_fit turns (2 * pages) size

-- the pages of a doubling file's extent, for a size of at most 8,388,576 bytes
unfoldable pub fit : ℕ → ℕ
fit size = first_fit 11 16 size

-- the least of the numbers 16 * 2 ^ j that holds the size
pub record IsFit (size pages : ℕ) : Type 0 where
  pub doubled : (j : ℕ) × (pages ≡ 16 * 2 ^ j)
  pub holds : HoldsSize pages size
  pub least : (j : ℕ) → HoldsSize (16 * 2 ^ j) size → pages ≤ 16 * 2 ^ j
