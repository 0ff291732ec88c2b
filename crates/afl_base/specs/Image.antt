-- The bytes of a flash, and what programming and erasing make of them.
use Rattle.std.specs.Prelude.{ℕ, ◌+◌, ◌*◌, List, [], ◌∷◌, ◌++◌, take, drop, replicate, slice_range, bit_or}

-- the bytes of a front part, each `old OR given`
abbrev pub or_front : List ℕ → List ℕ → List ℕ
or_front [] bytes = []
or_front (x ∷ xs) [] = x ∷ xs
or_front (x ∷ xs) (b ∷ bs) = bit_or x b ∷ or_front xs bs

-- the bytes from a place on, each `old OR given`; all others stay
unfoldable pub or_at : List ℕ → ℕ → List ℕ → List ℕ
or_at image at bytes = take at image ++ or_front (drop at image) bytes

-- this many bytes from a place on are zero; all others stay
unfoldable pub zeros_at : List ℕ → ℕ → ℕ → List ℕ
zeros_at image at n = take at image ++ replicate n 0 ++ drop (at + n) image

-- the 256 bytes of a page
abbrev pub page_bytes : List ℕ → ℕ → List ℕ
page_bytes image page = slice_range image (256 * page) (256 * page + 256)

-- the 4,096 bytes of a sector
abbrev pub sector_bytes : List ℕ → ℕ → List ℕ
sector_bytes image sector = slice_range image (4096 * sector) (4096 * sector + 4096)
