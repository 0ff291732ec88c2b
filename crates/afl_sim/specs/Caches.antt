-- What a flash over another one keeps of it in memory.
use Rattle.std.specs.Prelude.{◌≡◌, ℕ, ◌*◌, ◌/◌, ◌≤◌, Bool, false, true, List, length, get_or, min, IsTrue}
use Rattle.afl_base.specs.Fields.{put_at}
use Rattle.afl_base.specs.Image.{or_at, sector_bytes}

-- the flash inside, the memory and its name, which sectors stand in it as they stand inside, and how
-- often it was read
pub record FlashInCache (F : Type 0) : Type 0 where
  pub inner : F
  pub memory : List ℕ
  pub lent : ℕ
  pub known : List Bool
  pub reads : ℕ

-- how many sectors are kept of an image, for which so much memory and so many entries were lent
abbrev pub kept_sectors : List ℕ → ℕ → ℕ → ℕ
kept_sectors image memory known = min (min known (memory / 4096)) (length image / 4096)

-- whether a sector stands in memory
abbrev pub IsKnown : List Bool → ℕ → Type 0
IsKnown known sector = get_or known sector false ≡ true

-- there is memory for each sector that may be known, all of them stand in the flash inside, and where
-- that one tells its bytes, those of a known sector are the same in memory
pub record IsCache (tells : Bool) (image memory : List ℕ) (known : List Bool) : Type 0 where
  pub room : 4096 * length known ≤ length memory
  pub within : 4096 * length known ≤ length image
  pub agrees : IsTrue tells → (s : ℕ) → IsKnown known s → sector_bytes memory s ≡ sector_bytes image s

-- the bytes contain each bit that stands where they go, so that to program them is to write them
abbrev pub Covers : List ℕ → ℕ → List ℕ → Type 0
Covers image at bytes = or_at image at bytes ≡ put_at image at bytes
