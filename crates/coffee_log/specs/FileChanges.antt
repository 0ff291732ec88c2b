-- FileBecomes: what an append or an overwrite makes of a file, seen by its extent, its log and its size.
use Rattle.std.specs.Prelude.{◌≡◌, ℕ, ◌+◌, ◌-◌, ◌*◌, ◌/◌, ◌≤◌, ◌<◌, min, List, length, slice_index, Option, None, Some}
use Rattle.afl_base.specs.declared.ids.PageId.{PageId}
use Rattle.coffee_layout.specs.FileBytes.{file_byte, last_in, number_in, table_of}
use Rattle.coffee_log.specs.Logs.{IsLog}
use Rattle.flash_range.specs.Range.{Outside}

-- an extent and a log have no page in common
abbrev pub Apart : (page pages log : ℕ) → Type 0
Apart page pages log = (p : ℕ) → page ≤ p → p < page + pages → log ≤ p → p < log + 16 → ⊥

-- each region that has a record begins below the size
abbrev pub BeginsBelow : (image : List ℕ) (log used size : ℕ) → Type 0
BeginsBelow image log used size = (i : ℕ) → i < used → 128 * (number_in (table_of image log) i - 1) < size

-- an extent, and its log with this many records in use, hold no byte but 0 from the size on
pub record IsFile (image : List ℕ) (page pages : ℕ) (log : Option PageId) (used size : ℕ) : Type 0 where
  pub apart : (l : PageId) → log ≡ Some l → Apart page pages l.0
  pub logged : (l : PageId) → log ≡ Some l → IsLog image l.0 used
  pub below : (l : PageId) → log ≡ Some l → BeginsBelow image l.0 used size
  pub zeros : (p : ℕ) → size ≤ p → p < 256 * pages - 32 → file_byte image page log p ≡ 0

-- new is old with the bytes from a place on; below n nothing else changes
pub record Puts (old new : ℕ → ℕ) (n at : ℕ) (bytes : List ℕ) : Type 0 where
  pub here : (k : ℕ) → k < length bytes → new (at + k) ≡ slice_index bytes k
  pub others : (p : ℕ) → p < n → Outside at (length bytes) p → new p ≡ old p

-- a byte of the flash is no content of an extent and none of its log
pub record OutsideFile (page pages : ℕ) (log : Option PageId) (k : ℕ) : Type 0 where
  pub extent : Outside (256 * page + 32) (256 * pages - 32) k
  pub logged : (l : PageId) → log ≡ Some l → Outside (256 * l.0 + 32) 4064 k

-- the file has the bytes from a place on, this many records in use and this size; all other bytes stay
pub record FileBecomes (old new : List ℕ) (page pages : ℕ) (log : Option PageId) (used size at : ℕ) (bytes : List ℕ) : Type 0 where
  pub kept : IsFile new page pages log used size
  pub put : Puts (file_byte old page log) (file_byte new page log) (256 * pages - 32) at bytes
  pub others : (k : ℕ) → OutsideFile page pages log k → slice_index new k ≡ slice_index old k

-- the region of a byte has no record, or nothing is put there
abbrev pub IsUnlogged : List ℕ → Option PageId → (at n : ℕ) → Type 0
IsUnlogged image log at n = (l : PageId) → log ≡ Some l → 1 ≤ n → last_in (table_of image l.0) (at / 128) 30 ≡ None

abbrev pub one_if : Option ℕ → ℕ
one_if None = 0
one_if (Some i) = 1

-- the records that an append of n bytes takes: one where its first region has a record, else none
abbrev pub records_for : List ℕ → Option PageId → (at n : ℕ) → ℕ
records_for image None at n = 0
records_for image (Some log) at n = min n (one_if (last_in (table_of image log.0) (at / 128) 30))
