-- The bytes of a file: those of its extent, and over them those of its log.
use Rattle.std.specs.Prelude.{◌≡◌, ◌≢◌, ℕ, zero, suc, ◌+◌, ◌-◌, ◌*◌, ◌/◌, ◌%◌, ◌<◌, ◌≤◌, not, ◌==◌, List, length, map, take, slice_index, slice_range, Option, Some, None, if◌then◌else◌}
use Rattle.std.specs.List.{prefix_len, range_with_len, suffix_len}
use Rattle.afl_base.specs.Fields.{u16_at}
use Rattle.afl_base.specs.declared.ids.PageId.{PageId}

-- the 60 bytes of a log's table, by the log's first page
abbrev pub table_of : List ℕ → ℕ → List ℕ
table_of image log = slice_range image (256 * log + 32) (256 * log + 92)

-- the number of record i: its region plus 1, or 0 where the record is free
abbrev pub number_in : List ℕ → ℕ → ℕ
number_in table i = u16_at table (2 * i)

-- the numbers of the 30 records of a log
unfoldable pub records : List ℕ
records = range_with_len 0 30

-- the last of the first n records that is a region's
unfoldable pub last_in : List ℕ → ℕ → ℕ → Option ℕ
last_in table region zero = None
last_in table region (suc n) = if number_in table n == region + 1 then Some n else last_in table region n

-- the number of records in use: this many numbers from the front are not 0
abbrev pub used_in : List ℕ → ℕ
used_in table = prefix_len (λ i. not (number_in table i == 0)) records

-- the place of record i of a log
abbrev pub record_place : ℕ → ℕ → ℕ
record_place log i = 256 * log + 96 + 128 * i

-- the place of content byte p in the extent itself
abbrev pub extent_place : ℕ → ℕ → ℕ
extent_place page p = 256 * page + 32 + p

-- the place of the record that is a region's last, or else where it is not logged
abbrev pub place_or : (direct log : ℕ) → Option ℕ → ℕ
place_or direct log None = direct
place_or direct log (Some i) = record_place log i

-- where the 128 bytes of a region stand: in the last record of the log that is its own, else in the extent
abbrev pub region_place : List ℕ → ℕ → Option PageId → ℕ → ℕ
region_place image page None region = extent_place page (128 * region)
region_place image page (Some log) region = place_or (extent_place page (128 * region)) log.0 (last_in (table_of image log.0) region 30)

-- content byte p of a file, by the first page of its extent and that of its log
abbrev pub file_byte : List ℕ → ℕ → Option PageId → ℕ → ℕ
file_byte image page log p = slice_index image (region_place image page log (p / 128) + p % 128)

-- the bytes up to and with the last that is not zero
abbrev pub trimmed : List ℕ → List ℕ
trimmed bytes = take (length bytes - suffix_len (λ b. b == 0) bytes) bytes

-- the bytes of a file with an extent of this many pages
unfoldable pub file_bytes : List ℕ → (page pages : ℕ) → Option PageId → List ℕ
file_bytes image page pages log = trimmed (map (file_byte image page log) (range_with_len 0 (256 * pages - 32)))

-- a list has the values of f below n, without the zeros at their end
pub record ListsValues (f : ℕ → ℕ) (n : ℕ) (bytes : List ℕ) : Type 0 where
  pub short : length bytes ≤ n
  pub here : (p : ℕ) → p < length bytes → f p ≡ slice_index bytes p
  pub after : (p : ℕ) → length bytes ≤ p → p < n → f p ≡ 0
  pub last : 1 ≤ length bytes → slice_index bytes (length bytes - 1) ≢ 0

-- the place after the last of the first n values of f that is not zero
pub record IsEnd (f : ℕ → ℕ) (n end : ℕ) : Type 0 where
  pub within : end ≤ n
  pub zeros : (p : ℕ) → end ≤ p → p < n → f p ≡ 0
  pub last : 1 ≤ end → f (end - 1) ≢ 0
