-- A torn record that is completed as one that changes nothing: with the bytes of a region of its file. Where it can be
-- neither superseded nor completed, its file is copied.
use Rattle.std.specs.Prelude.{◌≡◌, ◌⊎◌, ℕ, ◌+◌, ◌*◌, ◌/◌, ◌≤◌, ◌<◌, min, bit_or, List, Some, slice_index, slice_range}
use Rattle.coffee_cuts.specs.Cuts.{settled}
use Rattle.coffee_find.specs.Found.{IsTornAt, meant}
use Rattle.coffee_find.specs.declared.trouble.TornRecord.{TornRecord}
use Rattle.coffee_find.specs.declared.trouble.Trouble.{Trouble}
use Rattle.coffee_layout.specs.FileBytes.{file_byte}
use Rattle.coffee_layout.specs.declared.file.FileAt.{FileAt}
use Rattle.coffee_mend.specs.Superseding.{IsTornOf}

-- these are the bytes of a region of a file, with zeros behind the end of its extent
pub record IsRegion (image : List ℕ) (file : FileAt) (region : ℕ) (bytes : List ℕ) : Type 0 where
  pub here : (k : ℕ) → k < 128 → 128 * region + k + 32 < 256 * file.pages → slice_index bytes k ≡ file_byte image file.page.0 file.log (128 * region + k)
  pub behind : (k : ℕ) → k < 128 → 256 * file.pages ≤ 128 * region + k + 32 → slice_index bytes k ≡ 0

-- the 128 bytes of a record that begins at a place
abbrev pub record_at : (image : List ℕ) (place : ℕ) → List ℕ
record_at image place = slice_range image place (place + 128)

-- 128 bytes have all bits of a record
abbrev pub HasAllBits : (bytes torn : List ℕ) → Type 0
HasAllBits bytes torn = (k : ℕ) → k < 128 → bit_or (slice_index torn k) (slice_index bytes k) ≡ slice_index bytes k

-- none of the first regions of a file has all bits of the record at a place
abbrev pub LackBits : (image : List ℕ) (place : ℕ) → FileAt → (regions : ℕ) → Type 0
LackBits image place file regions = (region : ℕ) (bytes : List ℕ) → region < regions → IsRegion image file region bytes → HasAllBits bytes (record_at image place) → ⊥

-- a region is the first of a file that has all bits of the record at a place, and these are its bytes
pub record IsFirstWith (image : List ℕ) (place : ℕ) (file : FileAt) (region : ℕ) (bytes : List ℕ) : Type 0 where
  pub begins : 128 * region < file.size
  pub is : IsRegion image file region bytes
  pub all : HasAllBits bytes (record_at image place)
  pub first : LackBits image place file region

-- how many regions of a file begin below its size and can be named by a record
abbrev pub regions_below : ℕ → ℕ
regions_below size = min 65535 ((size + 127) / 128)

-- WHERE A FILE IS COPIED

-- a torn record cannot be superseded, since it is the thirtieth of its log or its file is empty, and cannot be completed,
-- since no region of the file has all its bits
pub record WantsCopy (image : List ℕ) (torn : TornRecord) : Type 0 where
  pub file : FileAt
  pub of : IsTornOf image torn file
  pub last : (torn.used ≡ 29) ⊎ (file.size ≡ 0)
  pub lacks : LackBits image torn.place file (regions_below file.size)

-- so it was in an image once what was under way was settled, and the record is still torn
pub record AwaitsCopy (old new : List ℕ) (trouble : Trouble) : Type 0 where
  pub torn : TornRecord
  pub found : trouble.torn ≡ Some torn
  pub wants : WantsCopy (settled old (meant trouble.under_way)) torn
  pub still : IsTornAt new torn.log.0 torn.place
