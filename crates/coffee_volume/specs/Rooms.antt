-- Rooms: what a file's room may be, and which extent `prepare` asks for.
use Rattle.std.specs.Prelude.{◌≡◌, ℕ, ◌+◌, ◌*◌, ◌<◌, ◌≤◌, Bool, false, not, ◌==◌, Option, Some, None, nat_lt, if◌then◌else◌}
use Rattle.afl_base.specs.declared.ids.PageId.{PageId}
use Rattle.coffee_layout.specs.declared.file.FileAt.{FileAt}
use Rattle.coffee_volume.specs.declared.entry.Entry.{Entry}

-- The room of a file can be used without asking for space: each record is free in its log, and so is
-- one more for an append; all bytes lie in the extent, and the regions that are written have numbers
-- of 16 bits.
pub record HasEntryRoom (e : Entry) : Type 0 where
  pub no_log : e.at.log ≡ None → e.records ≡ 0
  pub free : e.at.used + e.records ≤ 30
  pub spare : (l : PageId) → e.at.log ≡ Some l → 1 ≤ e.room → e.at.used + e.records < 30
  pub fits : e.at.size + e.room + 32 ≤ 256 * e.at.pages
  pub small : 1 ≤ e.records + e.room → e.at.size + e.room ≤ 4194304

-- the record that the bytes of an append may take: none where the file has no log
abbrev pub own_record : Option PageId → ℕ
own_record None = 0
own_record (Some l) = 1

-- the records that this many overwrites and bytes need
abbrev pub records_needed : Option PageId → (overwrites bytes : ℕ) → ℕ
records_needed log overwrites bytes = if bytes == 0 then overwrites else (if overwrites == 0 then own_record log else overwrites + 1)

-- a log has fewer free records than are needed
abbrev pub has_too_few : Option PageId → (used needed : ℕ) → Bool
has_too_few None used needed = false
has_too_few (Some l) used needed = nat_lt 30 (used + needed)

-- a log is needed, and there is none
abbrev pub lacks_log : Option PageId → (needed : ℕ) → Bool
lacks_log None needed = not (needed == 0)
lacks_log (Some l) needed = false

-- The pages that the first step of `prepare` asks for whose condition a file meets: twice its pages
-- where the bytes do not fit; as many as it has where its log has too few free records; 16 where it
-- needs a log and has none.
abbrev pub pages_asked : FileAt → (overwrites bytes : ℕ) → Option ℕ
pages_asked e overwrites bytes =
    if nat_lt (256 * e.pages) (e.size + bytes + 32) then Some (2 * e.pages)
    else (if has_too_few e.log e.used (records_needed e.log overwrites bytes) then Some e.pages
    else (if lacks_log e.log (records_needed e.log overwrites bytes) then Some 16 else None))
