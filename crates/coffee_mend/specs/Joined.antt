-- A file that was put together with its log, whose extents are obsolete.
use Rattle.std.specs.Prelude.{◌≡◌, ◌⊎◌, ℕ, ◌+◌, ◌*◌, ◌≤◌, ◌<◌, true, List, length, slice_index, Option, None, Some}
use Rattle.afl_base.specs.Image.{or_at, zeros_at}
use Rattle.afl_base.specs.declared.ids.PageId.{PageId}
use Rattle.coffee_header.specs.declared.header.Header.{Header}
use Rattle.coffee_cuts.specs.Mending.{IsTable}
use Rattle.coffee_layout.specs.FileBytes.{file_byte, record_place, table_of, used_in}
use Rattle.std.specs.List.{Contains}
use Rattle.coffee_layout.specs.Files.{kind_of, listed}
use Rattle.coffee_layout.specs.Marks.{IsCramped}
use Rattle.coffee_layout.specs.Tiling.{units_of}
use Rattle.coffee_layout.specs.Walks.{has_few}
use Rattle.coffee_layout.specs.declared.file.FileAt.{FileAt}
use Rattle.coffee_layout.specs.declared.unit.Unit.{Unit}
use Rattle.coffee_layout.specs.declared.unit.Unit.TheVariants.{Extent}
use Rattle.coffee_merge.specs.Begun.{active_at, unit_begun}
use Rattle.coffee_merge.specs.Holding.{Entries, HoldsTable, IsIn, Moves, Stays, has_shape, log_header}
use Rattle.coffee_merge.specs.TableFiles.{SameFiles}

-- the header of a log that is obsolete
abbrev pub old_log_header : List ℕ → Header
old_log_header name = record (log_header name) { flags = 23 }

-- the entry of a file in another extent, with its log put into it
abbrev pub joined_at : FileAt → PageId → FileAt
joined_at file page = record file { page = page; log = None; used = 0 }

-- a file has moved, with what stood in its log, which is an obsolete extent now
pub record JoinsFile (old new : List ℕ) (table : Entries) (i : ℕ) (from to : FileAt) (log : PageId) : Type 0 where
  pub moves : Moves old new table i from to
  pub gone : unit_begun (units_of new) 0 log.0 ≡ Some (Extent (old_log_header from.name))

-- an image holds a table by which it is sound, and has the files of another
pub record KeepsFiles (old new : List ℕ) : Type 0 where
  pub table : Entries
  pub holds : HoldsTable new table None
  pub short : length table ≤ 32
  pub few : (i : ℕ) (e : FileAt) → IsIn table i e → has_few e ≡ true
  pub same : SameFiles old new

-- and at a page an obsolete log
pub record IsJoined (old new : List ℕ) (log : ℕ) : Type 0 where
  pub keeps : KeepsFiles old new
  pub name : List ℕ
  pub gone : unit_begun (units_of new) 0 log ≡ Some (Extent (old_log_header name))

-- the file that names the log at a page has this many pages, and its kind has them
pub record OwnsLog (us : List Unit) (log pages : ℕ) : Type 0 where
  pub page : ℕ
  pub header : Header
  pub there : active_at us page ≡ Some header
  pub names : header.log_page ≡ log + 1
  pub pages_are : header.max_pages ≡ pages
  pub shape : has_shape (kind_of header) header.max_pages ≡ true

-- an image keeps the files of another and the log at a page, and no extent of this many pages is available in it
pub record LacksExtent (old new : List ℕ) (log need : ℕ) : Type 0 where
  pub keeps : KeepsFiles old new
  pub name : List ℕ
  pub stands : active_at (units_of new) log ≡ Some (log_header name)
  pub used : used_in (table_of new log) ≡ used_in (table_of old log)
  pub wants : OwnsLog (units_of new) log need
  pub cramped : IsCramped (units_of new) need

-- A RECORD THAT IS TORN

-- an image is another one, but for the 128 bytes from a place on
pub record IsSameBut (image other : List ℕ) (place : ℕ) : Type 0 where
  pub inside : place + 128 ≤ length image
  pub size : length other ≡ length image
  pub others : (k : ℕ) → (k < place) ⊎ (place + 128 ≤ k) → slice_index other k ≡ slice_index image k

-- at a place begins the next record of the log of a file, in an image of this many bytes
pub record IsNextIn (size place : ℕ) (e : FileAt) : Type 0 where
  pub log : PageId
  pub logged : e.log ≡ Some log
  pub next : place ≡ record_place log.0 e.used
  pub free : e.used < 30
  pub inside : place + 128 ≤ size

-- with zeros in the place of the next record of a file's log, an image holds a table
pub record HidesRecord (image : List ℕ) (table : Entries) (draft : Option FileAt) (i : ℕ) (e : FileAt) (place : ℕ) : Type 0 where
  pub table_is : IsTable (zeros_at image place 128) table draft
  pub there : IsIn table i e
  pub record_is : IsNextIn (length image) place e

-- the files are held as they were, and no extent of this many pages is available
pub record LeavesTable (old new : List ℕ) (table : Entries) (need : ℕ) : Type 0 where
  pub stays : Stays old new table
  pub cramped : IsCramped (units_of new) need

-- an extent under construction at a page is as large as a file, and has no byte but 0
pub record IsEmptyDraft (image : List ℕ) (d : FileAt) (page : PageId) (from : FileAt) : Type 0 where
  pub page_is : d.page ≡ page
  pub pages_are : d.pages ≡ from.pages
  pub size_is : d.size ≡ from.size
  pub zeros : (p : ℕ) → p + 32 < 256 * d.pages → file_byte image d.page.0 None p ≡ 0

-- bytes of a file, from one on, were programmed into an extent, at their place
pub record IsPartCopied (old new : List ℕ) (from : FileAt) (page at n : ℕ) : Type 0 where
  pub bytes : List ℕ
  pub long : length bytes ≡ n
  pub read : (k : ℕ) → k < n → slice_index bytes k ≡ file_byte old from.page.0 from.log (at + k)
  pub is : new ≡ or_at old (256 * page + 32 + at) bytes

-- a file that is listed in an image has a log
pub record IsOwner (image : List ℕ) (log : PageId) (e : FileAt) : Type 0 where
  pub there : Contains (listed image) e
  pub logged : e.log ≡ Some log
