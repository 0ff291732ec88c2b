-- HoldsTable: a table of files, in any order, and a draft say just which extents of an image are active,
-- and what these hold.
use Rattle.std.specs.Prelude.{◌≡◌, ◌≢◌, ℕ, ◌+◌, ◌-◌, ◌*◌, ◌<◌, ◌≤◌, Bool, true, false, ◌&&◌, ◌||◌, ◌==◌, nat_le, List, length, get_or, set, slice_index_or, Option, Some, None}
use Rattle.std.specs.List.{list_any}
use Rattle.afl_base.specs.declared.ids.PageId.{PageId}
use Rattle.afl_base.specs.declared.kind.Kind.{Kind}
use Rattle.afl_base.specs.declared.kind.Kind.TheVariants.{Doubling, Fixed}
use Rattle.coffee_header.specs.declared.header.Header.{Header}
use Rattle.coffee_layout.specs.FileBytes.{file_byte}
use Rattle.coffee_layout.specs.Files.{FitsIn}
use Rattle.coffee_layout.specs.Marks.{free_pages}
use Rattle.coffee_layout.specs.Rules.{is_doubling}
use Rattle.coffee_layout.specs.Tiling.{broken_tiling, nowhere, units_of}
use Rattle.coffee_layout.specs.Units.{pages_of}
use Rattle.coffee_layout.specs.Walks.{is_its_log}
use Rattle.coffee_layout.specs.declared.file.FileAt.{FileAt}
use Rattle.coffee_log.specs.FileChanges.{IsFile, Puts}
use Rattle.flash_range.specs.Range.{Outside}
use Rattle.coffee_merge.specs.Begun.{active_at}

-- files in the places of a table
abbrev pub Entries : Type 0
Entries = List (Option FileAt)

-- a file stands in a place
abbrev pub IsIn : Entries → ℕ → FileAt → Type 0
IsIn table i e = get_or table i None ≡ Some e

-- HEADERS

-- the number of a log's page in the header of its file
abbrev pub log_number : Option PageId → ℕ
log_number None = 0
log_number (Some log) = log.0 + 1

-- the number of a kind in a header
abbrev pub kind_number : Kind → ℕ
kind_number Doubling = 0
kind_number (Fixed n) = 1

abbrev pub file_flags : Option PageId → ℕ
file_flags None = 3
file_flags (Some log) = 11

-- the header of a file that has these flags
abbrev pub header_with : FileAt → ℕ → Header
header_with e flags = record {
  log_page = log_number e.log;
  log_records = 30;
  log_record_size = 128;
  max_pages = e.pages;
  kind = kind_number e.kind;
  flags = flags;
  name = e.name;
}

-- the header of an active file
abbrev pub file_header : FileAt → Header
file_header e = header_with e (file_flags e.log)

-- the header of a file under construction
abbrev pub draft_header : FileAt → Header
draft_header e = header_with e 2

-- the header of the log of a file of this name
abbrev pub log_header : List ℕ → Header
log_header name = record { log_page = 0; log_records = 0; log_record_size = 0; max_pages = 16; kind = 1; flags = 19; name = name }

-- A TABLE AND AN IMAGE

-- the pages that a file of a kind may have
abbrev pub has_shape : Kind → ℕ → Bool
has_shape Doubling pages = is_doubling pages
has_shape (Fixed n) pages = n == pages && nat_le 1 n && nat_le n 15

-- an extent may be under construction where the draft stands
abbrev pub building_of : Option FileAt → ℕ → Bool
building_of None = nowhere
building_of (Some d) = λ page. d.page.0 == page

-- the extent or the log of a file begins at a page
abbrev pub has_extent_at : ℕ → Option FileAt → Bool
has_extent_at page None = false
has_extent_at page (Some e) = e.page.0 == page || is_its_log page e.log

-- one of the files, or the draft, has an extent there
abbrev pub is_held : Entries → Option FileAt → ℕ → Bool
is_held table draft page = list_any (has_extent_at page) table || has_extent_at page draft

-- a file lies inside the flash, its log is well formed, and its size is the place after its last
-- byte that is not zero
pub record IsStored (image : List ℕ) (e : FileAt) : Type 0 where
  pub fits : FitsIn (pages_of image) e
  pub shape : has_shape e.kind e.pages ≡ true
  pub file : IsFile image e.page.0 e.pages e.log e.used e.size
  pub last : 1 ≤ e.size → file_byte image e.page.0 e.log (e.size - 1) ≢ 0

-- a file under construction has no log, and no byte but 0 from its size on
pub record IsDrafted (image : List ℕ) (d : FileAt) : Type 0 where
  pub fits : FitsIn (pages_of image) d
  pub shape : has_shape d.kind d.pages ≡ true
  pub file : IsFile image d.page.0 d.pages None 0 d.size
  pub no_log : d.log ≡ None

-- the active extents of an image are those of the files in the table, of their logs, and of the draft
pub record HoldsTable (image : List ℕ) (table : Entries) (draft : Option FileAt) : Type 0 where
  pub whole : 256 * pages_of image ≡ length image
  pub tiled : broken_tiling (building_of draft) image ≡ None
  pub files : (i : ℕ) (e : FileAt) → IsIn table i e → active_at (units_of image) e.page.0 ≡ Some (file_header e)
  pub logs : (i : ℕ) (e : FileAt) (l : PageId) → IsIn table i e → e.log ≡ Some l → active_at (units_of image) l.0 ≡ Some (log_header e.name)
  pub begun : (d : FileAt) → draft ≡ Some d → active_at (units_of image) d.page.0 ≡ Some (draft_header d)
  pub only : (page : ℕ) (h : Header) → active_at (units_of image) page ≡ Some h → is_held table draft page ≡ true
  pub names : (i j : ℕ) (e d : FileAt) → IsIn table i e → IsIn table j d → e.name ≡ d.name → i ≡ j
  pub stored : (i : ℕ) (e : FileAt) → IsIn table i e → IsStored image e
  pub drafted : (d : FileAt) → draft ≡ Some d → IsDrafted image d

-- CHANGES

-- an extent without a log
abbrev pub extent_of : List ℕ → Kind → (page pages size : ℕ) → FileAt
extent_of name kind page pages size = record { name = name; kind = kind; page = record { 0 = page }; pages = pages; size = size; log = None; used = 0 }

-- a file has the content that it had
abbrev pub KeepsContent : (old new : List ℕ) → FileAt → Type 0
KeepsContent old new e = (p : ℕ) → p + 32 < 256 * e.pages → file_byte new e.page.0 e.log p ≡ file_byte old e.page.0 e.log p

-- and so has each file of the table
abbrev pub KeepsContents : (old new : List ℕ) → Entries → Type 0
KeepsContents old new table = (i : ℕ) (e : FileAt) → IsIn table i e → KeepsContent old new e

-- and each but that in a place
abbrev pub KeepsOthers : (old new : List ℕ) → Entries → ℕ → Type 0
KeepsOthers old new table i = (k : ℕ) (e : FileAt) → k ≢ i → IsIn table k e → KeepsContent old new e

-- the files are held as they were, and have their content
pub record Stays (old new : List ℕ) (table : Entries) : Type 0 where
  pub holds : HoldsTable new table None
  pub kept : KeepsContents old new table

-- a file is under construction, and has no byte but 0 yet; all files have their content
pub record BeginsExtent (old new : List ℕ) (table : Entries) (d : FileAt) : Type 0 where
  pub holds : HoldsTable new table (Some d)
  pub zeros : (p : ℕ) → p + 32 < 256 * d.pages → file_byte new d.page.0 None p ≡ 0
  pub kept : KeepsContents old new table

-- the file under construction has bytes from a place on; all files have their content
pub record Writes (old new : List ℕ) (table : Entries) (d : FileAt) (at : ℕ) (bytes : List ℕ) : Type 0 where
  pub holds : HoldsTable new table (Some d)
  pub put : Puts (file_byte old d.page.0 None) (file_byte new d.page.0 None) (256 * d.pages - 32) at bytes
  pub kept : KeepsContents old new table

-- the file under construction has the first n bytes of a file; all files have their content
pub record Copies (old new : List ℕ) (table : Entries) (d from : FileAt) (n : ℕ) : Type 0 where
  pub holds : HoldsTable new table (Some d)
  pub same : (p : ℕ) → p < n → file_byte new d.page.0 None p ≡ file_byte old from.page.0 from.log p
  pub zeros : (p : ℕ) → n ≤ p → p + 32 < 256 * d.pages → file_byte new d.page.0 None p ≡ 0
  pub kept : KeepsContents old new table

-- a place of the table has an entry, or none, in place of what it had; all other files have their content
pub record Sets (old new : List ℕ) (table : Entries) (i : ℕ) (now : Option FileAt) : Type 0 where
  pub holds : HoldsTable new (set table i now) None
  pub others : KeepsOthers old new table i

-- a file has moved into another extent, with its bytes
pub record Moves (old new : List ℕ) (table : Entries) (i : ℕ) (from to : FileAt) : Type 0 where
  pub sets : Sets old new table i (Some to)
  pub same : (p : ℕ) → p < from.size → file_byte new to.page.0 to.log p ≡ file_byte old from.page.0 from.log p

-- a file under construction has n more bytes of a file, from a place on; all files have their content
pub record CopiesPart (old new : List ℕ) (table : Entries) (d from : FileAt) (at n : ℕ) : Type 0 where
  pub holds : HoldsTable new table (Some d)
  pub same : (p : ℕ) → at ≤ p → p < at + n → file_byte new d.page.0 None p ≡ file_byte old from.page.0 from.log p
  pub others : (p : ℕ) → p + 32 < 256 * d.pages → Outside at n p → file_byte new d.page.0 None p ≡ file_byte old d.page.0 None p
  pub kept : KeepsContents old new table

-- no file of the table has the name
abbrev pub IsNewName : Entries → List ℕ → Type 0
IsNewName table name = (k : ℕ) (e : FileAt) → IsIn table k e → e.name ≢ name

-- the file under construction is the file of a place, with its content; all other files have theirs
pub record CommitsExtent (old new : List ℕ) (table : Entries) (i : ℕ) (d : FileAt) : Type 0 where
  pub sets : Sets old new table i (Some (record d { used = 0 }))
  pub content : (p : ℕ) → p + 32 < 256 * d.pages → file_byte new d.page.0 None p ≡ file_byte old d.page.0 None p

-- a file has an empty log at a page, and its content; all other files have theirs
pub record Logs (old new : List ℕ) (table : Entries) (i : ℕ) (e : FileAt) (log : PageId) : Type 0 where
  pub sets : Sets old new table i (Some (record e { log = Some log }))
  pub content : (p : ℕ) → p + 32 < 256 * e.pages → file_byte new e.page.0 (Some log) p ≡ file_byte old e.page.0 None p

-- FREE PAGES

-- a page is free
abbrev pub is_free_at : List ℕ → ℕ → Bool
is_free_at image page = slice_index_or (free_pages (units_of image)) page false

-- of the pages that were free, only these may be in use now
abbrev pub TakesOnly : (old new : List ℕ) → (page pages : ℕ) → Type 0
TakesOnly old new page pages = (p : ℕ) → is_free_at old p ≡ true → (page ≤ p → p < page + pages → ⊥) → is_free_at new p ≡ true
