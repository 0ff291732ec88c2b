-- Files: the active extents of an image, and what the files are that they hold.
use Rattle.std.specs.Prelude.{◌≡◌, ◌≤◌, ℕ, ◌+◌, ◌-◌, ◌*◌, Bool, ◌||◌, ◌==◌, List, [], ◌∷◌, length, map, Option, Some, None, if◌then◌else◌}
use Rattle.std.specs.List.{filter}
use Rattle.afl_base.specs.declared.ids.PageId.{PageId}
use Rattle.afl_base.specs.declared.kind.Kind.{Kind}
use Rattle.afl_base.specs.declared.kind.Kind.TheVariants.{Doubling, Fixed}
use Rattle.coffee_header.specs.declared.header.Header.{Header}
use Rattle.coffee_layout.specs.FileBytes.{file_bytes, table_of, used_in}
use Rattle.coffee_layout.specs.Tiling.{units_of}
use Rattle.coffee_layout.specs.declared.unit.Unit.{Unit}
use Rattle.coffee_layout.specs.declared.unit.Unit.TheVariants.{Free, Isolated, Extent}
use Rattle.coffee_layout.specs.declared.file.FileAt.{FileAt}

-- an extent, by its first page and its header
pub record Placed : Type 0 where
  pub page : ℕ
  pub header : Header

-- the extents among the units from a page on, in page order
abbrev pub extents : ℕ → List Unit → List Placed
extents page [] = []
extents page (Free ∷ us) = extents (page + 1) us
extents page (Isolated ∷ us) = extents (page + 1) us
extents page (Extent h ∷ us) = record { page = page; header = h } ∷ extents (page + h.max_pages) us

abbrev pub is_file : Placed → Bool
is_file e = e.header.flags == 3 || e.header.flags == 11

abbrev pub is_log : Placed → Bool
is_log e = e.header.flags == 19

-- the active files, in page order
abbrev pub files_in : List Unit → List Placed
files_in us = filter is_file (extents 0 us)

-- the active logs, in page order
abbrev pub logs_in : List Unit → List Placed
logs_in us = filter is_log (extents 0 us)

-- the first page of a file's log
abbrev pub log_of : Header → Option PageId
log_of h = if h.log_page == 0 then None else Some (record { 0 = h.log_page - 1 })

abbrev pub kind_of : Header → Kind
kind_of h = if h.kind == 0 then Doubling else Fixed h.max_pages

-- the bytes of a file
abbrev pub bytes_of : List ℕ → Placed → List ℕ
bytes_of image f = file_bytes image f.page f.header.max_pages (log_of f.header)

-- the records in use of a log, 0 of none
abbrev pub used_of : List ℕ → Option PageId → ℕ
used_of image None = 0
used_of image (Some log) = used_in (table_of image log.0)

-- the entry of a file, with this size and this many records in use
abbrev pub entry_with : Placed → (size used : ℕ) → FileAt
entry_with f size used = record {
  name = f.header.name;
  kind = kind_of f.header;
  page = record { 0 = f.page };
  pages = f.header.max_pages;
  size = size;
  log = log_of f.header;
  used = used;
}

-- the entry of a file, as it stands in the image
abbrev pub entry_of : List ℕ → Placed → FileAt
entry_of image f = entry_with f (length (bytes_of image f)) (used_of image (log_of f.header))

-- the active files of an image, in page order
abbrev pub listed : List ℕ → List FileAt
listed image = map (entry_of image) (files_in (units_of image))

-- a file as users see it: no page and no log
pub record NamedFile : Type 0 where
  pub name : List ℕ
  pub kind : Kind
  pub bytes : List ℕ

abbrev pub named_file : List ℕ → Placed → NamedFile
named_file image f = record { name = f.header.name; kind = kind_of f.header; bytes = bytes_of image f }

-- the files that an image stands for: one for each name, where rule 6 holds
abbrev pub files_of : List ℕ → List NamedFile
files_of image = map (named_file image) (files_in (units_of image))

-- an entry lies inside a flash of this many pages, with its log
pub record FitsIn (pages : ℕ) (e : FileAt) : Type 0 where
  pub some : 1 ≤ e.pages
  pub placed : e.page.0 + e.pages ≤ pages
  pub size : e.size + 32 ≤ 256 * e.pages
  pub log : (l : PageId) → e.log ≡ Some l → l.0 + 16 ≤ pages
  pub used : e.used ≤ 30
  pub unused : e.log ≡ None → e.used ≡ 0
