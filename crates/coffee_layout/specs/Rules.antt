-- The image rules 5 to 13. Each is tried as a whole, in the order of its places, and the first that
-- is broken counts.
use Rattle.std.specs.Prelude.{ℕ, ◌+◌, ◌-◌, ◌*◌, Bool, true, ◌&&◌, ◌||◌, not, ◌==◌, nat_eq, nat_le, nat_lt, List, [], ◌∷◌, ◌++◌, length, drop, slice_range, Option, Some, None, if◌then◌else◌}
use Rattle.std.specs.List.{list_all, list_any}
use Rattle.std.specs.Option.{option_or}
use Rattle.std.specs.Cmp.Lexicographic.{pointwise}
use Rattle.afl_base.specs.Fit.{fit}
use Rattle.coffee_header.specs.declared.header.Header.{Header}
use Rattle.coffee_layout.specs.FileBytes.{number_in, records, table_of, used_in}
use Rattle.coffee_layout.specs.Files.{Placed, bytes_of, extents, files_in, is_file, is_log, logs_in}
use Rattle.coffee_layout.specs.Tiling.{at_place, broken_tiling, nowhere, units_of}
use Rattle.padded.specs.Zeros.{is_zeros}
use Rattle.coffee_layout.specs.declared.unit.Unit.{Unit}
use Rattle.coffee_layout.specs.declared.unit.BadImage.{BadImage}

-- the page of the first
abbrev pub first_page : List Placed → Option ℕ
first_page [] = None
first_page (e ∷ es) = Some e.page

-- the page of the first that fails a test
abbrev pub first_failing : (Placed → Bool) → List Placed → Option ℕ
first_failing test [] = None
first_failing test (e ∷ es) = if test e then first_failing test es else Some e.page

abbrev pub same_name : List ℕ → List ℕ → Bool
same_name a b = pointwise nat_eq a b

-- the page of the first whose name one before it has, or one of these names
abbrev pub first_repeated : List (List ℕ) → List Placed → Option ℕ
first_repeated names [] = None
first_repeated names (f ∷ fs) = if list_any (λ n. same_name n f.header.name) names then Some f.page else first_repeated (names ++ f.header.name ∷ []) fs

-- the pages of a doubling file
abbrev pub is_doubling : ℕ → Bool
is_doubling pages = pages == 16 || pages == 32 || pages == 64 || pages == 128 || pages == 256 || pages == 512 || pages == 1024 || pages == 2048 || pages == 4096 || pages == 8192 || pages == 16384 || pages == 32768

-- a file has 30 records of 128 bytes; a doubling one has 16, 32, 64 .. pages, a fixed one 1 to 15
abbrev pub has_file_fields : Header → Bool
has_file_fields h = h.log_records == 30 && h.log_record_size == 128 && (if h.kind == 0 then is_doubling h.max_pages else nat_le 1 h.max_pages && nat_le h.max_pages 15)

-- a log has no records and no log, the kind 1 and 16 pages
abbrev pub has_log_fields : Header → Bool
has_log_fields h = h.log_records == 0 && h.log_record_size == 0 && h.log_page == 0 && h.kind == 1 && h.max_pages == 16

-- rule 7, of one extent
abbrev pub has_fields : Placed → Bool
has_fields e = if is_file e then has_file_fields e.header else (if is_log e then has_log_fields e.header else true)

-- an extent is the log that a file names, and has the file's name
abbrev pub is_log_of : Placed → Placed → Bool
is_log_of f l = l.page + 1 == f.header.log_page && same_name l.header.name f.header.name

-- rule 8, of one file: one of flags 3 names no log, one of flags 11 an active log
abbrev pub names_its_log : List Placed → Placed → Bool
names_its_log logs f = if f.header.flags == 3 then f.header.log_page == 0 else list_any (is_log_of f) logs

-- a file names the log at a page
abbrev pub names_log : ℕ → Placed → Bool
names_log page f = f.header.log_page == page + 1

-- rule 10, of one table: no number other than 0 follows a 0
abbrev pub is_front_filled : List ℕ → Bool
is_front_filled table = list_all (λ i. number_in table i == 0) (drop (used_in table) records)

-- rule 11, of one table: each region is below 2p, p being its file's pages, and begins below the file's size
abbrev pub is_region_inside : (pages size number : ℕ) → Bool
is_region_inside pages size number = nat_le number (2 * pages) && nat_lt (128 * (number - 1)) size

abbrev pub has_regions_inside : (pages size : ℕ) → List ℕ → Bool
has_regions_inside pages size table = list_all (λ i. number_in table i == 0 || is_region_inside pages size (number_in table i)) records

-- rule 11, of the log at a page and the file that names it
abbrev pub fits_its_file : List ℕ → List Placed → (page : ℕ) → Bool
fits_its_file image [] page = true
fits_its_file image (f ∷ fs) page = if names_log page f then has_regions_inside f.header.max_pages (length (bytes_of image f)) (table_of image page) else fits_its_file image fs page

-- rule 12, of the log at a page: bytes 92 to 95, and all bytes after the records in use, are zero.
-- Where rule 10 holds, these are the free records and the bytes 3,936 to 4,095.
abbrev pub is_clear : List ℕ → ℕ → Bool
is_clear image page =
    is_zeros (slice_range image (256 * page + 92) (256 * page + 96))
    && is_zeros (slice_range image (256 * page + 96 + 128 * used_in (table_of image page)) (256 * page + 4096))

-- rule 13, of one file: a doubling one has at most twice the pages that its size needs
abbrev pub has_few_pages : List ℕ → Placed → Bool
has_few_pages image f = not (f.header.kind == 0) || nat_le f.header.max_pages (2 * fit (length (bytes_of image f)))

-- the first of some answers
abbrev pub first_some : List (Option BadImage) → Option BadImage
first_some [] = None
first_some (x ∷ xs) = option_or x (first_some xs)

-- the first of the rules 5 to 13 that is broken, and its first place:
-- 5: there are at most 32 active files
-- 6: active files have distinct names
-- 7: active extents have the fields and the pages of their kind
-- 8: a file names an active log of its name, or none, as its flags say
-- 9: each active log is named by an active file
-- 10 to 12: the table of a log is filled from the front, its regions lie in the file, and what is free is zero
-- 13: a doubling file has at most twice the pages that its size needs
abbrev pub broken_files : List ℕ → List Unit → Option BadImage
broken_files image us =
    let files = files_in us in
    let logs = logs_in us in
    first_some (
    at_place 5 (first_page (drop 32 files))
    ∷ at_place 6 (first_repeated [] files)
    ∷ at_place 7 (first_failing has_fields (extents 0 us))
    ∷ at_place 8 (first_failing (names_its_log logs) files)
    ∷ at_place 9 (first_failing (λ l. list_any (names_log l.page) files) logs)
    ∷ at_place 10 (first_failing (λ l. is_front_filled (table_of image l.page)) logs)
    ∷ at_place 11 (first_failing (λ l. fits_its_file image files l.page) logs)
    ∷ at_place 12 (first_failing (λ l. is_clear image l.page) logs)
    ∷ at_place 13 (first_failing (has_few_pages image) files)
    ∷ [])

-- the first broken rule of an image, and its place
unfoldable pub broken_image : List ℕ → Option BadImage
broken_image image = option_or (broken_tiling nowhere image) (broken_files image (units_of image))
