-- What the steps of the judge answer, in the words of the units and the files.
use Rattle.std.specs.Prelude.{◌≡◌, ⊤, ℕ, ◌+◌, ◌-◌, ◌*◌, ◌≤◌, Bool, true, false, nat_le, not, ◌&&◌, ◌||◌, ◌==◌, List, [], ◌∷◌, map, take, drop, Option, Some, None, if◌then◌else◌}
use Rattle.std.specs.List.{filter, list_any}
use Rattle.std.specs.Option.{option_map}
use Rattle.afl_base.specs.declared.ids.PageId.{PageId}
use Rattle.afl_base.specs.Fit.{fit}
use Rattle.afl_base.specs.declared.kind.Kind.{Kind}
use Rattle.afl_base.specs.declared.kind.Kind.TheVariants.{Doubling, Fixed}
use Rattle.coffee_layout.specs.FileBytes.{IsEnd, file_byte, table_of}
use Rattle.coffee_layout.specs.Files.{Placed, entry_of, entry_with, extents, files_in, is_file, is_log, log_of, logs_in, used_of}
use Rattle.coffee_layout.specs.Rules.{first_failing, first_page, first_repeated, fits_its_file, has_few_pages, has_fields, has_regions_inside, is_clear, is_front_filled, names_its_log, names_log, same_name}
use Rattle.coffee_layout.specs.Tiling.{at_place}
use Rattle.coffee_layout.specs.Units.{pages_of, size_of}
use Rattle.coffee_layout.specs.declared.unit.Unit.{Unit}
use Rattle.coffee_layout.specs.declared.unit.Unit.TheVariants.{Free, Isolated, Extent}
use Rattle.coffee_layout.specs.declared.unit.BadImage.{BadImage}
use Rattle.coffee_layout.specs.declared.file.FileAt.{FileAt}
use Rattle.coffee_layout.specs.declared.extents.ExtentRule.{ExtentRule}
use Rattle.coffee_layout.specs.declared.extents.ExtentRule.TheVariants.{Fields, Named, Filled, Inside, Clear}

-- the unit has a page, and ends inside the flash
abbrev pub IsInside : (pages page : ℕ) → Unit → Type 0
IsInside pages page u = (1 ≤ size_of u) × (page + size_of u ≤ pages)

-- the extent of a file has a page, and lies inside the flash
abbrev pub IsPlaced : (pages : ℕ) → FileAt → Type 0
IsPlaced pages e = (1 ≤ e.pages) × (e.page.0 + e.pages ≤ pages)

abbrev pub page_id : ℕ → PageId
page_id page = record { 0 = page }

-- the active file that a unit is, if it is one
abbrev pub files_of_unit : ℕ → Unit → List Placed
files_of_unit page u = filter is_file (extents page (u ∷ []))

-- the entries of the first 32 files, not yet measured, and the page of the 33rd
pub record IsSketched (entries : List FileAt) (extra : Option PageId) (files : List Placed) : Type 0 where
  pub first : entries ≡ map (λ f. entry_with f 0 0) (take 32 files)
  pub more : extra ≡ option_map page_id (first_page (drop 32 files))

-- the log of a file is the one at a page
abbrev pub is_its_log : ℕ → Option PageId → Bool
is_its_log page None = false
is_its_log page (Some log) = log.0 == page

-- rule 11, of the table of the log at a page and the entries of the files
abbrev pub fits_entry : ℕ → List ℕ → List FileAt → Bool
fits_entry page table [] = true
fits_entry page table (f ∷ fs) = if is_its_log page f.log then has_regions_inside f.pages f.size table else fits_entry page table fs

-- an extent begins at a page, and has a name
abbrev pub is_log_at : ℕ → List ℕ → Placed → Bool
is_log_at log name l = l.page == log && same_name l.header.name name

-- the rules that are judged at each extent, one walk over the units for each
abbrev pub keeps_rule : ExtentRule → (image : List ℕ) → (files : List Placed) → Placed → Bool
keeps_rule Fields image files e = has_fields e
keeps_rule Named image files e = not (is_log e) || list_any (names_log e.page) files
keeps_rule Filled image files e = not (is_log e) || is_front_filled (table_of image e.page)
keeps_rule Inside image files e = not (is_log e) || fits_its_file image files e.page
keeps_rule Clear image files e = not (is_log e) || is_clear image e.page

-- the entries that a rule looks at: those of the files, measured where it asks for their sizes
abbrev pub HasEntries : ExtentRule → List ℕ → List FileAt → List Placed → Type 0
HasEntries Fields image entries files = ⊤
HasEntries Named image entries files = entries ≡ map (λ f. entry_with f 0 0) files
HasEntries Filled image entries files = ⊤
HasEntries Inside image entries files = entries ≡ map (entry_of image) files
HasEntries Clear image entries files = ⊤

-- whether a unit keeps a rule of extents
abbrev pub keeps_unit : (Placed → Bool) → ℕ → Unit → Bool
keeps_unit test page Free = true
keeps_unit test page Isolated = true
keeps_unit test page (Extent h) = test (record { page = page; header = h })

-- a log lies inside the flash
abbrev pub LogFits : (pages : ℕ) → Option PageId → Type 0
LogFits pages None = ⊤
LogFits pages (Some log) = log.0 + 16 ≤ pages

-- the logs that files name lie inside the flash
abbrev pub LogsFit : (pages : ℕ) → List Placed → Type 0
LogsFit pages [] = ⊤
LogsFit pages (f ∷ fs) = LogFits pages (log_of f.header) × LogsFit pages fs

-- the log, where it lies inside the flash
abbrev pub fitting : (pages : ℕ) → Option PageId → Option PageId
fitting pages None = None
fitting pages (Some log) = if nat_le (log.0 + 16) pages then Some log else None

-- an entry is measured: it has the size of its bytes, and the log where that lies inside the flash
pub record IsMeasured (image : List ℕ) (file measured : FileAt) : Type 0 where
  pub is : measured ≡ record file { size = measured.size; log = measured.log; used = measured.used }
  pub size : IsEnd (file_byte image file.page.0 measured.log) (256 * file.pages - 32) measured.size
  pub log : measured.log ≡ fitting (pages_of image) file.log
  pub used : measured.used ≡ used_of image measured.log

-- rule 13, of an entry
abbrev pub has_few_of : Kind → (pages size : ℕ) → Bool
has_few_of Doubling pages size = nat_le pages (2 * fit size)
has_few_of (Fixed n) pages size = true

abbrev pub has_few : FileAt → Bool
has_few e = has_few_of e.kind e.pages e.size

-- the rules 6 to 10, and the rules 11 to 13, each with its first place
abbrev pub named_rules : List ℕ → List Unit → List (Option BadImage)
named_rules image us =
    at_place 6 (first_repeated [] (files_in us))
    ∷ at_place 7 (first_failing has_fields (extents 0 us))
    ∷ at_place 8 (first_failing (names_its_log (logs_in us)) (files_in us))
    ∷ at_place 9 (first_failing (λ l. list_any (names_log l.page) (files_in us)) (logs_in us))
    ∷ at_place 10 (first_failing (λ l. is_front_filled (table_of image l.page)) (logs_in us))
    ∷ []

abbrev pub measured_rules : List ℕ → List Unit → List (Option BadImage)
measured_rules image us =
    at_place 11 (first_failing (λ l. fits_its_file image (files_in us) l.page) (logs_in us))
    ∷ at_place 12 (first_failing (λ l. is_clear image l.page) (logs_in us))
    ∷ at_place 13 (first_failing (has_few_pages image) (files_in us))
    ∷ []
