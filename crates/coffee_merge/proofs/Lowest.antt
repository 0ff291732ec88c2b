-- A new extent or log takes the lowest free pages, and leaves all others as they were.
use Rattle.std.proofs.Common.{◌≡◌, ◌≢◌, ℕ, ◌+◌, ◌*◌, ◌≤◌, ◌<◌, true, false, List, length, Option, None, Some, refl, ap, sym, subst, ◌∙◌, arith}
use Rattle.padded.proofs.Facts.{yes_no}
use Rattle.afl_base.specs.Image.{or_at}
use Rattle.afl_base.specs.Names.{is_file_name}
use Rattle.afl_base.specs.declared.ids.PageId.{PageId}
use Rattle.afl_base.specs.declared.kind.Kind.{Kind}
use Rattle.coffee_header.specs.Headers.{header_bytes}
use Rattle.coffee_layout.specs.FileBytes.{file_byte}
use Rattle.coffee_layout.specs.Marks.{IsLowestRun, free_pages}
use Rattle.coffee_layout.specs.Tiling.{nowhere, units_of}
use Rattle.coffee_layout.specs.Units.{is_free}
use Rattle.coffee_layout.specs.declared.file.FileAt.{FileAt}
use Rattle.coffee_layout.specs.declared.unit.Unit.TheVariants.{Extent}
use Rattle.coffee_layout.proofs.Tilings.{units_tiled}
use Rattle.flash_range.specs.Range.{Outside, PageOutside}
use Rattle.coffee_merge.specs.Begun.{unit_begun}
use Rattle.coffee_merge.specs.Flags.{flagged, obsoleted}
use Rattle.coffee_merge.specs.Holding.{Entries, HoldsTable, IsIn, building_of, draft_header, extent_of, file_header, has_extent_at, is_free_at, log_header}
use Rattle.coffee_merge.specs.Takes.{KeepsFree, KeepsPagesBut, LooksIn, Takes}
use Rattle.coffee_merge.proofs.Begun.{active_begun, begun_marks, have_pages}
use Rattle.coffee_merge.proofs.Commits.{replaced_retires, valid}
use Rattle.coffee_merge.proofs.Contents.{CopiesInto, place_in, write_tiled}
use Rattle.coffee_merge.proofs.Drafting.{draft_begun}
use Rattle.coffee_merge.proofs.FreeUnits.{FreesNone, begun_frees, free_begun, free_by, free_or_extent, free_same, free_unit, frees_then, reflags_frees}
use Rattle.coffee_merge.proofs.Holdings.{extent_here, log_here}
use Rattle.coffee_merge.proofs.Logged.{HasLog}
use Rattle.coffee_merge.proofs.Taken.{commit_takes, replace_takes}

-- WHAT IS TAKEN

-- a page at which neither the extent nor the log of a file begins
pub not_extent : (p : ℕ) (e : FileAt) → has_extent_at p (Some e) ≡ false → p ≢ e.page.0
not_extent p e out same = yes_no (has_extent_at p (Some e)) (extent_here p e (sym same)) out

pub not_log : (p : ℕ) (e : FileAt) (l : PageId) → has_extent_at p (Some e) ≡ false → e.log ≡ Some l → p ≢ l.0
not_log p e l out log same = yes_no (has_extent_at p (Some e)) (log_here p e l log (sym same)) out

-- pages are looked for and taken, and no page becomes free
pub takes_by : (old image new : List ℕ) (page pages : ℕ) (file : Option FileAt) → LooksIn old image pages → IsLowestRun (free_pages (units_of image)) pages page → KeepsPagesBut image new page pages file → FreesNone image new → Takes old new page pages file
takes_by old image new page pages file found run others frees = record {
  image = image;
  found = found;
  run = run;
  others = others;
  lowest = λ earlier low free. run.lowest earlier low (λ i from to. frees i (free i from to));
}

-- and so it is after further changes of these pages and of the headers of a file
pub takes_more : (old mid new : List ℕ) (page pages : ℕ) (file : Option FileAt) → Takes old mid page pages None → KeepsPagesBut mid new page pages file → FreesNone mid new → Takes old new page pages file
takes_more old mid new page pages file first keeps frees = record {
  image = first.image;
  found = first.found;
  run = first.run;
  others = λ p out apart. keeps p out apart ∙ first.others p out refl;
  lowest = λ earlier low free. first.lowest earlier low (λ i from to. frees i (free i from to));
}

pub draft_frees : (old new : List ℕ) (table : Entries) (name : List ℕ) (kind : Kind) (page pages : ℕ) → HoldsTable old table None → IsLowestRun (free_pages (units_of old)) pages page → 1 ≤ pages → pages < 65536 → is_file_name name ≡ true
    → new ≡ or_at old (256 * page) (header_bytes (draft_header (extent_of name kind page pages 0))) → FreesNone old new
draft_frees old new table name kind page pages h low some small good is = begun_frees _ old new page (draft_header (extent_of name kind page pages 0)) (draft_begun old new table name kind page pages 0 h low some small good is)

pub log_frees : (old new : List ℕ) (e : FileAt) (log : PageId) → HasLog old new (units_of old) e log → FreesNone old new
log_frees old new e log has = λ p free.
    let begun = free_unit (units_of new) p (have_pages nowhere new (units_of new) has.tiled) free in
    let file : FileAt = record e { log = Some log } in
    let named = (active_begun (units_of new) e.page.0 (file_header file) has.file_at).0 in
    let unit = (active_begun (units_of new) log.0 (log_header e.name) has.log_at).0 in
    let apart : p ≢ e.page.0 = λ same. free_or_extent (file_header file) (unit_begun (units_of new) 0 p) begun (ap (unit_begun (units_of new) 0) same ∙ named) in
    free_begun (units_of old) p (sym (has.units p apart (λ low high. yes_no (is_free_at new p) free (begun_marks is_free (units_of new) log.0 (Extent (log_header e.name)) p unit low high))) ∙ begun)

-- WHAT STAYS FREE

commit_frees : (old : List ℕ) (table : Entries) (d : FileAt) (page : PageId) → HoldsTable old table (Some d) → d.page ≡ page → FreesNone old (flagged old page.0 1)
commit_frees old table d page h place =
    subst (λ (p : PageId). FreesNone old (flagged old p.0 1)) place (reflags_frees nowhere old (flagged old d.page.0 1) d.page.0 _ (valid old table d h))

pub commit_free : (old : List ℕ) (table : Entries) (d : FileAt) (page : PageId) → HoldsTable old table (Some d) → d.page ≡ page → KeepsFree old (flagged old page.0 1)
commit_free old table d page h place = free_by old (flagged old page.0 1) (commit_takes old table d page h place) (commit_frees old table d page h place)

pub replace_free : (old : List ℕ) (table : Entries) (d e : FileAt) (i : ℕ) (page : PageId) → HoldsTable old table (Some d) → d.page ≡ page → IsIn table i e → KeepsFree old (obsoleted (flagged old page.0 1) e.page.0 e.log)
replace_free old table d e i page h place is =
    free_by old (obsoleted (flagged old page.0 1) e.page.0 e.log) (replace_takes old table d e i page h place is)
    (subst (λ (p : PageId). FreesNone old (obsoleted (flagged old p.0 1) e.page.0 e.log)) place
    (frees_then old (flagged old d.page.0 1) (obsoleted (flagged old d.page.0 1) e.page.0 e.log) (commit_frees old table d d.page h refl) (replaced_retires old table d e i h is).frees))

-- a place and a page may be named otherwise
pub write_free : (old new : List ℕ) (page : PageId) (pages place at : ℕ) (bytes : List ℕ) → place ≡ 256 * page.0 + 32 + at → new ≡ or_at old place bytes → at + length bytes + 32 ≤ 256 * pages
    → (table : Entries) (d : FileAt) → HoldsTable old table (Some d) → d.page ≡ page → d.pages ≡ pages → KeepsFree old new
write_free old new page pages place at bytes there is fits table d h same_page same_pages =
    let here : place ≡ place_in d at = there ∙ ap (λ (q : PageId). 256 * q.0 + 32 + at) (sym same_page) in
    let inside : at + length bytes + 32 ≤ 256 * d.pages = omega arith in
    subst (λ image. KeepsFree old image) (sym (is ∙ ap (λ k. or_at old k bytes) here))
    (free_same old (or_at old (place_in d at) bytes) (units_tiled (building_of (Some d)) (or_at old (place_in d at) bytes) (units_of old) (write_tiled old table d at bytes h inside)))

-- a range inside an extent touches its pages alone
pub range_inside : (page pages place at n p : ℕ) → place ≡ 256 * page + 32 + at → at + n + 32 ≤ 256 * pages → Outside page pages p → PageOutside place n p
range_inside page pages place at n p there fits out = λ from to. out (omega arith) (omega arith)

-- behind a copy of so many bytes the same pages are free
abbrev pub CopyKeepsFree : (old new : List ℕ) → PageId → (pages : ℕ) → FileAt → Type 0
CopyKeepsFree old new page pages from =
    (table : Entries) (d : FileAt) (i : ℕ) → HoldsTable old table (Some d) → d.page ≡ page → d.pages ≡ pages → d.size ≡ from.size → IsIn table i from → ((p : ℕ) → p + 32 < 256 * pages → file_byte old page.0 None p ≡ 0) → KeepsFree old new

pub copy_free : (old mid new : List ℕ) (page : PageId) (pages : ℕ) (from : FileAt) (done : ℕ) → CopiesInto old mid page pages from done → CopyKeepsFree old mid page pages from
    → ((table : Entries) (d : FileAt) → HoldsTable mid table (Some d) → d.page ≡ page → d.pages ≡ pages → KeepsFree mid new) → CopyKeepsFree old new page pages from
copy_free old mid new page pages from done copies free part = λ table d i h same_page same_pages same_size is zeros p.
    part table d (copies table d i h same_page same_pages same_size is zeros).holds same_page same_pages p ∙ free table d i h same_page same_pages same_size is zeros p
