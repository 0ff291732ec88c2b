-- A file moves: its bytes are copied into a new extent, which then takes its place.
use Rattle.std.proofs.Common.{◌≡◌, ◌≢◌, ℕ, ◌+◌, ◌-◌, ◌*◌, ◌≤◌, ◌<◌, List, Some, None, refl, sym, ◌∙◌, arith}
use Rattle.afl_base.specs.declared.ids.PageId.{PageId}
use Rattle.coffee_layout.specs.FileBytes.{file_byte}
use Rattle.coffee_layout.specs.declared.file.FileAt.{FileAt}
use Rattle.afl_base.specs.Image.{page_bytes}
use Rattle.coffee_merge.specs.Holding.{CommitsExtent, Entries, HoldsTable, IsIn, extent_of}
use Rattle.coffee_merge.specs.Outcomes.{BeginsFile, CopiesFile, MovesFile}
use Rattle.coffee_merge.specs.Takes.{KeepsFree, KeepsPagesBut}
use Rattle.coffee_merge.proofs.FreeUnits.{frees_free, takes_free}
use Rattle.coffee_merge.proofs.Lowest.{not_extent, not_log, takes_more}
use Rattle.coffee_merge.proofs.Taken.{takes_then}

-- the entry of a file in another extent, with its log put into it
abbrev pub moved_to : FileAt → PageId → (pages : ℕ) → FileAt
moved_to file page pages = record file { page = page; pages = pages; log = None; used = 0 }

-- what a new extent, the copy of the file into it and its commit give together
pub moves_file : (old begun copied new : List ℕ) (file : FileAt) (page : PageId) (pages : ℕ) → file.size + 32 ≤ 256 * pages
    → ((table : Entries) (size : ℕ) → HoldsTable old table None → size + 32 ≤ 256 * pages → BeginsFile old begun table (extent_of file.name file.kind page.0 pages size))
    → ((table : Entries) (d : FileAt) (i : ℕ) → HoldsTable begun table (Some d) → d.page ≡ page → d.pages ≡ pages → d.size ≡ file.size → IsIn table i file → ((p : ℕ) → p + 32 < 256 * pages → file_byte begun page.0 None p ≡ 0) → CopiesFile begun copied table d file)
    → KeepsPagesBut begun copied page.0 pages None
    → ((table : Entries) (d : FileAt) (i : ℕ) → HoldsTable copied table (Some d) → d.page ≡ page → IsIn table i file → file.name ≡ d.name → (1 ≤ d.size → file_byte copied page.0 None (d.size - 1) ≢ 0) → CommitsExtent copied new table i d)
    → ((table : Entries) (d : FileAt) (i : ℕ) → HoldsTable copied table (Some d) → d.page ≡ page → IsIn table i file → KeepsFree copied new)
    → ((p : ℕ) → p ≢ page.0 → p ≢ file.page.0 → ((l : PageId) → file.log ≡ Some l → p ≢ l.0) → page_bytes new p ≡ page_bytes copied p)
    → (table : Entries) (i : ℕ) → HoldsTable old table None → IsIn table i file → MovesFile old new table i file (moved_to file page pages)
moves_file old begun copied new file page pages fits begins copies keeps commits commit_free others table i h is =
    let stored = h.stored i file is in
    let room = stored.fits.size in
    let d : FileAt = extent_of file.name file.kind page.0 pages file.size in
    let b = begins table file.size h fits in
    let c = copies table d i b.begins.holds refl refl refl is (λ p low. b.begins.zeros p low) in
    let m = commits table d i c.copies.holds refl is refl (λ some none. stored.last some (sym (c.copies.same (file.size - 1) (omega arith) ∙ b.begins.kept i file is (file.size - 1) (omega arith)) ∙ none)) in
    let free : KeepsFree begun new = λ p. commit_free table d i c.copies.holds refl is p ∙ c.free p in
    record {
      moves = record {
        sets = record {
          holds = m.sets.holds;
          others = λ k e other there p low. m.sets.others k e other there p low ∙ c.copies.kept k e there p low ∙ b.begins.kept k e there p low;
        };
        same = λ p low. m.content p (omega arith) ∙ c.copies.same p low ∙ b.begins.kept i file is p (omega arith);
      };
      taken = takes_then old begun new page.0 pages b.taken (takes_free begun new free);
      lowest = takes_more old begun new page.0 pages (Some file) b.lowest
          (λ p out apart. others p (λ same. out (omega arith) (omega arith)) (not_extent p file apart) (λ l log. not_log p file l apart log) ∙ keeps p out refl) (frees_free begun new free);
    }
