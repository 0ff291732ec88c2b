-- Which pages a new extent or log takes, and which pages of the flash stay as they were.
use Rattle.std.specs.Prelude.{◌≡◌, ℕ, ◌<◌, false, List, Option}
use Rattle.afl_base.specs.Image.{page_bytes}
use Rattle.coffee_layout.specs.Marks.{IsLowestRun, IsRun, NoRun, free_pages}
use Rattle.coffee_layout.specs.Tiling.{nowhere, units_of}
use Rattle.coffee_layout.specs.declared.file.FileAt.{FileAt}
use Rattle.coffee_space.specs.Collection.{IsCollected}
use Rattle.flash_range.specs.Range.{Outside}
use Rattle.coffee_merge.specs.Holding.{has_extent_at, is_free_at}

-- all pages stay but these, and the first ones of the extent and of the log of a file
abbrev pub KeepsPagesBut : (old new : List ℕ) → (page pages : ℕ) → Option FileAt → Type 0
KeepsPagesBut old new page pages file = (p : ℕ) → Outside page pages p → has_extent_at p file ≡ false → page_bytes new p ≡ page_bytes old p

-- the same pages are free
abbrev pub KeepsFree : (old new : List ℕ) → Type 0
KeepsFree old new = (p : ℕ) → is_free_at new p ≡ is_free_at old p

-- pages are looked for in the image as it was, where this many are free in a row, else in the collected one
pub record LooksIn (old image : List ℕ) (pages : ℕ) : Type 0 where
  pub same : (free : ℕ) → IsRun (free_pages (units_of old)) free pages → image ≡ old
  pub collected : NoRun (free_pages (units_of old)) pages → IsCollected nowhere old image (units_of old)

-- this many pages from a page on are taken: the first free ones in a row, before the call or after a
-- collection that was needed, and at return no such row is free before them; but for these pages, and the
-- headers of a file and its log, nothing else has changed
pub record Takes (old new : List ℕ) (page pages : ℕ) (file : Option FileAt) : Type 0 where
  pub image : List ℕ
  pub found : LooksIn old image pages
  pub run : IsLowestRun (free_pages (units_of image)) pages page
  pub others : KeepsPagesBut image new page pages file
  pub lowest : (earlier : ℕ) → earlier < page → IsRun (free_pages (units_of new)) earlier pages → ⊥
