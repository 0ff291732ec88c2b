-- Taking: which pages that were free a call of `Volume` may leave in use.
use Rattle.std.specs.Prelude.{◌≡◌, ◌⊎◌, ℕ, ◌+◌, ◌<◌, ◌≤◌, true, false, List, Some, None}
use Rattle.afl_base.specs.Sparing.{TakesNoPage}
use Rattle.afl_base.specs.declared.ids.PageId.{PageId}
use Rattle.coffee_layout.specs.Tiling.{units_of}
use Rattle.coffee_layout.specs.declared.file.FileAt.{FileAt}
use Rattle.coffee_merge.specs.Begun.{active_at}
use Rattle.coffee_merge.specs.Holding.{IsStored, draft_header, file_header, is_free_at, log_header}

-- a file of this name is active in an image, and so is its log; it has just the bytes and the records in
-- use that the image holds
pub record IsFileOf (image given : List ℕ) (e : FileAt) : Type 0 where
  pub name : e.name ≡ given
  pub active : active_at (units_of image) e.page.0 ≡ Some (file_header e)
  pub logged : (l : PageId) → e.log ≡ Some l → active_at (units_of image) l.0 ≡ Some (log_header e.name)
  pub stored : IsStored image e

-- a file of this name is under construction
pub record IsDraftOf (image given : List ℕ) (d : FileAt) : Type 0 where
  pub name : d.name ≡ given
  pub begun : active_at (units_of image) d.page.0 ≡ Some (draft_header d)
  pub no_log : d.log ≡ None

-- a page lies in the extent of a file, or in its log
abbrev pub LiesIn : FileAt → ℕ → Type 0
LiesIn e p = ((e.page.0 ≤ p) × (p < e.page.0 + e.pages)) ⊎ ((l : PageId) × (e.log ≡ Some l) × (l.0 ≤ p) × (p < l.0 + 16))

-- a page that was free and is not lies in the extent or in the log of the file of this name
abbrev pub TakesForFile : (given old new : List ℕ) → Type 0
TakesForFile given old new = (p : ℕ) → is_free_at old p ≡ true → is_free_at new p ≡ false → (e : FileAt) × IsFileOf new given e × LiesIn e p

-- a page that was free and is not lies in the draft, which has this name
abbrev pub TakesForDraft : (given old new : List ℕ) → Type 0
TakesForDraft given old new = (p : ℕ) → is_free_at old p ≡ true → is_free_at new p ≡ false → (d : FileAt) × IsDraftOf new given d × LiesIn d p

-- each page that was free is free
abbrev pub TakesNone : (old new : List ℕ) → Type 0
TakesNone old new = TakesNoPage is_free_at old new

-- of the pages that were free, only those of a file and of its log may be in use now
abbrev pub TakesWithin : FileAt → (old new : List ℕ) → Type 0
TakesWithin e old new = (p : ℕ) → is_free_at old p ≡ true → is_free_at new p ≡ false → LiesIn e p

-- all units stay, and so does each free page
abbrev pub KeepsUnits : (old new : List ℕ) → Type 0
KeepsUnits old new = units_of new ≡ units_of old
