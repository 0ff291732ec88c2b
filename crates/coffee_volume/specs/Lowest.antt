-- Lowest: which pages a new file, a draft, and the extents and logs that `prepare` asks for lie in. They
-- are always the lowest that were free in a row, of the flash as it was, or, where there were none, of
-- the flash after a collection.
use Rattle.std.specs.Prelude.{◌≡◌, ◌⊎◌, ℕ, List, Option, Some, None, if◌then◌else◌}
use Rattle.afl_base.specs.declared.ids.PageId.{PageId}
use Rattle.coffee_layout.specs.declared.file.FileAt.{FileAt}
use Rattle.coffee_merge.specs.Holding.{Entries, Moves}
use Rattle.coffee_merge.specs.Takes.{LooksIn, Takes}
use Rattle.coffee_volume.specs.Rooms.{lacks_log, records_needed}
use Rattle.coffee_volume.specs.Steps.{IsAfter, need_of, step_for}
use Rattle.coffee_volume.specs.Taking.{IsDraftOf, IsFileOf, TakesWithin}
use Rattle.coffee_volume.specs.declared.step.Step.{Step}
use Rattle.coffee_volume.specs.declared.step.Step.TheVariants.{Grow, Merge, Log}

-- this many pages were looked for in the flash as it was, or, where there were none, after a collection
abbrev pub Looks : (pages : ℕ) (old new : List ℕ) → Type 0
Looks pages old new = LooksIn old new pages

-- the file of this name lies in this many pages, the lowest ones
pub record PlacesFile (given : List ℕ) (pages : ℕ) (old new : List ℕ) : Type 0 where
  pub file : FileAt
  pub is : IsFileOf new given file
  pub many : file.pages ≡ pages
  pub takes : Takes old new file.page.0 pages None

-- the draft of this name does
pub record PlacesDraft (given : List ℕ) (pages : ℕ) (old new : List ℕ) : Type 0 where
  pub draft : FileAt
  pub is : IsDraftOf new given draft
  pub many : draft.pages ≡ pages
  pub takes : Takes old new draft.page.0 pages None

-- the first page of a log
abbrev pub log_page : Option PageId → ℕ
log_page None = 0
log_page (Some l) = l.0

-- the first of the pages that a file has after a step, and how many they are
abbrev pub page_taken : Step → FileAt → ℕ
page_taken Grow to = to.page.0
page_taken Merge to = to.page.0
page_taken Log to = log_page to.log

abbrev pub pages_taken : Step → FileAt → ℕ
pages_taken Grow to = to.pages
pages_taken Merge to = to.pages
pages_taken Log to = 16

-- a step moves a file into the lowest pages; of those that were free it takes no others
pub record TakesStep (step : Step) (old new : List ℕ) (table : Entries) (i : ℕ) (from to : FileAt) : Type 0 where
  pub moves : Moves old new table i from to
  pub taken : TakesWithin to old new
  pub lowest : Takes old new (page_taken step to) (pages_taken step to) (Some from)

-- a step with a file, if there is one, puts it into the lowest pages
abbrev pub StepsTo : Option Step → (old new : List ℕ) → (from to : FileAt) → Type 0
StepsTo None old new from to = (new ≡ old) × (to ≡ from)
StepsTo (Some step) old new from to = IsAfter step from to × Takes old new (page_taken step to) (pages_taken step to) (Some from)

-- a log is begun where records are needed and there is no log
abbrev pub log_for : FileAt → (overwrites bytes : ℕ) → Option Step
log_for e overwrites bytes = if lacks_log e.log (records_needed e.log overwrites bytes) then Some Log else None

-- What `prepare` does for the file of this name: it is grown to twice its pages where the bytes do not fit,
-- or else put together with its log where that is full, and then gets a log where it needs one; and no
-- more than that.
pub record Provides (given : List ℕ) (overwrites bytes : ℕ) (old new : List ℕ) : Type 0 where
  pub middle : List ℕ
  pub from : FileAt
  pub between : FileAt
  pub to : FileAt
  pub was : IsFileOf old given from
  pub first : StepsTo (step_for from overwrites bytes) old middle from between
  pub stands : IsFileOf middle given between
  pub last : StepsTo (log_for between overwrites bytes) middle new between to
  pub is : IsFileOf new given to

-- the pages that a step with a file asks for were looked for; there is such a step
abbrev pub LooksFor : Option Step → FileAt → (need : ℕ) (old new : List ℕ) → Type 0
LooksFor None e need old new = ⊥
LooksFor (Some step) e need old new = (need ≡ need_of step e) × LooksIn old new need

-- the file of this name needs its first step, and the pages of that were looked for in the flash as it was
pub record StopsAtFirst (given : List ℕ) (overwrites bytes need : ℕ) (old new : List ℕ) : Type 0 where
  pub from : FileAt
  pub was : IsFileOf old given from
  pub looks : LooksFor (step_for from overwrites bytes) from need old new

-- its first step, if it needs one, was taken, and the pages of the log that it needs were looked for in
-- what that left
pub record StopsAtLog (given : List ℕ) (overwrites bytes need : ℕ) (old new : List ℕ) : Type 0 where
  pub middle : List ℕ
  pub from : FileAt
  pub between : FileAt
  pub was : IsFileOf old given from
  pub first : StepsTo (step_for from overwrites bytes) old middle from between
  pub stands : IsFileOf middle given between
  pub looks : LooksFor (log_for between overwrites bytes) between need middle new

-- where `prepare` stops that finds no pages
abbrev pub Stops : (given : List ℕ) (overwrites bytes need : ℕ) (old new : List ℕ) → Type 0
Stops given overwrites bytes need old new = StopsAtFirst given overwrites bytes need old new ⊎ StopsAtLog given overwrites bytes need old new
