-- What the calls that ask for pages leave: what was done with them, or that there were none.
use Rattle.std.specs.Prelude.{ℕ, List, None, Some}
use Rattle.afl_base.specs.declared.ids.PageId.{PageId}
use Rattle.coffee_layout.specs.Marks.{IsCramped, IsLowestRun, free_pages}
use Rattle.coffee_layout.specs.Tiling.{units_of}
use Rattle.coffee_layout.specs.declared.file.FileAt.{FileAt}
use Rattle.coffee_merge.specs.Holding.{BeginsExtent, Copies, Entries, Logs, Moves, Stays, TakesOnly}
use Rattle.coffee_merge.specs.Takes.{KeepsFree, LooksIn, Takes}

-- no space for this many pages was found, and all is left: the files are held as they were, no free page
-- is taken, no such run is free even after a collection, and a further one would take no sector
pub record LeavesAll (old new : List ℕ) (table : Entries) (need : ℕ) : Type 0 where
  pub stays : Stays old new table
  pub untaken : TakesOnly old new 0 0
  pub looked : LooksIn old new need
  pub cramped : IsCramped (units_of new) need

-- the files are held as they were, no free page is taken, and the lowest run of this many free pages
-- begins at a page
pub record IsObtained (old new : List ℕ) (table : Entries) (pages page : ℕ) : Type 0 where
  pub stays : Stays old new table
  pub untaken : TakesOnly old new 0 0
  pub looked : LooksIn old new pages
  pub run : IsLowestRun (free_pages (units_of new)) pages page

-- a file is under construction in the lowest run of free pages, and takes no others
pub record BeginsFile (old new : List ℕ) (table : Entries) (d : FileAt) : Type 0 where
  pub begins : BeginsExtent old new table d
  pub taken : TakesOnly old new d.page.0 d.pages
  pub lowest : Takes old new d.page.0 d.pages None

-- the file under construction has the bytes of a file, and the same pages are free
pub record CopiesFile (old new : List ℕ) (table : Entries) (d from : FileAt) : Type 0 where
  pub copies : Copies old new table d from from.size
  pub free : KeepsFree old new

-- a file has moved into the lowest run of free pages, and takes no others
pub record MovesFile (old new : List ℕ) (table : Entries) (i : ℕ) (from to : FileAt) : Type 0 where
  pub moves : Moves old new table i from to
  pub taken : TakesOnly old new to.page.0 to.pages
  pub lowest : Takes old new to.page.0 to.pages (Some from)

-- a file has an empty log in the lowest run of 16 free pages, and takes no others
pub record LogsFile (old new : List ℕ) (table : Entries) (i : ℕ) (e : FileAt) (log : PageId) : Type 0 where
  pub logs : Logs old new table i e log
  pub taken : TakesOnly old new log.0 16
  pub lowest : Takes old new log.0 16 (Some e)
