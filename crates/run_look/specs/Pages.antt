-- How the pages of a flash are used.
use Rattle.std.specs.Prelude.{◌≡◌, ℕ, ◌+◌, Bool, false, ◌&&◌, ◌||◌, not, ◌==◌, List, if◌then◌else◌}
use Rattle.std.specs.List.{filter}
use Rattle.coffee_layout.specs.Units.{is_active, is_free, size_of, total}
use Rattle.coffee_layout.specs.declared.unit.Unit.{Unit}
use Rattle.coffee_layout.specs.declared.unit.Unit.TheVariants.{Free, Isolated, Extent}
use Rattle.run_look.specs.declared.pages.PageCounts.{PageCounts}

-- a file, with a log or without, or one under construction
abbrev pub holds_file : Unit → Bool
holds_file Free = false
holds_file Isolated = false
holds_file (Extent h) = h.flags == 2 || h.flags == 3 || h.flags == 11

abbrev pub holds_log : Unit → Bool
holds_log Free = false
holds_log Isolated = false
holds_log (Extent h) = h.flags == 19

-- in use by nothing: it is there until its sectors are collected
abbrev pub is_old : Unit → Bool
is_old u = not (is_free u) && not (is_active u)

-- how many pages are free, of files, of logs, and of what is to be collected
abbrev pub page_counts : List Unit → PageCounts
page_counts us = record {
  free = total (filter is_free us);
  files = total (filter holds_file us);
  logs = total (filter holds_log us);
  old = total (filter is_old us);
}

-- all of them
abbrev pub all_pages : PageCounts → ℕ
all_pages counts = counts.free + counts.files + counts.logs + counts.old

-- the pages of a unit that passes a test
abbrev pub pages_if : (Unit → Bool) → Unit → ℕ
pages_if test u = if test u then size_of u else 0

-- these and the pages of one unit more
pub record CountsMore (old new : PageCounts) (u : Unit) : Type 0 where
  pub free : new.free ≡ old.free + pages_if is_free u
  pub files : new.files ≡ old.files + pages_if holds_file u
  pub logs : new.logs ≡ old.logs + pages_if holds_log u
  pub old_ones : new.old ≡ old.old + pages_if is_old u
  pub all : all_pages new ≡ all_pages old + size_of u
