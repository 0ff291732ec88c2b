-- The sectors that extents touch, and what the files of a table take by their extents.
use Rattle.std.specs.Prelude.{◌≡◌, ℕ, ◌+◌, ◌/◌, true, List, [], ◌∷◌, Option, Some, None, if◌then◌else◌}
use Rattle.std.specs.List.{list_any}
use Rattle.afl_base.specs.Shares.{file_share}
use Rattle.afl_base.specs.declared.ids.PageId.{PageId}
use Rattle.coffee_header.specs.declared.header.Header.{Header}
use Rattle.coffee_layout.specs.Units.{is_active_flags}
use Rattle.coffee_layout.specs.declared.file.FileAt.{FileAt}
use Rattle.coffee_layout.specs.declared.unit.Unit.{Unit}
use Rattle.coffee_layout.specs.declared.unit.Unit.TheVariants.{Free, Isolated, Extent}
use Rattle.coffee_merge.specs.Begun.{active_at}
use Rattle.coffee_merge.specs.Holding.{Entries, IsIn, file_header, has_extent_at, log_header}

-- the sectors that an extent of so many pages touches at most, wherever it begins
abbrev pub reach : ℕ → ℕ
reach pages = (pages + 14) / 16 + 1

-- what the active extents among some units touch at most, with a gap of so many sectors behind each
abbrev pub spread : (gap : ℕ) → List Unit → ℕ
spread gap [] = 0
spread gap (Free ∷ us) = spread gap us
spread gap (Isolated ∷ us) = spread gap us
spread gap (Extent h ∷ us) = (if is_active_flags h.flags then reach h.max_pages + gap else 0) + spread gap us

-- what a log and its gap take
abbrev pub log_share : ℕ → Option PageId → ℕ
log_share gap None = 0
log_share gap (Some l) = 2 + gap

-- what a file takes with its log, and with a gap behind each of the two
abbrev pub extent_share : ℕ → FileAt → ℕ
extent_share gap e = (reach e.pages + gap) + log_share gap e.log

abbrev pub extent_shares : ℕ → Entries → ℕ
extent_shares gap [] = 0
extent_shares gap (None ∷ table) = extent_shares gap table
extent_shares gap (Some e ∷ table) = extent_share gap e + extent_shares gap table

-- what the files take by their kinds and sizes
abbrev pub file_shares : ℕ → Entries → ℕ
file_shares gap [] = 0
file_shares gap (None ∷ table) = file_shares gap table
file_shares gap (Some e ∷ table) = file_share gap e.kind e.size + file_shares gap table

-- the active extents are those of the files in the table and of their logs
pub record HoldsExtents (us : List Unit) (table : Entries) : Type 0 where
  pub files : (i : ℕ) (e : FileAt) → IsIn table i e → active_at us e.page.0 ≡ Some (file_header e)
  pub logs : (i : ℕ) (e : FileAt) (l : PageId) → IsIn table i e → e.log ≡ Some l → active_at us l.0 ≡ Some (log_header e.name)
  pub only : (page : ℕ) (h : Header) → active_at us page ≡ Some h → list_any (has_extent_at page) table ≡ true
