-- Steps: what `prepare` does with a file.
use Rattle.std.specs.Prelude.{◌≡◌, ◌≢◌, ⊤, ℕ, ◌+◌, ◌*◌, ◌≤◌, List, Option, Some, None, max, nat_lt, if◌then◌else◌}
use Rattle.afl_base.specs.Fit.{fit}
use Rattle.afl_base.specs.declared.kind.Kind.TheVariants.{Doubling, Fixed}
use Rattle.coffee_layout.specs.declared.file.FileAt.{FileAt}
use Rattle.coffee_merge.specs.Holding.{Entries, HoldsTable, IsIn}
use Rattle.coffee_volume.specs.Rooms.{has_too_few, records_needed}
use Rattle.coffee_volume.specs.declared.step.Step.{Step}
use Rattle.coffee_volume.specs.declared.step.Step.TheVariants.{Grow, Merge, Log}

-- the first step that this many overwrites and bytes ask for, but a log
abbrev pub step_for : FileAt → (overwrites bytes : ℕ) → Option Step
step_for e overwrites bytes =
    if nat_lt (256 * e.pages) (e.size + bytes + 32) then Some Grow
    else (if has_too_few e.log e.used (records_needed e.log overwrites bytes) then Some Merge else None)

-- the pages that a step asks for
abbrev pub need_of : Step → FileAt → ℕ
need_of Grow e = 2 * e.pages
need_of Merge e = e.pages
need_of Log e = 16

-- a step may be taken with a file: one that grows keeps rule 13
abbrev pub MayTake : Step → FileAt → Type 0
MayTake Grow e = (e.kind ≡ Doubling) × (e.pages ≤ 16384) × (e.pages ≤ fit e.size)
MayTake Merge e = ⊤
MayTake Log e = e.log ≡ None

-- an extent that a file asks for has at most twice the pages that a doubling one needs, and 16 for a fixed one
pub record NeedsFew (e : FileAt) (need : ℕ) : Type 0 where
  pub doubling : e.kind ≡ Doubling → need ≤ max 16 (2 * fit e.size)
  pub fixed : (n : ℕ) → e.kind ≡ Fixed n → need ≤ 16

-- an entry after a step
abbrev pub IsAfter : Step → (from to : FileAt) → Type 0
IsAfter Grow from to = to ≡ record from { page = to.page; pages = 2 * from.pages; log = None; used = 0 }
IsAfter Merge from to = to ≡ record from { page = to.page; log = None; used = 0 }
IsAfter Log from to = (to ≡ record from { log = to.log }) × (to.log ≢ None)

-- P of each table of files that an image holds, with no draft
abbrev pub WhereHeld : List ℕ → (Entries → Type 0) → Type 0
WhereHeld image P = (table : Entries) → HoldsTable image table None → P table

-- P of each such table, and of the place of a file in it
abbrev pub WhereStands : List ℕ → FileAt → (Entries → ℕ → Type 0) → Type 0
WhereStands image file P = (table : Entries) (i : ℕ) → HoldsTable image table None → IsIn table i file → P table i
