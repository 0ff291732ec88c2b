-- A table is held as it was where the active extents of an image stay, and their pages.
use Rattle.std.proofs.Common.{◌≡◌, ℕ, Bool, List, length, Option, None, Some, sym, subst, ◌∙◌}
use Rattle.std.specs.Prelude.{Result, Ok, Err, IfOk}
use Rattle.afl_base.specs.FileErrors.{OnSpace, UnlessFailed}
use Rattle.afl_base.specs.declared.kind.FileError.{FileError}
use Rattle.afl_base.specs.declared.kind.FileError.TheVariants.{Space, Failed}
use Rattle.coffee_header.specs.declared.header.Header.{Header}
use Rattle.coffee_layout.specs.Marks.{IsCramped, IsLowestRun, IsRun, NoRun, active_pages, free_pages}
use Rattle.coffee_layout.specs.Tiling.{IsTiled, nowhere, units_of}
use Rattle.coffee_layout.specs.Units.{is_active}
use Rattle.coffee_layout.specs.declared.file.FileAt.{FileAt}
use Rattle.coffee_layout.specs.declared.unit.Unit.{Unit}
use Rattle.coffee_layout.specs.declared.unit.Unit.TheVariants.{Extent}
use Rattle.coffee_layout.proofs.Frames.{KeepsFile}
use Rattle.coffee_layout.proofs.KeptFiles.{AreActive, KeepsActive, kept_file}
use Rattle.coffee_layout.proofs.Tilings.{unbroken_tiled}
use Rattle.coffee_space.specs.Collection.{IsCollected, active_extents, KeepsActive as LeavesActive}
use Rattle.coffee_merge.specs.Begun.{active_at}
use Rattle.coffee_merge.specs.Holding.{Entries, HoldsTable, IsIn, Stays, TakesOnly, file_header, log_header}
use Rattle.coffee_merge.specs.Outcomes.{IsObtained, LeavesAll}
use Rattle.coffee_merge.specs.Takes.{LooksIn}
use Rattle.coffee_merge.proofs.Begun.{active_begun, active_same, begun_marks, have_pages}
use Rattle.coffee_merge.proofs.Holdings.{holds_pages, holds_tiled}
use Rattle.coffee_merge.proofs.Kept.{KeepsBodies, bodies_kept, body_kept, holds_bodies}
use Rattle.coffee_merge.proofs.Taken.{obtain_takes}

-- the pages of an active extent are active
pub active_marks : (us : List Unit) (page : ℕ) (h : Header) → active_at us page ≡ Some h → AreActive (active_pages us) page h.max_pages
active_marks us page h is =
    let begun = active_begun us page h is in
    λ q low high. begun_marks is_active us page (Extent h) q begun.0 low high ∙ begun.1

-- so a file of the table keeps its bytes
pub file_kept : (old new : List ℕ) (table : Entries) (draft : Option FileAt) (i : ℕ) (e : FileAt) → HoldsTable old table draft → KeepsActive old new (active_pages (units_of old)) → IsIn table i e → KeepsFile old new e.page.0 e.pages e.log
file_kept old new table draft i e h keeps is =
    kept_file old new (active_pages (units_of old)) e.page.0 e.pages e.log keeps (active_marks (units_of old) e.page.0 (file_header e) (h.files i e is))
    (λ l log. active_marks (units_of old) l.0 (log_header e.name) (h.logs i e l is log))

pub obtained : (old new : List ℕ) (table : Entries) → HoldsTable old table None → length new ≡ length old → IsTiled nowhere new (units_of new) → active_extents (units_of new) ≡ active_extents (units_of old)
    → KeepsActive old new (active_pages (units_of old)) → Stays old new table
obtained old new table h long tiled same keeps =
    let bodies : KeepsBodies old new table = λ i e is. body_kept old new e.page.0 e.pages e.log (file_kept old new table None i e h keeps is) in
    record {
      holds = holds_bodies old new table None h long (unbroken_tiled nowhere new (units_of new) tiled)
          (λ page. active_same (units_of new) (units_of old) page (have_pages nowhere new (units_of new) tiled) (holds_pages old table None h) same) bodies (λ d none. cc);
      kept = bodies_kept old new table long bodies;
    }

-- what `obtain` says of tilings where it did not fail
abbrev pub Obtains : (old new : List ℕ) → (pages : ℕ) → Type 0
Obtains old new pages = (building : ℕ → Bool) (us : List Unit) → IsTiled building old us
    → LeavesActive building old new us × ((page : ℕ) → IsRun (free_pages us) page pages → new ≡ old) × (NoRun (free_pages us) pages → IsCollected building old new us)

pub obtains_by : {T : Type 0} (old new : List ℕ) (pages : ℕ) (r : Result T FileError) → UnlessFailed r ((building : ℕ → Bool) (us : List Unit) → IsTiled building old us → LeavesActive building old new us)
    → ((building : ℕ → Bool) (us : List Unit) → IsTiled building old us → (page : ℕ) → IsRun (free_pages us) page pages → new ≡ old)
    → UnlessFailed r ((building : ℕ → Bool) (us : List Unit) → IsTiled building old us → NoRun (free_pages us) pages → IsCollected building old new us)
    → UnlessFailed r (Obtains old new pages)
obtains_by old new pages (Ok x) kept untouched collected = λ building us t. (kept building us t, untouched building us t, collected building us t)
obtains_by old new pages (Err (Space need)) kept untouched collected = λ building us t. (kept building us t, untouched building us t, collected building us t)
obtains_by old new pages (Err Failed) kept untouched collected = tt

-- the same of tables
stays_by : (old new : List ℕ) (table : Entries) (pages : ℕ) → HoldsTable old table None → length new ≡ length old → Obtains old new pages → Stays old new table × TakesOnly old new 0 0 × LooksIn old new pages
stays_by old new table pages h long o =
    let found = o nowhere (units_of old) (holds_tiled old table None h) in
    (obtained old new table h long found.0.tiled found.0.extents found.0.active, obtain_takes nowhere old new pages found.1 found.2, record { same = found.1; collected = found.2 })

pub found_by : {T : Type 0} (old new : List ℕ) (pages : ℕ) (r : Result T FileError) (place : T → ℕ) → length new ≡ length old → UnlessFailed r (Obtains old new pages)
    → IfOk r (λ x. (building : ℕ → Bool) (us : List Unit) → IsTiled building old us → IsLowestRun (free_pages (units_of new)) pages (place x))
    → IfOk r (λ x. (table : Entries) → HoldsTable old table None → IsObtained old new table pages (place x))
found_by old new pages (Ok x) place long o run = λ table h.
    let s = stays_by old new table pages h long o in
    record { stays = s.0; untaken = s.1; looked = s.2; run = run nowhere (units_of old) (holds_tiled old table None h) }
found_by old new pages (Err e) place long o run = run

pub left_by : {T : Type 0} (old new : List ℕ) (pages : ℕ) (r : Result T FileError) → length new ≡ length old → UnlessFailed r (Obtains old new pages)
    → OnSpace r (λ need. (building : ℕ → Bool) (us : List Unit) → IsTiled building old us → IsCramped (units_of new) need)
    → OnSpace r (λ need. need ≡ pages)
    → OnSpace r (λ need. (table : Entries) → HoldsTable old table None → LeavesAll old new table need)
left_by old new pages (Ok x) long o cramped asked = tt
left_by old new pages (Err (Space need)) long o cramped asked = λ table h.
    let s = stays_by old new table pages h long o in
    record { stays = s.0; untaken = s.1; looked = subst (LooksIn old new) (sym asked) s.2; cramped = cramped nowhere (units_of old) (holds_tiled old table None h) }
left_by old new pages (Err Failed) long o cramped asked = tt
