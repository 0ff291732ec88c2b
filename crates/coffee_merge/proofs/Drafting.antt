-- A file under construction begins in free pages, and all files stay.
use Rattle.std.proofs.Common.{◌≡◌, ◌≢◌, ⊎_elim, ℕ, ◌+◌, ◌*◌, ◌/◌, ◌%◌, ◌≤◌, ◌<◌, Bool, true, false, ◌&&◌, not, ◌==◌, List, length, get_or, Option, None, Some, refl, ap, sym, subst, ◌∙◌, arith}
use Rattle.std.proofs.lemmas.Bool.{cases_eq}
use Rattle.afl_base.specs.Image.{or_at}
use Rattle.afl_base.specs.Names.{is_file_name}
use Rattle.afl_base.specs.declared.kind.Kind.{Kind}
use Rattle.afl_base.specs.declared.kind.Kind.TheVariants.{Doubling, Fixed}
use Rattle.afl_base.proofs.Images.{length_or_at}
use Rattle.coffee_header.specs.Headers.{IsValid, header_bytes, is_kind}
use Rattle.coffee_header.specs.declared.header.Header.{Header}
use Rattle.coffee_layout.specs.FileBytes.{extent_place}
use Rattle.coffee_layout.specs.Marks.{IsLowestRun, free_pages}
use Rattle.coffee_layout.specs.Tiling.{nowhere, units_of}
use Rattle.coffee_layout.specs.Units.{is_free, pages_of}
use Rattle.coffee_layout.specs.declared.file.FileAt.{FileAt}
use Rattle.coffee_layout.specs.declared.unit.Unit.{Unit}
use Rattle.coffee_layout.proofs.MarkLaws.{run_inside}
use Rattle.coffee_layout.proofs.Tests.{eq_false}
use Rattle.coffee_layout.proofs.Tilings.{unbroken_tiled}
use Rattle.coffee_merge.specs.Begun.{active_at}
use Rattle.coffee_merge.specs.Holding.{BeginsExtent, Entries, HoldsTable, IsDrafted, KeepsContents, Stays, building_of, draft_header, extent_of, file_header, has_extent_at, has_shape, is_held, kind_number, log_header}
use Rattle.coffee_merge.proofs.Beginning.{IsBegun, begun_lowest}
use Rattle.coffee_merge.proofs.Holdings.{HeldBy, extent_here, held_by, held_draft, held_in, holds_tiled}
use Rattle.coffee_merge.proofs.Kept.{KeepsBodies, bodies_kept, body_stored}
use Rattle.padded.proofs.Facts.{eq_true}

-- WHAT STAYS

-- an active extent does not begin where none is active
pub other_place : (us : List Unit) (page q : ℕ) (g : Header) → active_at us page ≡ None → active_at us q ≡ Some g → q ≢ page
other_place us page q g none is same = clash (sym none ∙ ap (active_at us) (sym same) ∙ is)
  where
    clash : None ≡ Some g → ⊥
    clash e = cc

-- the files keep their bytes where an extent begins
pub begun_bodies : (building : ℕ → Bool) (old new : List ℕ) (table : Entries) (draft : Option FileAt) (page : ℕ) (h : Header) → HoldsTable old table draft → 1 ≤ h.max_pages → IsBegun building old new (units_of old) page h → KeepsBodies old new table
begun_bodies building old new table draft page h holds some begun = λ i e is. record {
  extent = λ k from to. begun.same k (λ x y. begun.apart e.page.0 (file_header e) (holds.files i e is) (k / 256) (omega arith) (omega arith) (omega arith) (omega arith));
  logged = λ l log k from to. begun.same k (λ x y. begun.apart l.0 (log_header e.name) (holds.logs i e l is log) (k / 256) (omega arith) (omega arith) (omega arith) (omega arith));
}

-- first one change that keeps the content of all files, and then another
pub kept_then : (old mid new : List ℕ) (table : Entries) → KeepsContents old mid table → KeepsContents mid new table → KeepsContents old new table
kept_then old mid new table first second = λ i e is p within. second i e is p within ∙ first i e is p within

-- THE DRAFT

is_number : (kind : Kind) → is_kind (kind_number kind) ≡ true
is_number Doubling = refl
is_number (Fixed n) = refl

pub draft_valid : (name : List ℕ) (kind : Kind) (page pages size : ℕ) → is_file_name name ≡ true → pages < 65536 → IsValid (draft_header (extent_of name kind page pages size))
draft_valid name kind page pages size good small = record { log_page = omega arith; log_records = omega arith; log_record_size = omega arith; max_pages = small; kind = is_number kind; flags = refl; name = good }

draft_allowed : (page : ℕ) → 2 == 2 && not (page == page) ≡ false
draft_allowed page = rw (eq_true page page refl) refl

-- the file under construction has no byte but 0
draft_zero : (new : List ℕ) (page pages p : ℕ) → ((k : ℕ) → 256 * page + 32 ≤ k → k < 256 * (page + pages) → get_or new k 0 ≡ 0) → p + 32 < 256 * pages → get_or new (extent_place page (128 * (p / 128)) + p % 128) 0 ≡ 0
draft_zero new page pages p zeros within = zeros (extent_place page (128 * (p / 128)) + p % 128) (omega arith) (omega arith)

drafted : (new : List ℕ) (name : List ℕ) (kind : Kind) (page pages size : ℕ) → ((k : ℕ) → 256 * page + 32 ≤ k → k < 256 * (page + pages) → get_or new k 0 ≡ 0) → 1 ≤ pages → page + pages ≤ pages_of new → has_shape kind pages ≡ true → size + 32 ≤ 256 * pages
    → IsDrafted new (extent_of name kind page pages size)
drafted new name kind page pages size zeros some placed shape fits = record {
  fits = record { some = some; placed = placed; size = fits; log = λ l none. cc; used = omega arith; unused = λ e. refl };
  shape = shape;
  file = record { apart = λ l none. cc; logged = λ l none. cc; below = λ l none. cc; zeros = λ p from to. draft_zero new page pages p zeros (omega arith) };
  no_log = refl;
}

draft_held : (table : Entries) (d : FileAt) (page : ℕ) → is_held table None page ≡ true → is_held table (Some d) page ≡ true
draft_held table d page held =
    ⊎_elim
    (λ (h : HeldBy table page). held_in table (Some d) h.place h.entry page h.is_in h.extent)
    (λ (none : has_extent_at page None ≡ true). cc)
    (held_by table None page held)

-- the header of a file under construction is programmed into the lowest run of free pages
pub draft_begun : (old new : List ℕ) (table : Entries) (name : List ℕ) (kind : Kind) (page pages size : ℕ) → HoldsTable old table None → IsLowestRun (free_pages (units_of old)) pages page → 1 ≤ pages → pages < 65536 → is_file_name name ≡ true
    → new ≡ or_at old (256 * page) (header_bytes (draft_header (extent_of name kind page pages size))) → IsBegun (building_of (Some (extent_of name kind page pages size))) old new (units_of old) page (draft_header (extent_of name kind page pages size))
draft_begun old new table name kind page pages size h low some small good is =
    let d : FileAt = extent_of name kind page pages size in
    begun_lowest nowhere (building_of (Some d)) old new (units_of old) page (draft_header d) (holds_tiled old table None h) some low is (draft_valid name kind page pages size good small) refl (draft_allowed page) (λ q other. sym (eq_false page q (λ e. other (sym e))))

pub draft_begins : (old new : List ℕ) (table : Entries) (name : List ℕ) (kind : Kind) (page pages size : ℕ) → HoldsTable old table None → IsLowestRun (free_pages (units_of old)) pages page → 1 ≤ pages → pages < 65536 → is_file_name name ≡ true
    → has_shape kind pages ≡ true → size + 32 ≤ 256 * pages → new ≡ or_at old (256 * page) (header_bytes (draft_header (extent_of name kind page pages size))) → BeginsExtent old new table (extent_of name kind page pages size)
draft_begins old new table name kind page pages size h low some small good shape fits is =
    let d : FileAt = extent_of name kind page pages size in
    let tiled = holds_tiled old table None h in
    let tile_whole = tiled.whole in
    let inside = run_inside is_free (units_of old) page pages some low.run in
    let long : length new ≡ length old = ap length is ∙ length_or_at old (256 * page) (header_bytes (draft_header d)) in
    let begun = draft_begun old new table name kind page pages size h low some small good is in
    let bodies = begun_bodies (building_of (Some d)) old new table None page (draft_header d) h some begun in
    let whole = h.whole in
    record {
      holds = record {
        whole = omega arith;
        tiled = unbroken_tiled (building_of (Some d)) new (units_of new) begun.tiled;
        files = λ i e at. begun.others e.page.0 (other_place (units_of old) page e.page.0 (file_header e) begun.none (h.files i e at)) ∙ h.files i e at;
        logs = λ i e l at log. begun.others l.0 (other_place (units_of old) page l.0 (log_header e.name) begun.none (h.logs i e l at log)) ∙ h.logs i e l at log;
        begun = λ e at. let same : d ≡ e = cc in subst (λ f. active_at (units_of new) f.page.0 ≡ Some (draft_header f)) same begun.here;
        only = λ q g active.
            ⊎_elim
            (λ (here : q ≡ page). held_draft table (Some d) q (extent_here q d (sym here)))
            (λ (there : q ≢ page). draft_held table d q (h.only q g (sym (begun.others q there) ∙ active)))
            (cases_eq q page);
        names = h.names;
        stored = λ i e at. body_stored old new e long (bodies i e at) (h.stored i e at);
        drafted = λ e at. let same : d ≡ e = cc in subst (IsDrafted new) same (drafted new name kind page pages size begun.zeros some (omega arith) shape fits);
      };
      zeros = λ p within. draft_zero new page pages p begun.zeros within;
      kept = bodies_kept old new table long bodies;
    }

-- the same after a change that keeps all files
pub stays_begins : (old mid new : List ℕ) (table : Entries) (d : FileAt) → Stays old mid table → BeginsExtent mid new table d → BeginsExtent old new table d
stays_begins old mid new table d first second = record { holds = second.holds; zeros = second.zeros; kept = kept_then old mid new table first.kept second.kept }
