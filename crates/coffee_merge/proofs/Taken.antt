-- Pages that were free stay free, but for those that a new extent takes.
use Rattle.std.proofs.Common.{◌≡◌, ⊎_elim, ℕ, ◌+◌, ◌-◌, ◌*◌, ◌/◌, ◌≤◌, ◌<◌, Bool, true, false, List, [], ◌∷◌, get_or, Some, None, refl, ap, sym, subst, ◌∙◌, arith}
use Rattle.std.proofs.lemmas.Bool.{cases_lt}
use Rattle.std.proofs.lemmas.List.{get_or_past}
use Rattle.afl_base.specs.Image.{or_at}
use Rattle.afl_base.specs.Names.{is_file_name}
use Rattle.afl_base.specs.declared.ids.PageId.{PageId}
use Rattle.afl_base.specs.declared.kind.Kind.{Kind}
use Rattle.coffee_header.specs.Headers.{header_bytes}
use Rattle.coffee_header.specs.declared.header.Header.{Header}
use Rattle.coffee_layout.specs.Marks.{IsLowestRun, IsRun, NoRun, free_pages, is_taken}
use Rattle.coffee_layout.specs.Tiling.{nowhere, units_of}
use Rattle.coffee_layout.specs.Units.{is_free, size_of, total}
use Rattle.coffee_layout.specs.declared.file.FileAt.{FileAt}
use Rattle.coffee_layout.specs.declared.unit.Unit.{Unit}
use Rattle.coffee_layout.specs.declared.unit.Unit.TheVariants.{Free, Isolated, Extent}
use Rattle.coffee_layout.proofs.Tilings.{units_tiled}
use Rattle.coffee_space.specs.Collection.{IsCollected, cut_pages, touches, units_left}
use Rattle.coffee_space.proofs.MarksLeft.{mark_left, marks_left}
use Rattle.coffee_merge.specs.Begun.{unit_begun}
use Rattle.coffee_merge.specs.Flags.{flagged, obsoleted}
use Rattle.coffee_merge.specs.Holding.{Entries, HoldsTable, IsIn, TakesOnly, draft_header, extent_of, file_header, is_free_at, log_header}
use Rattle.coffee_merge.proofs.Beginning.{IsBegun}
use Rattle.coffee_merge.proofs.Begun.{HavePages, begun_marks, have_pages}
use Rattle.coffee_merge.proofs.Commits.{replaced_file, replaced_log, replaced_retires, valid}
use Rattle.coffee_merge.proofs.Drafting.{draft_begun}
use Rattle.coffee_merge.proofs.FreeUnits.{free_or_extent, free_unit}
use Rattle.coffee_merge.proofs.Holdings.{LogAt, draft_unit, extent_read, file_unit, holds_pages, holds_tiled, log_unit}
use Rattle.coffee_merge.proofs.Logged.{HasLog}
use Rattle.coffee_merge.proofs.Marked.{Reflags}
use Rattle.coffee_merge.proofs.Retired.{Retires, retires}
use Rattle.padded.proofs.Facts.{true_or_false, yes_no}
use Rattle.coffee_layout.proofs.FreeBlocks.{mark_front, mark_behind}
use Rattle.coffee_layout.proofs.MarkLaws.{length-pages_by}

-- CHANGES

takes_by : (old new : List ℕ) (page pages : ℕ) → HavePages (units_of old) → ((p : ℕ) → unit_begun (units_of old) 0 p ≡ Some Free → (page ≤ p → p < page + pages → ⊥) → unit_begun (units_of new) 0 p ≡ Some Free) → TakesOnly old new page pages
takes_by old new page pages h same = λ p free out. begun_marks is_free (units_of new) p Free p (same p (free_unit (units_of old) p h free) out) (omega arith) (omega arith)

-- one change after another that takes no page
pub takes_then : (old mid new : List ℕ) (page pages : ℕ) → TakesOnly old mid page pages → TakesOnly mid new 0 0 → TakesOnly old new page pages
takes_then old mid new page pages first second = λ p free out. second p (first p free out) (λ a b. omega arith)

pub takes_after : (old mid new : List ℕ) (page pages : ℕ) → TakesOnly old mid 0 0 → TakesOnly mid new page pages → TakesOnly old new page pages
takes_after old mid new page pages first second = λ p free out. second p (first p free (λ a b. omega arith)) out

begun_takes : (building : ℕ → Bool) (old new : List ℕ) (page : ℕ) (h : Header) → HavePages (units_of old) → IsBegun building old new (units_of old) page h → TakesOnly old new page h.max_pages
begun_takes building old new page h pages b = takes_by old new page h.max_pages pages (λ p free out. b.units p out ∙ free)

reflags_takes : (building : ℕ → Bool) (old new : List ℕ) (page : ℕ) (g h : Header) → HavePages (units_of old) → unit_begun (units_of old) 0 page ≡ Some (Extent g) → Reflags building old new page h → TakesOnly old new 0 0
reflags_takes building old new page g h pages is r = takes_by old new 0 0 pages (λ p free out. r.others p (λ same. free_or_extent g (unit_begun (units_of old) 0 p) free (ap (unit_begun (units_of old) 0) same ∙ is)) ∙ free)

retires_takes : (old new : List ℕ) (e : FileAt) → HavePages (units_of old) → unit_begun (units_of old) 0 e.page.0 ≡ Some (Extent (file_header e)) → ((l : PageId) → e.log ≡ Some l → unit_begun (units_of old) 0 l.0 ≡ Some (Extent (log_header e.name))) → Retires old new e → TakesOnly old new 0 0
retires_takes old new e pages is logged r =
    takes_by old new 0 0 pages (λ p free out. r.others p (λ here. ⊎_elim
    (λ (a : e.page.0 ≡ p). free_or_extent (file_header e) (unit_begun (units_of old) 0 p) free (ap (unit_begun (units_of old) 0) (sym a) ∙ is))
    (λ (a : LogAt e p). free_or_extent (log_header e.name) (unit_begun (units_of old) 0 p) free (ap (unit_begun (units_of old) 0) (sym a.place) ∙ logged a.log a.is))
    (extent_read p e here)) ∙ free)

-- CALLS

pub draft_takes : (old new : List ℕ) (table : Entries) (name : List ℕ) (kind : Kind) (page pages : ℕ) → HoldsTable old table None → IsLowestRun (free_pages (units_of old)) pages page → 1 ≤ pages → pages < 65536 → is_file_name name ≡ true
    → new ≡ or_at old (256 * page) (header_bytes (draft_header (extent_of name kind page pages 0))) → TakesOnly old new page pages
draft_takes old new table name kind page pages h low some small good is = begun_takes _ old new page (draft_header (extent_of name kind page pages 0)) (holds_pages old table None h) (draft_begun old new table name kind page pages 0 h low some small good is)

pub commit_takes : (old : List ℕ) (table : Entries) (d : FileAt) (page : PageId) → HoldsTable old table (Some d) → d.page ≡ page → TakesOnly old (flagged old page.0 1) 0 0
commit_takes old table d page h place =
    subst (λ (p : PageId). TakesOnly old (flagged old p.0 1) 0 0) place
    (reflags_takes _ old (flagged old d.page.0 1) d.page.0 (draft_header d) _ (holds_pages old table (Some d) h) (draft_unit old table d h) (valid old table d h))

pub retire_takes : (old : List ℕ) (table : Entries) (i : ℕ) (e : FileAt) → HoldsTable old table None → IsIn table i e → TakesOnly old (obsoleted old e.page.0 e.log) 0 0
retire_takes old table i e h is =
    let unit = file_unit old table None i e h is in
    let logs : (l : PageId) → e.log ≡ Some l → unit_begun (units_of old) 0 l.0 ≡ Some (Extent (log_header e.name)) = λ l log. log_unit old table None i e l h is log in
    retires_takes old (obsoleted old e.page.0 e.log) e (holds_pages old table None h) unit logs (retires old e (holds_tiled old table None h) unit logs)

pub replace_takes : (old : List ℕ) (table : Entries) (d e : FileAt) (i : ℕ) (page : PageId) → HoldsTable old table (Some d) → d.page ≡ page → IsIn table i e → TakesOnly old (obsoleted (flagged old page.0 1) e.page.0 e.log) 0 0
replace_takes old table d e i page h place is =
    subst (λ (p : PageId). TakesOnly old (obsoleted (flagged old p.0 1) e.page.0 e.log) 0 0) place
    (takes_then old (flagged old d.page.0 1) (obsoleted (flagged old d.page.0 1) e.page.0 e.log) 0 0 (commit_takes old table d d.page h refl)
    (retires_takes (flagged old d.page.0 1) (obsoleted (flagged old d.page.0 1) e.page.0 e.log) e (have_pages nowhere (flagged old d.page.0 1) (units_of (flagged old d.page.0 1)) (valid old table d h).tiled)
    (replaced_file old table d e i h is) (λ l log. replaced_log old table d e i l h is log) (replaced_retires old table d e i h is)))

pub log_takes : (old new : List ℕ) (table : Entries) (i : ℕ) (e : FileAt) (log : PageId) → HoldsTable old table None → IsIn table i e → HasLog old new (units_of old) e log → TakesOnly old new log.0 16
log_takes old new table i e log h is has =
    takes_by old new log.0 16 (holds_pages old table None h)
    (λ p free out. has.units p (λ same. free_or_extent (file_header e) (unit_begun (units_of old) 0 p) free (ap (unit_begun (units_of old) 0) same ∙ file_unit old table None i e h is)) out ∙ free)

-- COLLECTIONS

-- a free page is not cut
cut_free : (taken : ℕ → Bool) (us : List Unit) (page i : ℕ) → taken ((page + i) / 16) ≡ false → get_or (free_pages us) i false ≡ true → get_or (cut_pages taken page us) i false ≡ false
cut_free taken [] page i t e = refl
cut_free taken (u ∷ us) page i t e = ⊎_elim
    (λ (here : i < size_of u). mark_front (touches taken page (size_of u)) (cut_pages taken (page + size_of u) us) (size_of u) i here ∙ whole u here (sym (mark_front (is_free u) (free_pages us) (size_of u) i here) ∙ e))
    (λ (behind : size_of u ≤ i).
    let back : size_of u + (i - size_of u) ≡ i = omega arith in
    let place : page + i ≡ page + size_of u + (i - size_of u) = omega arith in
    ap (λ k. get_or (cut_pages taken page (u ∷ us)) k false) (sym back)
    ∙ mark_behind (touches taken page (size_of u)) (cut_pages taken (page + size_of u) us) (size_of u) (i - size_of u)
    ∙ cut_free taken us (page + size_of u) (i - size_of u) (ap (λ q. taken (q / 16)) (sym place) ∙ t)
    (sym (mark_behind (is_free u) (free_pages us) (size_of u) (i - size_of u)) ∙ ap (λ k. get_or (free_pages (u ∷ us)) k false) back ∙ e))
    (cases_lt i (size_of u))
  where
    whole : (u : Unit) → i < size_of u → is_free u ≡ true → touches taken page (size_of u) ≡ false
    whole Free here f =
        let place : page + i ≡ page = omega arith in
        let none : taken (page / 16) ≡ false = ap (λ q. taken (q / 16)) (sym place) ∙ t in rw none refl
    whole Isolated here f = cc
    whole (Extent h) here f = cc

left_free : (t : Bool) (cut was : Bool) → was ≡ true → (t ≡ false → cut ≡ false) → mark_left is_free t cut was ≡ true
left_free true cut was e c = refl
left_free false cut was e c = rw (c refl, e) refl

free_left : (us : List Unit) (page : ℕ) → get_or (free_pages us) page false ≡ true → get_or (free_pages (units_left (is_taken us) 0 us)) page false ≡ true
free_left us page e = ⊎_elim
    (λ (within : page < total us).
    marks_left (is_taken us) is_free us 0 page within
    ∙ left_free (is_taken us ((0 + page) / 16)) (get_or (cut_pages (is_taken us) 0 us) page false) (get_or (free_pages us) page false) e (λ t. cut_free (is_taken us) us 0 page t e))
    (λ (past : total us ≤ page). yes_no (get_or (free_pages us) page false) e (get_or_past (free_pages us) page false (omega (arith, length-pages_by is_free us))))
    (cases_lt page (total us))

-- a collection takes no free page
pub collected_takes : (building : ℕ → Bool) (old new : List ℕ) → IsCollected building old new (units_of old) → TakesOnly old new 0 0
collected_takes building old new c = λ p free out.
    ap (λ us. get_or (free_pages us) p false) (units_tiled building new (units_left (is_taken (units_of old)) 0 (units_of old)) c.tiled) ∙ free_left (units_of old) p free

-- nor does one that is made only where no run is free
pub obtain_takes : (building : ℕ → Bool) (old new : List ℕ) (n : ℕ) → ((page : ℕ) → IsRun (free_pages (units_of old)) page n → new ≡ old) → (NoRun (free_pages (units_of old)) n → IsCollected building old new (units_of old)) → TakesOnly old new 0 0
obtain_takes building old new n untouched collected = λ p free out. ⊎_elim
    (λ (still : is_free_at new p ≡ true). still)
    (λ (gone : is_free_at new p ≡ false).
    collected_takes building old new (collected (λ page run. yes_no (is_free_at old p) free (ap (λ image. is_free_at image p) (sym (untouched page run)) ∙ gone))) p free out)
    (true_or_false (is_free_at new p))
