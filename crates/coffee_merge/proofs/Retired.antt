-- Flags in one header or more: the bytes that stay, and a file that is obsolete with its log.
use Rattle.std.proofs.Common.{◌≡◌, ◌≢◌, ℕ, ◌+◌, ◌*◌, ◌≤◌, ◌<◌, ⊎_elim, Bool, true, false, ◌==◌, List, length, get_or, Option, Some, None, refl, ap, sym, ◌∙◌, arith, bit_or}
use Rattle.std.proofs.lemmas.Bool.{cases_eq}
use Rattle.afl_base.specs.declared.ids.PageId.{PageId}
use Rattle.coffee_header.specs.Headers.{is_flags}
use Rattle.coffee_header.specs.declared.header.Header.{Header}
use Rattle.coffee_layout.specs.Tiling.{IsTiled, nowhere, units_of}
use Rattle.coffee_layout.specs.Units.{is_active_flags}
use Rattle.coffee_layout.specs.declared.file.FileAt.{FileAt}
use Rattle.coffee_layout.specs.declared.unit.Unit.{Unit}
use Rattle.coffee_layout.specs.declared.unit.Unit.TheVariants.{Extent}
use Rattle.coffee_merge.specs.Begun.{active_at, active_header, unit_begun}
use Rattle.coffee_merge.specs.Flags.{flagged, obsoleted}
use Rattle.coffee_merge.specs.Holding.{file_flags, file_header, has_extent_at, log_header}
use Rattle.coffee_merge.proofs.FreeUnits.{FreesNone}
use Rattle.coffee_merge.proofs.Begun.{HavePages, begun_apart, begun_inside}
use Rattle.coffee_merge.proofs.FreeUnits.{frees_then, reflags_frees}
use Rattle.coffee_merge.proofs.Holdings.{extent_here, log_here}
use Rattle.coffee_merge.proofs.Kept.{KeepsBody}
use Rattle.coffee_merge.proofs.Marked.{Reflags, flagged_extent}

-- BYTES

-- all bytes stay but byte 9 of pages at which units begin
abbrev pub OnlyFlags : (old new : List ℕ) → List Unit → Type 0
OnlyFlags old new us = (k : ℕ) → ((q : ℕ) (u : Unit) → unit_begun us 0 q ≡ Some u → k ≢ 256 * q + 9) → get_or new k 0 ≡ get_or old k 0

-- an extent keeps its bytes behind the header
pub extent_flags : (old new : List ℕ) (us : List Unit) (page : ℕ) (h : Header) → HavePages us → OnlyFlags old new us → unit_begun us 0 page ≡ Some (Extent h) → (k : ℕ) → 256 * page + 32 ≤ k → k < 256 * (page + h.max_pages) → get_or new k 0 ≡ get_or old k 0
extent_flags old new us page h have only is k from to =
    only k (λ q u begun place.
    ⊎_elim
    (λ (same : page ≡ q). absurd (omega arith))
    (λ (differ : page ≡ q → ⊥).
    let inside = begun_inside us q u have begun in
    begun_apart us page q (Extent h) u have is begun differ q (omega arith) (omega arith) (omega arith) (omega (arith, inside.0)))
    (cases_eq page q))

pub body_flags : (old new : List ℕ) (us : List Unit) (page : ℕ) (h g : Header) (log : Option PageId) → HavePages us → OnlyFlags old new us → unit_begun us 0 page ≡ Some (Extent h) → ((l : PageId) → log ≡ Some l → unit_begun us 0 l.0 ≡ Some (Extent g)) → g.max_pages ≡ 16
    → KeepsBody old new page h.max_pages log
body_flags old new us page h g log have only is logged size = record {
  extent = λ k from to. extent_flags old new us page h have only is k from to;
  logged = λ l log_is k from to. extent_flags old new us l.0 g have only (logged l log_is) k from (omega arith);
}

-- a flag in one header
pub only_one : (building : ℕ → Bool) (old new : List ℕ) (page : ℕ) (h : Header) (u : Unit) → Reflags building old new page h → unit_begun (units_of old) 0 page ≡ Some u → OnlyFlags old new (units_of old)
only_one building old new page h u r begun = λ k out. r.bytes k (out page u begun)

-- and then further ones
pub only_then : (building : ℕ → Bool) (old mid new : List ℕ) (page : ℕ) (h : Header) (u : Unit) → Reflags building old mid page h → unit_begun (units_of old) 0 page ≡ Some u → OnlyFlags mid new (units_of mid) → OnlyFlags old new (units_of old)
only_then building old mid new page h u r begun only =
    λ k out.
    only k (λ q v is. ⊎_elim
    (λ (same : q ≡ page). let o = out page u begun in λ place. o (place ∙ ap (λ p. 256 * p + 9) same))
    (λ (differ : q ≡ page → ⊥). out q v (sym (r.others q differ) ∙ is))
    (cases_eq q page))
    ∙ r.bytes k (out page u begun)

-- FLAGS

pub obsolete_flags : (log : Option PageId) → (is_flags (bit_or (file_flags log) 4) ≡ true) × (bit_or (file_flags log) 4 == 2 ≡ false) × (is_active_flags (bit_or (file_flags log) 4) ≡ false)
obsolete_flags None = (refl, refl, refl)
obsolete_flags (Some l) = (refl, refl, refl)

-- an extent whose flags are not active is none of the active ones
pub inactive : (us : List Unit) (page : ℕ) (h : Header) → unit_begun us 0 page ≡ Some (Extent h) → is_active_flags h.flags ≡ false → active_at us page ≡ None
inactive us page h is e = ap active_header is ∙ (rw e refl)

pub file_not_log : (log : Option PageId) → file_flags log ≡ 19 → ⊥
file_not_log None e = absurd (omega arith)
file_not_log (Some l) e = absurd (omega arith)

pub one_flags : (g k : Header) → Some (Extent g) ≡ Some (Extent k) → g.flags ≡ k.flags
one_flags g k e = let same : g ≡ k = cc in ap (λ (h : Header). h.flags) same

-- AN OBSOLETE FILE

-- the extent of a file and its log are no longer active, and all other units begin as they did
pub record Retires (old new : List ℕ) (e : FileAt) : Type 0 where
  pub long : length new ≡ length old
  pub tiled : IsTiled nowhere new (units_of new)
  pub gone : active_at (units_of new) e.page.0 ≡ None
  pub gone_log : (l : PageId) → e.log ≡ Some l → active_at (units_of new) l.0 ≡ None
  pub others : (q : ℕ) → (has_extent_at q (Some e) ≡ true → ⊥) → unit_begun (units_of new) 0 q ≡ unit_begun (units_of old) 0 q
  pub bytes : OnlyFlags old new (units_of old)
  pub frees : FreesNone old new

obsolete_extent : (old : List ℕ) (e : FileAt) → IsTiled nowhere old (units_of old) → unit_begun (units_of old) 0 e.page.0 ≡ Some (Extent (file_header e)) → Reflags nowhere old (flagged old e.page.0 4) e.page.0 (record (file_header e) { flags = bit_or (file_flags e.log) 4 })
obsolete_extent old e tiled is =
    let f = obsolete_flags e.log in
    flagged_extent nowhere nowhere old e.page.0 (file_header e) 4 tiled is f.0 f.1 (λ q differ. refl)

retires_by : (old : List ℕ) (e : FileAt) (log : Option PageId) → e.log ≡ log → IsTiled nowhere old (units_of old) → unit_begun (units_of old) 0 e.page.0 ≡ Some (Extent (file_header e))
    → ((l : PageId) → e.log ≡ Some l → unit_begun (units_of old) 0 l.0 ≡ Some (Extent (log_header e.name))) → Retires old (obsoleted old e.page.0 log) e
retires_by old e None log_is tiled is logged =
    let r = obsolete_extent old e tiled is in
    record {
      long = r.long;
      tiled = r.tiled;
      gone = inactive (units_of (flagged old e.page.0 4)) e.page.0 (record (file_header e) { flags = bit_or (file_flags e.log) 4 }) r.here (obsolete_flags e.log).2;
      gone_log = λ l some. cc;
      others = λ q out. r.others q (λ same. out (extent_here q e (sym same)));
      bytes = only_one nowhere old (flagged old e.page.0 4) e.page.0 (record (file_header e) { flags = bit_or (file_flags e.log) 4 }) (Extent (file_header e)) r is;
      frees = reflags_frees nowhere old (flagged old e.page.0 4) e.page.0 (record (file_header e) { flags = bit_or (file_flags e.log) 4 }) r;
    }
retires_by old e (Some l) log_is tiled is logged =
    let r = obsolete_extent old e tiled is in
    let mid : List ℕ = flagged old e.page.0 4 in
    let differ : e.page.0 ≢ l.0 = λ same. file_not_log e.log (one_flags (file_header e) (log_header e.name) (sym is ∙ ap (λ q. unit_begun (units_of old) 0 q) same ∙ logged l log_is)) in
    let begun : unit_begun (units_of (flagged old e.page.0 4)) 0 l.0 ≡ Some (Extent (log_header e.name)) = r.others l.0 (λ same. differ (sym same)) ∙ logged l log_is in
    let s : Reflags nowhere (flagged old e.page.0 4) (flagged (flagged old e.page.0 4) l.0 4) l.0 (record (log_header e.name) { flags = bit_or 19 4 }) =
    flagged_extent nowhere nowhere (flagged old e.page.0 4) l.0 (log_header e.name) 4 r.tiled begun refl refl (λ q other. refl) in
    record {
      long = s.long ∙ r.long;
      tiled = s.tiled;
      gone = ap active_header (s.others e.page.0 differ) ∙ inactive (units_of (flagged old e.page.0 4)) e.page.0 (record (file_header e) { flags = bit_or (file_flags e.log) 4 }) r.here (obsolete_flags e.log).2;
      gone_log = λ m some.
          let same : l ≡ m = cc in
          ap (λ (n : PageId). active_at (units_of (flagged (flagged old e.page.0 4) l.0 4)) n.0) (sym same) ∙ inactive (units_of (flagged (flagged old e.page.0 4) l.0 4)) l.0 (record (log_header e.name) { flags = bit_or 19 4 }) s.here refl;
      others = λ q out. s.others q (λ same. out (log_here q e l log_is (sym same))) ∙ r.others q (λ same. out (extent_here q e (sym same)));
      bytes = only_then nowhere old (flagged old e.page.0 4) (flagged (flagged old e.page.0 4) l.0 4) e.page.0 (record (file_header e) { flags = bit_or (file_flags e.log) 4 }) (Extent (file_header e)) r is
          (only_one nowhere (flagged old e.page.0 4) (flagged (flagged old e.page.0 4) l.0 4) l.0 (record (log_header e.name) { flags = bit_or 19 4 }) (Extent (log_header e.name)) s begun);
      frees = frees_then old (flagged old e.page.0 4) (flagged (flagged old e.page.0 4) l.0 4)
          (reflags_frees nowhere old (flagged old e.page.0 4) e.page.0 (record (file_header e) { flags = bit_or (file_flags e.log) 4 }) r)
          (reflags_frees nowhere (flagged old e.page.0 4) (flagged (flagged old e.page.0 4) l.0 4) l.0 (record (log_header e.name) { flags = bit_or 19 4 }) s);
    }

-- OBSOLETE in the headers of a file and of its log
pub retires : (old : List ℕ) (e : FileAt) → IsTiled nowhere old (units_of old) → unit_begun (units_of old) 0 e.page.0 ≡ Some (Extent (file_header e))
    → ((l : PageId) → e.log ≡ Some l → unit_begun (units_of old) 0 l.0 ≡ Some (Extent (log_header e.name))) → Retires old (obsoleted old e.page.0 e.log) e
retires old e tiled is logged = retires_by old e e.log refl tiled is logged
