-- The active extents take no more than the table that holds them says.
use Rattle.std.proofs.Common.{◌≡◌, ◌≢◌, ℕ, suc, ◌+◌, ◌≤◌, ◌<◌, ⊎_elim, Bool, true, false, ◌==◌, List, [], ◌∷◌, Option, Some, None, if◌then◌else◌, refl, ap, sym, ◌∙◌, arith}
use Rattle.std.specs.List.{list_any}
use Rattle.std.proofs.lemmas.Bool.{cases_eq}
use Rattle.afl_base.specs.declared.ids.PageId.{PageId}
use Rattle.coffee_header.specs.declared.header.Header.{Header}
use Rattle.coffee_layout.specs.Units.{is_active_flags}
use Rattle.coffee_layout.specs.Walks.{is_its_log}
use Rattle.coffee_layout.specs.declared.file.FileAt.{FileAt}
use Rattle.coffee_layout.specs.declared.unit.Unit.{Unit}
use Rattle.coffee_layout.specs.declared.unit.Unit.TheVariants.{Free, Isolated, Extent}
use Rattle.coffee_layout.proofs.Tests.{eq_false}
use Rattle.coffee_merge.specs.Begun.{active_at, unit_begun}
use Rattle.coffee_merge.specs.Holding.{IsIn, Entries, file_header, has_extent_at, log_header}
use Rattle.coffee_merge.proofs.ExtentShares.{HoldsExtents, extent_shares, log_share, reach, spread}
use Rattle.coffee_merge.proofs.Begun.{HavePages, begun_active, begun_from, begun_here, begun_there}
use Rattle.padded.proofs.Facts.{true_or_false, true_eq, eq_true}

-- ---- sums over the active extents

-- what f says of the pages at which active extents begin, from a page on
abbrev pub gathered : (ℕ → ℕ) → (from : ℕ) → List Unit → ℕ
gathered f from [] = 0
gathered f from (Free ∷ us) = gathered f (from + 1) us
gathered f from (Isolated ∷ us) = gathered f (from + 1) us
gathered f from (Extent h ∷ us) = (if is_active_flags h.flags then f from else 0) + gathered f (from + h.max_pages) us

gathered_zero : (from : ℕ) (us : List Unit) → gathered (λ p. 0) from us ≡ 0
gathered_zero from [] = refl
gathered_zero from (Free ∷ us) = gathered_zero (from + 1) us
gathered_zero from (Isolated ∷ us) = gathered_zero (from + 1) us
gathered_zero from (Extent h ∷ us) = by_flags (is_active_flags h.flags) (gathered_zero (from + h.max_pages) us)
  where
    by_flags : (b : Bool) {n : ℕ} → n ≡ 0 → (if b then 0 else 0) + n ≡ 0
    by_flags true e = omega (arith, e)
    by_flags false e = omega (arith, e)

gathered_sum : (f g : ℕ → ℕ) (from : ℕ) (us : List Unit) → gathered (λ p. f p + g p) from us ≡ gathered f from us + gathered g from us
gathered_sum f g from [] = refl
gathered_sum f g from (Free ∷ us) = gathered_sum f g (from + 1) us
gathered_sum f g from (Isolated ∷ us) = gathered_sum f g (from + 1) us
gathered_sum f g from (Extent h ∷ us) = by_flags (is_active_flags h.flags) (gathered (λ p. f p + g p) (from + h.max_pages) us) (gathered f (from + h.max_pages) us) (gathered g (from + h.max_pages) us) (gathered_sum f g (from + h.max_pages) us)
  where
    by_flags : (b : Bool) (x y z : ℕ) → x ≡ y + z → (if b then f from + g from else 0) + x ≡ (if b then f from else 0) + y + ((if b then g from else 0) + z)
    by_flags true x y z e = omega (arith, e)
    by_flags false x y z e = omega (arith, e)

-- one page of them all
abbrev at_page : (k w : ℕ) → ℕ → ℕ
at_page k w p = if k == p then w else 0

gathered_none : (k w from : ℕ) (us : List Unit) → k < from → gathered (at_page k w) from us ≡ 0
gathered_none k w from [] h = refl
gathered_none k w from (Free ∷ us) h = gathered_none k w (from + 1) us (omega arith)
gathered_none k w from (Isolated ∷ us) h = gathered_none k w (from + 1) us (omega arith)
gathered_none k w from (Extent g ∷ us) h = rw (eq_false k from (λ e. omega arith)) (by_flags (is_active_flags g.flags) (gathered_none k w (from + g.max_pages) us (omega arith)))
  where
    by_flags : (b : Bool) {n : ℕ} → n ≡ 0 → (if b then 0 else 0) + n ≡ 0
    by_flags true e = omega (arith, e)
    by_flags false e = omega (arith, e)

gathered_one : (k w from : ℕ) (us : List Unit) → HavePages us → gathered (at_page k w) from us ≤ w
gathered_one k w from [] h = omega arith
gathered_one k w from (Free ∷ us) h = gathered_one k w (from + 1) us h.1
gathered_one k w from (Isolated ∷ us) h = gathered_one k w (from + 1) us h.1
gathered_one k w from (Extent g ∷ us) h = ⊎_elim
    (λ (e : k ≡ from).
    let some = h.0 in
    let none = gathered_none k w (from + g.max_pages) us (omega arith) in
    rw (eq_true k from e) (here (is_active_flags g.flags) none))
    (λ (e : k ≢ from). rw (eq_false k from e) (there (is_active_flags g.flags) (gathered_one k w (from + g.max_pages) us h.1)))
    (cases_eq k from)
  where
    here : (b : Bool) {n : ℕ} → n ≡ 0 → (if b then w else 0) + n ≤ w
    here true e = omega (arith, e)
    here false e = omega (arith, e)

    there : (b : Bool) {n : ℕ} → n ≤ w → (if b then 0 else 0) + n ≤ w
    there true e = omega (arith, e)
    there false e = omega (arith, e)

-- ---- the table

-- what a file says of a page: its share where its extent begins there, and its log's where that does
abbrev log_part : ℕ → Option PageId → ℕ → ℕ
log_part gap None p = 0
log_part gap (Some l) p = at_page l.0 (2 + gap) p

abbrev part : ℕ → FileAt → ℕ → ℕ
part gap e p = at_page e.page.0 (reach e.pages + gap) p + log_part gap e.log p

abbrev parts : ℕ → Entries → ℕ → ℕ
parts gap [] p = 0
parts gap (None ∷ table) p = parts gap table p
parts gap (Some e ∷ table) p = part gap e p + parts gap table p

log_gathered : (gap : ℕ) (log : Option PageId) (us : List Unit) → HavePages us → gathered (log_part gap log) 0 us ≤ log_share gap log
log_gathered gap None us h = let e = gathered_zero 0 us in omega (arith, e)
log_gathered gap (Some l) us h = gathered_one l.0 (2 + gap) 0 us h

parts_gathered : (gap : ℕ) (table : Entries) (us : List Unit) → HavePages us → gathered (parts gap table) 0 us ≤ extent_shares gap table
parts_gathered gap [] us h = let e = gathered_zero 0 us in omega (arith, e)
parts_gathered gap (None ∷ table) us h = parts_gathered gap table us h
parts_gathered gap (Some e ∷ table) us h =
    let all = gathered_sum (part gap e) (parts gap table) 0 us in
    let both = gathered_sum (at_page e.page.0 (reach e.pages + gap)) (log_part gap e.log) 0 us in
    let own = gathered_one e.page.0 (reach e.pages + gap) 0 us h in
    let log = log_gathered gap e.log us h in
    let rest = parts_gathered gap table us h in
    omega (arith, all, both, own, log, rest)

-- ---- each extent has its part

-- what an extent at a page has of each file that begins there
record Fits (table : Entries) (page pages : ℕ) : Type 0 where
  own : (i : ℕ) (e : FileAt) → IsIn table i e → e.page.0 ≡ page → pages ≡ e.pages
  log : (i : ℕ) (e : FileAt) (l : PageId) → IsIn table i e → e.log ≡ Some l → l.0 ≡ page → pages ≡ 16

log_has : (gap : ℕ) (log : Option PageId) (page pages : ℕ) → ((l : PageId) → log ≡ Some l → l.0 ≡ page → pages ≡ 16) → is_its_log page log ≡ true → reach pages + gap ≤ log_part gap log page
log_has gap None page pages f t = cc
log_has gap (Some l) page pages f t =
    let here = true_eq l.0 page t in
    let same = f l refl here in
    rw t (omega (arith, same))

part_has : (gap : ℕ) (table : Entries) (page pages : ℕ) → Fits table page pages → list_any (has_extent_at page) table ≡ true → reach pages + gap ≤ parts gap table page
part_has gap [] page pages f t = cc
part_has gap (None ∷ table) page pages f t = part_has gap table page pages (record { own = λ i e. f.own (suc i) e; log = λ i e l. f.log (suc i) e l }) t
part_has gap (Some e ∷ table) page pages f t = ⊎_elim
    (λ (here : e.page.0 == page ≡ true).
    let same = f.own 0 e refl (true_eq e.page.0 page here) in
    rw here (omega (arith, same)))
    (λ (other : e.page.0 == page ≡ false). ⊎_elim
    (λ (log : is_its_log page e.log ≡ true). let more = log_has gap e.log page pages (λ l is at. f.log 0 e l refl is at) log in omega (arith, more))
    (λ (none : is_its_log page e.log ≡ false).
    let more = part_has gap table page pages (record { own = λ i d. f.own (suc i) d; log = λ i d l. f.log (suc i) d l }) (rw (other, none) at t) in
    omega (arith, more))
    (true_or_false (is_its_log page e.log)))
    (true_or_false (e.page.0 == page))

fits_held : (us : List Unit) (table : Entries) (page : ℕ) (h : Header) → HoldsExtents us table → active_at us page ≡ Some h → Fits table page h.max_pages
fits_held us table page h k is = record {
  own = λ i e there at. pages_of_file e (sym is ∙ ap (active_at us) (sym at) ∙ k.files i e there);
  log = λ i e l there named at. pages_of_log e (sym is ∙ ap (active_at us) (sym at) ∙ k.logs i e l there named);
}
  where
    header_or : Option Header → ℕ
    header_or None = 0
    header_or (Some g) = g.max_pages

    pages_of_file : (e : FileAt) → Some h ≡ Some (file_header e) → h.max_pages ≡ e.pages
    pages_of_file e same = ap header_or same

    pages_of_log : (e : FileAt) → Some h ≡ Some (log_header e.name) → h.max_pages ≡ 16
    pages_of_log e same = ap header_or same

-- ---- all of them

spread_gathered : (gap : ℕ) (f : ℕ → ℕ) (us : List Unit) (from : ℕ) → HavePages us
    → ((page : ℕ) (h : Header) → unit_begun us from page ≡ Some (Extent h) → is_active_flags h.flags ≡ true → reach h.max_pages + gap ≤ f page)
    → spread gap us ≤ gathered f from us
spread_gathered gap f [] from h each = omega arith
spread_gathered gap f (Free ∷ us) from h each = spread_gathered gap f us (from + 1) h.1 (λ page g is a. let later = begun_from us (from + 1) page (Extent g) h.1 is in each page g (begun_there Free us from page (λ e. omega (arith, later)) ∙ is) a)
spread_gathered gap f (Isolated ∷ us) from h each = spread_gathered gap f us (from + 1) h.1 (λ page g is a. let later = begun_from us (from + 1) page (Extent g) h.1 is in each page g (begun_there Isolated us from page (λ e. omega (arith, later)) ∙ is) a)
spread_gathered gap f (Extent g ∷ us) from h each =
    by_flags (is_active_flags g.flags) (λ a. each from g (begun_here (Extent g) us from from refl) a)
    (spread_gathered gap f us (from + g.max_pages) h.1 (λ page k is a.
    let some = h.0 in
    let later = begun_from us (from + g.max_pages) page (Extent k) h.1 is in
    each page k (begun_there (Extent g) us from page (λ e. omega (arith, later, some)) ∙ is) a))
  where
    by_flags : (b : Bool) → (b ≡ true → reach g.max_pages + gap ≤ f from) → {x y : ℕ} → x ≤ y → (if b then reach g.max_pages + gap else 0) + x ≤ (if b then f from else 0) + y
    by_flags true k le = let few = k refl in omega (arith, few, le)
    by_flags false k le = omega (arith, le)

-- the active extents take no more than the files of the table with their logs
pub spread_held : (gap : ℕ) (us : List Unit) (table : Entries) → HavePages us → HoldsExtents us table → spread gap us ≤ extent_shares gap table
spread_held gap us table h k =
    let each = spread_gathered gap (parts gap table) us 0 h (λ page g is a.
    let active = begun_active us page g is a in
    part_has gap table page g.max_pages (fits_held us table page g k active) (k.only page g active)) in
    let few = parts_gathered gap table us h in
    omega (arith, each, few)
