-- Collection of an image in which a record of a log is torn: that of the one with zeros in its place.
use Rattle.std.proofs.Common.{◌≡◌, ◌⊎◌, inl, inr, ⊎_elim, ℕ, ◌+◌, ◌*◌, ◌/◌, ◌<◌, ◌≤◌, true, false, List, length, get_or, Some, None, refl, ap, sym, subst, ◌∙◌, arith}
use Rattle.std.proofs.lemmas.Bool.{cases_lt}
use Rattle.std.proofs.lemmas.List.{ext_get_or}
use Rattle.afl_base.specs.Image.{page_bytes, zeros_at}
use Rattle.afl_base.proofs.Images.{length_zeros_at, range_same, zeros_at_before, zeros_at_behind, zeros_at_inside}
use Rattle.coffee_layout.specs.Marks.{active_pages}
use Rattle.coffee_layout.specs.Tiling.{IsTiled, nowhere, units_of}
use Rattle.coffee_layout.specs.Units.{is_active, pages_of}
use Rattle.coffee_layout.specs.declared.file.FileAt.{FileAt}
use Rattle.coffee_layout.specs.declared.unit.Unit.{Unit}
use Rattle.coffee_layout.specs.declared.unit.Unit.TheVariants.{Extent}
use Rattle.coffee_layout.proofs.Frames.{unit_at_same}
use Rattle.coffee_layout.proofs.Tilings.{units_tiled}
use Rattle.coffee_merge.specs.Begun.{unit_begun}
use Rattle.coffee_merge.specs.Holding.{Entries, HoldsTable, log_header}
use Rattle.coffee_merge.proofs.Begun.{active_begun, active_same, begun_marks, have_pages}
use Rattle.coffee_merge.proofs.Holdings.{holds_pages, holds_tiled, log_unit}
use Rattle.coffee_space.specs.Collection.{KeepsActive, active_extents}
use Rattle.coffee_space.specs.Cutting.{IsCutCollection, IsCutOff, IsLoose, begun_pages}
use Rattle.coffee_cuts.proofs.Collections.{begun_mark}
use Rattle.coffee_cuts.proofs.EraseCuts.{sector_inside, untaken}
use Rattle.coffee_mend.proofs.HiddenBytes.{blank_but, long_hidden, next_high, next_low, page_hidden, tiled_like, turned_but}
use Rattle.coffee_mend.specs.Joined.{HidesRecord, IsNextIn}
use Rattle.padded.proofs.Facts.{true_eq}

-- two parts of an image are made zero in either order
zeros_twice : (image : List ℕ) (a n b m : ℕ) → a + n ≤ length image → b + m ≤ length image → zeros_at (zeros_at image a n) b m ≡ zeros_at (zeros_at image b m) a n
zeros_twice image a n b m first second =
    let la = length_zeros_at image a n first in
    let lb = length_zeros_at image b m second in
    let fa : b + m ≤ length (zeros_at image a n) = omega (arith, second, la) in
    let fb : a + n ≤ length (zeros_at image b m) = omega (arith, first, lb) in
    ext_get_or 0 (zeros_at (zeros_at image a n) b m) (zeros_at (zeros_at image b m) a n) (length_zeros_at (zeros_at image a n) b m fa ∙ la ∙ sym lb ∙ sym (length_zeros_at (zeros_at image b m) a n fb))
    (λ k h. by_first k)
  where
    gone : (k at n : ℕ) → Type 0
    gone k at n = (at ≤ k) × (k < at + n)

    out : (k at n : ℕ) → Type 0
    out k at n = (k < at) ⊎ (at + n ≤ k)

    split : (k at n : ℕ) → gone k at n ⊎ out k at n
    split k at n = ⊎_elim
        (λ (l : k < at). inr (inl l))
        (λ (l : at ≤ k). ⊎_elim (λ (m : k < at + n). inl (l, m)) (λ (m : at + n ≤ k). inr (inr m)) (cases_lt k (at + n)))
        (cases_lt k at)

    stays : (xs : List ℕ) (at n k : ℕ) → at + n ≤ length xs → out k at n → get_or (zeros_at xs at n) k 0 ≡ get_or xs k 0
    stays xs at n k fits (inl l) = zeros_at_before xs at n k fits l
    stays xs at n k fits (inr l) = zeros_at_behind xs at n k fits l

    zero_there : (xs : List ℕ) (at n k : ℕ) → at + n ≤ length xs → gone k at n → get_or (zeros_at xs at n) k 0 ≡ 0
    zero_there xs at n k fits g = zeros_at_inside xs at n k fits g.0 g.1

    by_first : (k : ℕ) → get_or (zeros_at (zeros_at image a n) b m) k 0 ≡ get_or (zeros_at (zeros_at image b m) a n) k 0
    by_first k =
        let la = length_zeros_at image a n first in
        let lb = length_zeros_at image b m second in
        let fa : b + m ≤ length (zeros_at image a n) = omega (arith, second, la) in
        let fb : a + n ≤ length (zeros_at image b m) = omega (arith, first, lb) in
        ⊎_elim
        (λ (g : gone k a n). ⊎_elim
        (λ (h : gone k b m). zero_there (zeros_at image a n) b m k fa h ∙ sym (zero_there (zeros_at image b m) a n k fb g))
        (λ (h : out k b m). stays (zeros_at image a n) b m k fa h ∙ zero_there image a n k first g ∙ sym (zero_there (zeros_at image b m) a n k fb g))
        (split k b m))
        (λ (g : out k a n). ⊎_elim
        (λ (h : gone k b m). zero_there (zeros_at image a n) b m k fa h ∙ sym (stays (zeros_at image b m) a n k fb g ∙ zero_there image b m k second h))
        (λ (h : out k b m). stays (zeros_at image a n) b m k fa h ∙ stays image a n k first g ∙ sym (stays (zeros_at image b m) a n k fb g ∙ stays image b m k second h))
        (split k b m))
        (split k a n)

module _ (old : List ℕ) (place : ℕ) (table : Entries) (i : ℕ) (e : FileAt) (r : HidesRecord old table None i e place) where
  abbrev shown : List ℕ
  shown = zeros_at old place 128

  abbrev us : List Unit
  us = units_of shown

  n : IsNextIn (length old) place e
  n = r.record_is

  holds : HoldsTable shown table None
  holds = r.table_is.holds

  low : 256 * n.log.0 + 96 ≤ place
  low = let l = next_low (length old) place e n in omega (arith, l)

  high : place + 128 ≤ 256 * n.log.0 + 4096
  high = next_high (length old) place e n

  inside : place + 128 ≤ length old
  inside = n.inside

  -- the units of the one tile the other
  pub hidden_tiled : IsTiled nowhere old us
  hidden_tiled = tiled_like nowhere shown old place n.log.0 (log_header e.name) (blank_but old place inside) low high refl (log_unit shown table None i e n.log holds r.there n.logged) (holds_tiled shown table None holds)

  module _ (new : List ℕ) (long : length new ≡ length old) (k : KeepsActive nowhere old new us) where
    begun_new : unit_begun (units_of new) 0 n.log.0 ≡ Some (Extent (log_header e.name))
    begun_new =
        (active_begun (units_of new) n.log.0 (log_header e.name)
        (active_same (units_of new) us n.log.0 (have_pages nowhere new (units_of new) k.tiled) (holds_pages shown table None holds) k.extents ∙ holds.logs i e n.log r.there n.logged)).0

    tiled_new : IsTiled nowhere (zeros_at new place 128) (units_of new)
    tiled_new = tiled_like nowhere new (zeros_at new place 128) place n.log.0 (log_header e.name) (turned_but new place (omega (arith, inside, long))) low high refl begun_new k.tiled

    pub units_new : units_of (zeros_at new place 128) ≡ units_of new
    units_new = units_tiled nowhere (zeros_at new place 128) (units_of new) tiled_new

    -- an image that keeps what is active keeps it in the other too
    pub kept_shown : KeepsActive nowhere shown (zeros_at new place 128) us
    kept_shown = record {
      tiled = subst (IsTiled nowhere (zeros_at new place 128)) (sym units_new) tiled_new;
      extents = ap active_extents units_new ∙ k.extents;
      active = λ p mark. page_hidden old new place long inside p (k.active p mark);
    }

  -- a collection that broke off
  module _ (new : List ℕ) (long : length new ≡ length old) (c : IsCutOff nowhere old new us) where
    sector_fits : 4096 * c.sector + 4096 ≤ length shown
    sector_fits = sector_inside shown table r.table_is c.sector c.is_taken

    size : length shown ≡ length old
    size = length_zeros_at old place 128 inside

    log_active : get_or (active_pages us) n.log.0 false ≡ true
    log_active = begun_marks is_active us n.log.0 (Extent (log_header e.name)) n.log.0 (log_unit shown table None i e n.log holds r.there n.logged) (omega arith) (omega arith)

    loose_shown : (page : ℕ) → page < pages_of shown → c.sector < page / 16 → get_or (begun_pages c.sector 0 (units_of (zeros_at c.before place 128))) page false ≡ true → IsLoose (zeros_at new place 128) page
    loose_shown page less behind mark =
        let there : get_or (begun_pages c.sector 0 (units_of c.before)) page false ≡ true = ap (λ vs. get_or (begun_pages c.sector 0 vs) page false) (sym (units_new c.before c.long c.kept)) ∙ mark in
        let off : (n.log.0 ≤ page → page < n.log.0 + 16 → ⊥) = λ a b.
        untaken shown table r.table_is c.sector c.is_taken n.log.0 log_active
        (true_eq (n.log.0 / 16) c.sector
        (sym (begun_mark c.sector (units_of c.before) 0 n.log.0 page (Extent (log_header e.name)) (have_pages nowhere c.before (units_of c.before) c.kept.tiled) (begun_new c.before c.long c.kept) (omega (arith, a)) (omega (arith, b))) ∙ there)) in
        let l = low in
        let h = high in
        let same : page_bytes (zeros_at new place 128) page ≡ page_bytes new page =
        range_same (zeros_at new place 128) new (256 * page) (256 * page + 256) (length_zeros_at new place 128 (omega (arith, inside, long)))
        (λ j from to. (turned_but new place (omega (arith, inside, long))).others j (⊎_elim
        (λ (front : j < place). inl front)
        (λ (at : place ≤ j). ⊎_elim
        (λ (within : j < place + 128). absurd (off (omega (arith, at, l, to)) (omega (arith, within, h, from))))
        (λ (past : place + 128 ≤ j). inr past)
        (cases_lt j (place + 128)))
        (cases_lt j place))) in
        ⊎_elim
        (λ blank. inl (same ∙ blank))
        (λ isolated. inr (unit_at_same new (zeros_at new place 128) page same ∙ isolated))
        (c.loose page (let s = size in omega (arith, less, s)) behind there)

    pub off_shown : IsCutOff nowhere shown (zeros_at new place 128) us
    off_shown =
        let s = size in
        let f = sector_fits in
        let few = c.cut.within in
        let b = c.long in
        record {
          sector = c.sector;
          is_taken = c.is_taken;
          before = zeros_at c.before place 128;
          long = long_hidden old c.before place c.long inside;
          kept = kept_shown c.before c.long c.kept;
          cut = record {
            done = c.cut.done;
            within = c.cut.within;
            is = ap (λ x. zeros_at x place 128) c.cut.is ∙ zeros_twice c.before (4096 * c.sector) c.cut.done place 128 (omega (arith, f, s, few, b)) (omega (arith, inside, b));
          };
          loose = loose_shown;
          again = subst (λ x. KeepsActive nowhere shown x us) (zeros_twice new (4096 * c.sector) 4096 place 128 (omega (arith, f, s, long)) (omega (arith, inside, long)))
              (kept_shown (zeros_at new (4096 * c.sector) 4096) (length_zeros_at new (4096 * c.sector) 4096 (omega (arith, f, s, long)) ∙ long) c.again);
        }

  pub cut_shown : (new : List ℕ) → length new ≡ length old → IsCutCollection nowhere old new us → IsCutCollection nowhere shown (zeros_at new place 128) us
  cut_shown new long (inl kept) = inl (kept_shown new long kept)
  cut_shown new long (inr c) = inr (off_shown new long c)
