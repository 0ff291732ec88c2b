-- A flag more in the header of an extent: the units afterwards, and the bytes that stay.
use Rattle.std.proofs.Common.{◌≡◌, ◌≢◌, ℕ, ◌+◌, ◌*◌, ◌/◌, ◌≤◌, ◌<◌, ⊎_elim, Bool, true, false, not, ◌&&◌, ◌||◌, ◌==◌, nat_lt, List, [], ◌∷◌, ◌++◌, length, get_or, Some, None, if◌then◌else◌, refl, ap, sym, subst, ◌∙◌, arith, bit_or}
use Rattle.std.proofs.lemmas.Bool.{cases_lt}
use Rattle.afl_base.specs.Image.{page_bytes}
use Rattle.afl_base.proofs.Images.{length_or_at, or_at_before, or_at_behind, or_at_other_page}
use Rattle.coffee_header.specs.Headers.{is_flags}
use Rattle.padded.specs.Zeros.{is_zeros}
use Rattle.coffee_header.specs.declared.header.Header.{Header}
use Rattle.coffee_layout.specs.Tiling.{IsTiled, KeepRules, broken_suffix, broken_unit, units_of}
use Rattle.coffee_layout.specs.Units.{pages_of, total, unit_at}
use Rattle.coffee_layout.specs.declared.unit.Unit.{Unit}
use Rattle.coffee_layout.specs.declared.unit.Unit.TheVariants.{Extent}
use Rattle.coffee_layout.proofs.Frames.{ends_free, keep_rest, replaced, total-append}
use Rattle.coffee_layout.proofs.Tests.{none_else}
use Rattle.coffee_layout.proofs.Tilings.{kept_some, units_tiled}
use Rattle.coffee_merge.specs.Begun.{unit_begun}
use Rattle.coffee_merge.specs.Flags.{flagged}
use Rattle.coffee_merge.proofs.Begun.{begun_other, begun_split, have_pages, split_begun}
use Rattle.coffee_merge.proofs.HeaderMarks.{marked_unit}

-- ONE BYTE

-- all other bytes stay
pub flagged_bytes : (image : List ℕ) (page flag k : ℕ) → k ≢ 256 * page + 9 → get_or (flagged image page flag) k 0 ≡ get_or image k 0
flagged_bytes image page flag k other =
    ⊎_elim
    (λ (a : k < 256 * page + 9). or_at_before image (256 * page + 9) (flag ∷ []) k a)
    (λ (a : 256 * page + 9 ≤ k). or_at_behind image (256 * page + 9) (flag ∷ []) k (omega arith))
    (cases_lt k (256 * page + 9))

-- UNITS

-- a header with other flags keeps the rules, unless it is under construction
still_kept : (building other zeros now : Bool) (pages page : ℕ) (free : Bool) (h : Header) (flags : ℕ) → flags == 2 ≡ false → broken_unit building zeros pages page free (Some (Extent h)) ≡ None
    → broken_unit other now pages page free (Some (Extent (record h { flags = flags }))) ≡ None
still_kept building other zeros now pages page free h flags done e =
    let one = none_else (h.flags == 2 && not building) 1 (if h.max_pages == 0 || nat_lt pages (page + h.max_pages) then Some 2 else broken_suffix page free) e in
    rw done one.1

-- The header of one extent has other flags: the units tile, all others begin as they did, and all
-- bytes but one stay.
pub record Reflags (building : ℕ → Bool) (old new : List ℕ) (page : ℕ) (h : Header) : Type 0 where
  pub long : length new ≡ length old
  pub tiled : IsTiled building new (units_of new)
  pub here : unit_begun (units_of new) 0 page ≡ Some (Extent h)
  pub others : (q : ℕ) → q ≢ page → unit_begun (units_of new) 0 q ≡ unit_begun (units_of old) 0 q
  pub bytes : (k : ℕ) → k ≢ 256 * page + 9 → get_or new k 0 ≡ get_or old k 0

flagged_tiled : (building other : ℕ → Bool) (old : List ℕ) (front rest : List Unit) (h : Header) (flag : ℕ) → IsTiled building old (front ++ (Extent h ∷ rest)) → is_flags (bit_or h.flags flag) ≡ true → bit_or h.flags flag == 2 ≡ false
    → ((q : ℕ) → q ≢ total front → building q ≡ other q) → IsTiled other (flagged old (total front) flag) (front ++ (Extent (record h { flags = bit_or h.flags flag }) ∷ rest))
flagged_tiled building other old front rest h flag tiled good done allowed =
    let at : KeepRules building old (total front) (ends_free false front) (Extent h ∷ rest) = keep_rest building old front (Extent h ∷ rest) 0 (total front) false (omega arith) tiled.keep in
    let some : 1 ≤ h.max_pages = kept_some building old (total front) (ends_free false front) (Extent h) at.0 at.1 in
    let whole : 256 * (total front + (h.max_pages + total rest)) ≡ length old = ap (λ n. 256 * n) (sym (total-append front (Extent h ∷ rest))) ∙ tiled.whole in
    let long : length (flagged old (total front) flag) ≡ length old = length_or_at old (256 * total front + 9) (flag ∷ []) in
    let is : unit_at (flagged old (total front) flag) (total front) ≡ Some (Extent (record h { flags = bit_or h.flags flag })) = marked_unit old (total front) h flag (omega arith) at.0 good in
    replaced building other old (flagged old (total front) flag) front (Extent h ∷ []) rest (Extent (record h { flags = bit_or h.flags flag })) tiled long
    (λ q out. or_at_other_page old (total front) 9 (flag ∷ []) q (omega arith) (λ e. ⊎_elim (λ (a : q < total front). omega arith) (λ (a : total front + (h.max_pages + 0) ≤ q). omega arith) out))
    (λ q out. allowed q (λ e. ⊎_elim (λ (a : q < total front). omega arith) (λ (a : total front + (h.max_pages + 0) ≤ q). omega arith) out))
    (omega arith) refl is
    (ap (λ o. broken_unit (other (total front)) (is_zeros (page_bytes (flagged old (total front) flag) (total front))) (pages_of (flagged old (total front) flag)) (total front) (ends_free false front) o) is
    ∙ ap (λ n. broken_unit (other (total front)) (is_zeros (page_bytes (flagged old (total front) flag) (total front))) (n / 256) (total front) (ends_free false front) (Some (Extent (record h { flags = bit_or h.flags flag })))) long
    ∙ still_kept (building (total front)) (other (total front)) (is_zeros (page_bytes old (total front))) (is_zeros (page_bytes (flagged old (total front) flag) (total front))) (pages_of old) (total front) (ends_free false front) h (bit_or h.flags flag) done
    (sym (ap (broken_unit (building (total front)) (is_zeros (page_bytes old (total front))) (pages_of old) (total front) (ends_free false front)) at.0) ∙ at.1))

flagged_split : (building other : ℕ → Bool) (old : List ℕ) (front rest : List Unit) (h : Header) (flag : ℕ) → units_of old ≡ front ++ (Extent h ∷ rest) → IsTiled building old (front ++ (Extent h ∷ rest)) → is_flags (bit_or h.flags flag) ≡ true
    → bit_or h.flags flag == 2 ≡ false → ((q : ℕ) → q ≢ total front → building q ≡ other q) → Reflags other old (flagged old (total front) flag) (total front) (record h { flags = bit_or h.flags flag })
flagged_split building other old front rest h flag is tiled good done allowed =
    let all = flagged_tiled building other old front rest h flag tiled good done allowed in
    let units = units_tiled other (flagged old (total front) flag) (front ++ (Extent (record h { flags = bit_or h.flags flag }) ∷ rest)) all in
    record {
      long = length_or_at old (256 * total front + 9) (flag ∷ []);
      tiled = subst (λ us. IsTiled other (flagged old (total front) flag) us) (sym units) all;
      here = ap (λ us. unit_begun us 0 (total front)) units
          ∙ split_begun (front ++ (Extent (record h { flags = bit_or h.flags flag }) ∷ rest)) (total front) (Extent (record h { flags = bit_or h.flags flag })) (have_pages other (flagged old (total front) flag) (front ++ (Extent (record h { flags = bit_or h.flags flag }) ∷ rest)) all)
          (record { front = front; rest = rest; whole = refl; place = refl });
      others = λ q differ.
          ap (λ us. unit_begun us 0 q) units ∙ begun_other front rest (Extent (record h { flags = bit_or h.flags flag })) (Extent h) 0 q refl (λ e. differ (omega arith)) ∙ ap (λ us. unit_begun us 0 q) (sym is);
      bytes = λ k differ. flagged_bytes old (total front) flag k differ;
    }

-- a flag more in the header of an extent
pub flagged_extent : (building other : ℕ → Bool) (old : List ℕ) (page : ℕ) (h : Header) (flag : ℕ) → IsTiled building old (units_of old) → unit_begun (units_of old) 0 page ≡ Some (Extent h) → is_flags (bit_or h.flags flag) ≡ true → bit_or h.flags flag == 2 ≡ false
    → ((q : ℕ) → q ≢ page → building q ≡ other q) → Reflags other old (flagged old page flag) page (record h { flags = bit_or h.flags flag })
flagged_extent building other old page h flag tiled begun good done allowed =
    let s = begun_split (units_of old) page (Extent h) begun in
    subst (λ p. Reflags other old (flagged old p flag) p (record h { flags = bit_or h.flags flag })) s.place
    (flagged_split building other old s.front s.rest h flag s.whole (subst (λ us. IsTiled building old us) s.whole tiled) good done (λ q differ. allowed q (λ e. differ (e ∙ sym s.place))))
