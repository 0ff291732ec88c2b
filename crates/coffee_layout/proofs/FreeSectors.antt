-- Behind a free page all pages are free, up to the next sector.
use Rattle.std.proofs.Common.{◌≡◌, ℕ, zero, suc, ◌+◌, ◌-◌, ◌*◌, ◌%◌, ◌<◌, Bool, true, false, not, ◌&&◌, ◌||◌, ◌==◌, nat_lt, List, [], ◌∷◌, ◌++◌, replicate, Option, Some, None, if◌then◌else◌, refl, ap, sym, subst, ◌∙◌, arith}
use Rattle.afl_base.specs.Image.{page_bytes}
use Rattle.padded.specs.Zeros.{is_zeros}
use Rattle.coffee_layout.specs.Tiling.{KeepRules, broken_at, broken_suffix, broken_unit}
use Rattle.coffee_layout.specs.Units.{pages_of, total, unit_at}
use Rattle.coffee_layout.specs.declared.unit.Unit.{Unit}
use Rattle.coffee_layout.specs.declared.unit.Unit.TheVariants.{Free, Isolated, Extent}
use Rattle.coffee_layout.proofs.Tests.{eq_false, none_else}

-- so many free pages stand in front, and behind them the rules are kept
pub record FreeSector (building : ℕ → Bool) (image : List ℕ) (page n : ℕ) (us : List Unit) : Type 0 where
  pub rest : List Unit
  pub front : us ≡ replicate n Free ++ rest
  pub keep : KeepRules building image (page + n) true rest
  pub whole : page + n + total rest ≡ pages_of image

four_or_none : (o : Option ℕ) → o ≡ Some 4 → o ≡ None → ⊥
four_or_none o four none = cc

suffix_broken : (page : ℕ) → (page % 16 ≡ 0 → ⊥) → broken_suffix page true ≡ None → ⊥
suffix_broken page inner e =
    let b : page % 16 == 0 ≡ false = eq_false (page % 16) 0 inner in
    four_or_none (broken_suffix page true) (rw b refl) e

extent_broken : (building zeros : Bool) (pages page : ℕ) (u : Unit) → (u ≡ Free → ⊥) → (page % 16 ≡ 0 → ⊥) → broken_unit building zeros pages page true (Some u) ≡ None → ⊥
extent_broken building zeros pages page Free other inner e = other refl
extent_broken building zeros pages page Isolated other inner e = suffix_broken page inner e
extent_broken building zeros pages page (Extent h) other inner e =
    let some = (none_else (h.flags == 2 && not building) 1 (if h.max_pages == 0 || nat_lt pages (page + h.max_pages) then Some 2 else broken_suffix page true) e).1 in
    suffix_broken page inner (none_else (h.max_pages == 0 || nat_lt pages (page + h.max_pages)) 2 (broken_suffix page true) some).1

used_broken : (building : ℕ → Bool) (image : List ℕ) (page : ℕ) (u : Unit) → (u ≡ Free → ⊥) → (page % 16 ≡ 0 → ⊥) → unit_at image page ≡ Some u → broken_at building image page true ≡ None → ⊥
used_broken building image page u other inner is kept =
    extent_broken (building page) (is_zeros (page_bytes image page)) (pages_of image) page u other inner
    (sym (ap (broken_unit (building page) (is_zeros (page_bytes image page)) (pages_of image) page true) is) ∙ kept)

-- behind a free page, n pages before the next sector
sector_rest : (building : ℕ → Bool) (image : List ℕ) (sectors n page : ℕ) (us : List Unit) → pages_of image ≡ 16 * sectors → (page + n) % 16 ≡ 0 → n < 16 → KeepRules building image page true us → page + total us ≡ pages_of image
    → FreeSector building image page n us
sector_rest building image sectors zero page us all end few keep whole =
    let e : page + 0 ≡ page = omega arith in
    record { rest = us; front = refl; keep = subst (λ p. KeepRules building image p true us) (sym e) keep; whole = omega arith }
sector_rest building image sectors (suc n) page [] all end few keep whole = absurd (omega arith)
sector_rest building image sectors (suc n) page (Free ∷ us) all end few keep whole =
    let e : page + 1 + n ≡ page + suc n = omega arith in
    let more = sector_rest building image sectors n (page + 1) us all (omega arith) (omega arith) keep.2 (omega arith) in
    record {
      rest = more.rest;
      front = ap (λ t. Free ∷ t) more.front;
      keep = subst (λ p. KeepRules building image p true more.rest) e more.keep;
      whole = omega (arith, more.whole);
    }
sector_rest building image sectors (suc n) page (Isolated ∷ us) all end few keep whole =
    absurd (used_broken building image page Isolated (λ (e : Isolated ≡ Free). cc) (omega arith) keep.0 keep.1)
sector_rest building image sectors (suc n) page (Extent h ∷ us) all end few keep whole =
    absurd (used_broken building image page (Extent h) (λ (e : Extent h ≡ Free). cc) (omega arith) keep.0 keep.1)

-- from a free page on
pub free_sector : (building : ℕ → Bool) (image : List ℕ) (sectors page : ℕ) (after_free : Bool) (us : List Unit) → pages_of image ≡ 16 * sectors → KeepRules building image page after_free (Free ∷ us) → page + total (Free ∷ us) ≡ pages_of image
    → FreeSector building image page (16 - page % 16) (Free ∷ us)
free_sector building image sectors page after_free us all keep whole =
    let n : ℕ = 15 - page % 16 in
    let one : 16 - page % 16 ≡ suc n = omega arith in
    let e : page + 1 + n ≡ page + (16 - page % 16) = omega arith in
    let more = sector_rest building image sectors n (page + 1) us all (omega arith) (omega arith) keep.2 (omega arith) in
    record {
      rest = more.rest;
      front = subst (λ k. Free ∷ us ≡ replicate k Free ++ more.rest) (sym one) (ap (λ t. Free ∷ t) more.front);
      keep = subst (λ p. KeepRules building image p true more.rest) e more.keep;
      whole = omega (arith, more.whole);
    }
