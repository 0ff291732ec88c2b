-- Tilings: that the units of an image are the only list that tiles it, and a walk over them.
use Rattle.std.proofs.Common.{◌≡◌, ℕ, zero, suc, ◌+◌, ◌*◌, ◌≤◌, ◌<◌, ⊎_elim, Bool, false, ◌&&◌, ◌||◌, not, ◌==◌, nat_lt, List, [], ◌∷◌, length, Option, Some, None, if◌then◌else◌, refl, ap, sym, ◌∙◌, arith}
use Rattle.std.proofs.lemmas.Bool.{cases_lt}
use Rattle.afl_base.specs.Image.{page_bytes}
use Rattle.padded.specs.Zeros.{is_zeros}
use Rattle.coffee_layout.specs.Units.{is_free, pages_of, size_of, total, unit_at}
use Rattle.coffee_layout.specs.Tiling.{KeepRules, IsCovered, IsTiled, StandFrom, broken_at, broken_unit, broken_suffix, broken_from, broken_tiling, units_from, units_of, at_page}
use Rattle.coffee_layout.specs.declared.unit.Unit.{Unit}
use Rattle.coffee_layout.specs.declared.unit.Unit.TheVariants.{Free, Isolated, Extent}
use Rattle.coffee_layout.proofs.Tests.{false_lt, false_eq, none_else, or_none}
use Rattle.padded.proofs.Facts.{lt_true, lt_false, neither}

-- the units from a page on: one and the others, or none at the end
pub units_step : (turns : ℕ) (image : List ℕ) (page : ℕ) (u : Unit) → page < pages_of image → unit_at image page ≡ Some u → units_from (suc turns) image page ≡ u ∷ units_from turns image (page + size_of u)
units_step turns image page u before e = rw (lt_true page (pages_of image) before, e) refl

pub units_end : (turns : ℕ) (image : List ℕ) (page : ℕ) → pages_of image ≤ page → units_from turns image page ≡ []
units_end zero image page behind = refl
units_end (suc turns) image page behind = rw (lt_false page (pages_of image) behind) refl

-- what rule 2 gives: a unit that keeps the rules has a page, and ends inside the flash
pub unit_inside : (building zeros : Bool) (pages page : ℕ) (after_free : Bool) (u : Unit) → page < pages → broken_unit building zeros pages page after_free (Some u) ≡ None → (1 ≤ size_of u) × (page + size_of u ≤ pages)
unit_inside building zeros pages page after_free Free before e = (omega arith, omega arith)
unit_inside building zeros pages page after_free Isolated before e = (omega arith, omega arith)
unit_inside building zeros pages page after_free (Extent h) before e =
    let some = (none_else (h.flags == 2 && not building) 1 (if h.max_pages == 0 || nat_lt pages (page + h.max_pages) then Some 2 else broken_suffix page after_free) e).1 in
    let fits = neither (h.max_pages == 0) (nat_lt pages (page + h.max_pages)) (none_else (h.max_pages == 0 || nat_lt pages (page + h.max_pages)) 2 (broken_suffix page after_free) some).0 in
    let least = false_eq h.max_pages 0 fits.0 in
    (omega arith, false_lt pages (page + h.max_pages) fits.1)

pub unit_some : (building zeros : Bool) (pages page : ℕ) (after_free : Bool) (u : Unit) → broken_unit building zeros pages page after_free (Some u) ≡ None → 1 ≤ size_of u
unit_some building zeros pages page after_free Free e = omega arith
unit_some building zeros pages page after_free Isolated e = omega arith
unit_some building zeros pages page after_free (Extent h) e =
    let some = (none_else (h.flags == 2 && not building) 1 (if h.max_pages == 0 || nat_lt pages (page + h.max_pages) then Some 2 else broken_suffix page after_free) e).1 in
    let least = false_eq h.max_pages 0 (neither (h.max_pages == 0) (nat_lt pages (page + h.max_pages)) (none_else (h.max_pages == 0 || nat_lt pages (page + h.max_pages)) 2 (broken_suffix page after_free) some).0).0 in
    omega arith

-- the same, read of an image
pub kept_some : (building : ℕ → Bool) (image : List ℕ) (page : ℕ) (after_free : Bool) (u : Unit) → unit_at image page ≡ Some u → broken_at building image page after_free ≡ None → 1 ≤ size_of u
kept_some building image page after_free u is kept =
    unit_some (building page) (is_zeros (page_bytes image page)) (pages_of image) page after_free u
    (sym (ap (broken_unit (building page) (is_zeros (page_bytes image page)) (pages_of image) page after_free) is) ∙ kept)

pub kept_inside : (building : ℕ → Bool) (image : List ℕ) (page : ℕ) (after_free : Bool) (u : Unit) → page < pages_of image → unit_at image page ≡ Some u → broken_at building image page after_free ≡ None → (1 ≤ size_of u) × (page + size_of u ≤ pages_of image)
kept_inside building image page after_free u before is kept =
    unit_inside (building page) (is_zeros (page_bytes image page)) (pages_of image) page after_free u before
    (sym (ap (broken_unit (building page) (is_zeros (page_bytes image page)) (pages_of image) page after_free) is) ∙ kept)

-- a broken rule at a page is the first of the walk that comes there
pub broken_here : (building : ℕ → Bool) (image : List ℕ) (page : ℕ) (after_free : Bool) (us : List Unit) (rule : ℕ) → page < pages_of image → broken_at building image page after_free ≡ Some rule → broken_from building image page after_free us ≡ Some (record { rule = rule; place = page })
broken_here building image page after_free [] rule before e = rw (lt_true page (pages_of image) before, e) refl
broken_here building image page after_free (u ∷ us) rule before e = rw e refl

page_none : (page : ℕ) (o : Option ℕ) → at_page page o ≡ None → o ≡ None
page_none page None e = refl
page_none page (Some rule) e = cc

kept_turn : (building : ℕ → Bool) (turns : ℕ) (image : List ℕ) (page : ℕ) (after_free : Bool) → pages_of image ≤ page + suc turns → page < pages_of image
    → ((p : ℕ) (f : Bool) → pages_of image ≤ p + turns → p ≤ pages_of image → broken_from building image p f (units_from turns image p) ≡ None
    → KeepRules building image p f (units_from turns image p) × (p + total (units_from turns image p) ≡ pages_of image))
    → (o : Option Unit) → unit_at image page ≡ o
    → broken_from building image page after_free (units_from (suc turns) image page) ≡ None
    → KeepRules building image page after_free (units_from (suc turns) image page) × (page + total (units_from (suc turns) image page) ≡ pages_of image)
kept_turn building turns image page after_free enough before others None is e =
    let none : broken_at building image page after_free ≡ Some 1 = ap (broken_unit (building page) (is_zeros (page_bytes image page)) (pages_of image) page after_free) is in
    let bad = sym (broken_here building image page after_free (units_from (suc turns) image page) 1 before none) ∙ e in
    cc
kept_turn building turns image page after_free enough before others (Some u) is e =
    let step = units_step turns image page u before is in
    let h = or_none (at_page page (broken_at building image page after_free)) (broken_from building image (page + size_of u) (is_free u) (units_from turns image (page + size_of u))) (rw step at e) in
    let here = page_none page (broken_at building image page after_free) h.0 in
    let inside = kept_inside building image page after_free u before is here in
    let rest = others (page + size_of u) (is_free u) (omega arith) inside.1 h.1 in
    rw step ((is, here, rest.0), omega arith)

-- where no rule is broken the units keep the rules, up to the end
pub keep_unbroken : (building : ℕ → Bool) (turns : ℕ) (image : List ℕ) (page : ℕ) (after_free : Bool) → pages_of image ≤ page + turns → page ≤ pages_of image
    → broken_from building image page after_free (units_from turns image page) ≡ None
    → KeepRules building image page after_free (units_from turns image page) × (page + total (units_from turns image page) ≡ pages_of image)
keep_unbroken building zero image page after_free enough within e = (tt, omega arith)
keep_unbroken building (suc turns) image page after_free enough within e =
    ⊎_elim
    (λ (before : page < pages_of image). kept_turn building turns image page after_free enough before (λ p f. keep_unbroken building turns image p f) (unit_at image page) refl e)
    (λ (behind : pages_of image ≤ page). rw (units_end (suc turns) image page behind) (tt, omega arith))
    (cases_lt page (pages_of image))

-- units that cover an image are what the walk gives
units_standing : (us : List Unit) (turns : ℕ) (image : List ℕ) (page : ℕ) → StandFrom image page us → page + total us ≡ pages_of image → pages_of image ≤ page + turns → units_from turns image page ≡ us
units_standing [] turns image page s whole enough = units_end turns image page (omega arith)
units_standing (u ∷ us) zero image page s whole enough = absurd (omega (arith, s.1))
units_standing (u ∷ us) (suc turns) image page s whole enough =
    units_step turns image page u (omega (arith, s.1)) s.0
    ∙ ap (λ t. u ∷ t) (units_standing us turns image (page + size_of u) s.2 (omega arith) (omega (arith, s.1)))

pub units_covered : (image : List ℕ) (us : List Unit) → IsCovered image us → units_of image ≡ us
unfolding units_of
units_covered image us c = units_standing us (pages_of image) image 0 c.stand (omega (arith, c.whole)) (omega arith)

pub one_cover : (image : List ℕ) (us vs : List Unit) → IsCovered image us → IsCovered image vs → us ≡ vs
one_cover image us vs c d = sym (units_covered image us c) ∙ units_covered image vs d

-- units that keep the rules cover the image
kept_stand : (building : ℕ → Bool) (us : List Unit) (image : List ℕ) (page : ℕ) (after_free : Bool) → KeepRules building image page after_free us → StandFrom image page us
kept_stand building [] image page after_free k = tt
kept_stand building (u ∷ us) image page after_free k =
    (k.0, kept_some building image page after_free u k.0 k.1, kept_stand building us image (page + size_of u) (is_free u) k.2)

pub tiled_covered : (building : ℕ → Bool) (image : List ℕ) (us : List Unit) → IsTiled building image us → IsCovered image us
tiled_covered building image us t = record { stand = kept_stand building us image 0 false t.keep; whole = t.whole }

pub unbroken_kept : (building : ℕ → Bool) (us : List Unit) (image : List ℕ) (page : ℕ) (after_free : Bool) → KeepRules building image page after_free us → page + total us ≡ pages_of image → broken_from building image page after_free us ≡ None
unbroken_kept building [] image page after_free k whole = rw (lt_false page (pages_of image) (omega arith)) refl
unbroken_kept building (u ∷ us) image page after_free k whole = rw k.1 (unbroken_kept building us image (page + size_of u) (is_free u) k.2 (omega arith))

-- an image that breaks none of the rules 1 to 4 is tiled by its units
pub tiled_unbroken : (building : ℕ → Bool) (image : List ℕ) → 256 * pages_of image ≡ length image → broken_tiling building image ≡ None → IsTiled building image (units_of image)
unfolding units_of
tiled_unbroken building image whole e =
    let k = keep_unbroken building (pages_of image) image 0 false (omega arith) (omega arith) e in
    record { keep = k.0; whole = omega (arith, k.1) }

-- a list that tiles the image is that of its units
pub units_tiled : (building : ℕ → Bool) (image : List ℕ) (us : List Unit) → IsTiled building image us → units_of image ≡ us
units_tiled building image us t = units_covered image us (tiled_covered building image us t)

pub unbroken_tiled : (building : ℕ → Bool) (image : List ℕ) (us : List Unit) → IsTiled building image us → broken_tiling building image ≡ None
unbroken_tiled building image us t =
    rw (units_tiled building image us t) (unbroken_kept building us image 0 false t.keep (omega (arith, t.whole)))

-- at most one list tiles an image
pub one_tiling : (building other : ℕ → Bool) (image : List ℕ) (us vs : List Unit) → IsTiled building image us → IsTiled other image vs → us ≡ vs
one_tiling building other image us vs t s = sym (units_tiled building image us t) ∙ units_tiled other image vs s
