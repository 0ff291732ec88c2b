-- An image of which a sector was being erased breaks one of the rules 1 to 4 in that sector first, or is erased there already.
use Rattle.std.proofs.Common.{◌≡◌, ◌≢◌, ◌⊎◌, inl, inr, ⊎_elim, ℕ, zero, suc, ◌+◌, ◌-◌, ◌*◌, ◌/◌, ◌%◌, ◌<◌, ◌≤◌, Bool, true, false, ◌||◌, ◌==◌, nat_lt, List, [], ◌∷◌, length, replicate, Option, Some, None, refl, ap, sym, ◌∙◌, arith, bit_and}
use Rattle.std.proofs.lemmas.Bool.{cases_eq, cases_lt}
use Rattle.afl_base.specs.Image.{page_bytes, zeros_at}
use Rattle.afl_base.proofs.Images.{erased_other_page, erased_page, length_range}
use Rattle.coffee_header.specs.Headers.{is_flags}
use Rattle.coffee_header.specs.declared.header.Header.{Header}
use Rattle.coffee_layout.specs.Rules.{broken_image}
use Rattle.coffee_layout.specs.Tiling.{KeepRules, broken_at, broken_from, broken_suffix, broken_tiling, broken_unit, nowhere, units_from, units_of}
use Rattle.coffee_layout.specs.Units.{is_free, pages_of, size_of, unit_at}
use Rattle.coffee_layout.specs.declared.unit.BadImage.{BadImage}
use Rattle.coffee_layout.specs.declared.unit.Unit.{Unit}
use Rattle.coffee_layout.specs.declared.unit.Unit.TheVariants.{Extent, Free, Isolated}
use Rattle.coffee_layout.proofs.Frames.{unit_at_same}
use Rattle.coffee_layout.proofs.Judging.{image_untiled}
use Rattle.coffee_layout.proofs.Tests.{eq_false}
use Rattle.coffee_layout.proofs.Tilings.{broken_here, kept_inside, units_step}
use Rattle.coffee_merge.specs.Begun.{unit_begun}
use Rattle.coffee_merge.proofs.Begun.{begun_there}
use Rattle.padded.specs.Zeros.{is_zeros}
use Rattle.padded.proofs.Facts.{by_truth, yes_no}
use Rattle.coffee_cuts.specs.Cuts.{IsErasing, IsHeadless, IsSettled}
use Rattle.coffee_cuts.proofs.MarkedPages.{extent_ninth, isolated_ninth, ninth, thirty_four}
use Rattle.coffee_cuts.proofs.Reached.{begun_past, no_unit, same_unit}
use Rattle.coffee_cuts.proofs.SettledRules.{settled_kept}
use Rattle.coffee_cuts.proofs.TornBeginnings.{erased_front, erased_long}
use Rattle.coffee_cuts.proofs.ZeroPages.{all_zero, images_same}
use Rattle.coffee_cuts.proofs.FirstRules.{broken_same, kept_first, no_head}

-- A walk comes to a page up to which another, tiled image is the same, where a unit of that begins there: no rule is broken before it.
pub arrive : (image other : List ℕ) (us : List Unit) (turns from page : ℕ) (free : Bool) (u : Unit) → pages_of image ≡ pages_of other
    → ((p : ℕ) → p < page → page_bytes image p ≡ page_bytes other p) → KeepRules nowhere other from free us → pages_of image ≤ from + turns → page < pages_of image
    → unit_begun us from page ≡ Some u
    → (f : Bool) × (n : ℕ) × (pages_of image ≤ page + n) × (broken_from nowhere image from free (units_from turns image from) ≡ broken_from nowhere image page f (units_from n image page))
arrive image other [] turns from page free u long same k enough within e = no_unit u e
arrive image other (v ∷ us) turns from page free u long same k enough within e = ⊎_elim
    (λ (here : from ≡ page). (free, turns, omega (arith, enough, here), ap (λ p. broken_from nowhere image p free (units_from turns image p)) here))
    (λ (there : from ≢ page). by_turns turns enough (before there) (rest there)
    (λ m fuel. arrive image other us m (from + size_of v) page (is_free v) u long same k.2 fuel within (rest there)))
    (cases_eq from page)
  where
    rest : from ≢ page → unit_begun us (from + size_of v) page ≡ Some u
    rest there = sym (begun_there v us from page there) ∙ e

    before : from ≢ page → from < page
    before there = ⊎_elim
        (λ (past : page < from + size_of v). no_unit u (sym (begun_past us (from + size_of v) page past) ∙ rest there))
        (λ (low : from + size_of v ≤ page). omega (arith, low, there))
        (cases_lt page (from + size_of v))

    by_turns : (n : ℕ) → pages_of image ≤ from + n → from < page → unit_begun us (from + size_of v) page ≡ Some u
        → ((m : ℕ) → pages_of image ≤ from + size_of v + m
        → (f : Bool) × (i : ℕ) × (pages_of image ≤ page + i) × (broken_from nowhere image (from + size_of v) (is_free v) (units_from m image (from + size_of v)) ≡ broken_from nowhere image page f (units_from i image page)))
        → (f : Bool) × (i : ℕ) × (pages_of image ≤ page + i) × (broken_from nowhere image from free (units_from n image from) ≡ broken_from nowhere image page f (units_from i image page))
    by_turns zero fuel less r next = absurd (omega (arith, fuel, less, within))
    by_turns (suc m) fuel less r next =
        let low : from < pages_of image = omega (arith, less, within) in
        let is : unit_at image from ≡ Some v = unit_at_same other image from (same from less) ∙ k.0 in
        let none : broken_at nowhere image from free ≡ None = broken_same image other from free long (same from less) ∙ k.1 in
        let size = kept_inside nowhere image from free v low is none in
        let some = size.0 in
        let on = next m (omega (arith, fuel, some)) in (
          on.0,
          on.1,
          on.2,
          ap (broken_from nowhere image from free) (units_step m image from v low is)
              ∙ kept_first image from free v (units_from m image (from + size_of v)) none
              ∙ on.3,
        )

-- ---- RULES AT A PAGE

bad_free : (zeros : Bool) (pages page : ℕ) (f : Bool) → zeros ≡ false → broken_unit false zeros pages page f (Some Free) ≡ Some 3
bad_free zeros pages page f e = rw e refl

good_free : (zeros : Bool) (pages page : ℕ) (f : Bool) → zeros ≡ true → broken_unit false zeros pages page f (Some Free) ≡ None
good_free zeros pages page f e = rw e refl

-- behind a free page of its sector
suffix : (page : ℕ) (f : Bool) → f ≡ true → page % 16 ≢ 0 → broken_suffix page f ≡ Some 4
suffix page f e other = let z = eq_false (page % 16) 0 other in rw (e, z) refl

bad_isolated : (zeros : Bool) (pages page : ℕ) (f : Bool) → f ≡ true → page % 16 ≢ 0 → broken_unit false zeros pages page f (Some Isolated) ≡ Some 4
bad_isolated zeros pages page f e other = suffix page f e other

draft_extent : (h : Header) (zeros : Bool) (pages page : ℕ) (f : Bool) → h.flags == 2 ≡ true → broken_unit false zeros pages page f (Some (Extent h)) ≡ Some 1
draft_extent h zeros pages page f e = rw e refl

long_extent : (h : Header) (zeros : Bool) (pages page : ℕ) (f : Bool) → h.flags == 2 ≡ false → (h.max_pages == 0 || nat_lt pages (page + h.max_pages)) ≡ true → broken_unit false zeros pages page f (Some (Extent h)) ≡ Some 2
long_extent h zeros pages page f e g = rw (e, g) refl

late_extent : (h : Header) (zeros : Bool) (pages page : ℕ) (f : Bool) → h.flags == 2 ≡ false → (h.max_pages == 0 || nat_lt pages (page + h.max_pages)) ≡ false → f ≡ true → page % 16 ≢ 0
    → broken_unit false zeros pages page f (Some (Extent h)) ≡ Some 4
late_extent h zeros pages page f e g free other = rw (e, g) (suffix page f free other)

empty_extent : (n m : ℕ) (b : Bool) → n ≡ 0 → (n == 0 || b) ≡ true
empty_extent n m b e = ap (λ x. x == 0 || b) e

-- one of the rules 1 to 4 is broken at a page of a sector
pub record BreaksIn (sector : ℕ) (broken : Option BadImage) : Type 0 where
  pub rule : ℕ
  pub place : ℕ
  pub some : 1 ≤ rule
  pub few : rule ≤ 4
  pub there : place / 16 ≡ sector
  pub is : broken ≡ Some (record { rule = rule; place = place })

module _ (image : List ℕ) (sectors : ℕ) (size : length image ≡ 4096 * sectors) (sector page : ℕ) (e : IsErasing image sector page) where
  abbrev ZeroBehind : Type 0
  ZeroBehind = (p : ℕ) → page ≤ p → p < 16 * sector + 16 → page_bytes image p ≡ replicate 256 0

  abbrev Ends : (q n : ℕ) → Bool → Type 0
  Ends q n f = ZeroBehind ⊎ BreaksIn sector (broken_from nowhere image q f (units_from n image q))

  -- no isolated page, and no extent with pages, is at the first page
  no_isolated : unit_at image page ≡ Some Isolated → IsHeadless image page → ⊥
  no_isolated is (inl z) =
      let n : ninth image page ≡ 0 = z in
      thirty_four (bit_and (ninth image page) 34) (bit_and 0 34) (isolated_ninth image page is) refl (ap (λ x. bit_and x 34) n)
  no_isolated is (inr b) = absurd (apart b.0 (sym b.1 ∙ is))
    where
      apart : (h : Header) → Some (Extent h) ≡ Some Isolated → ⊥
      apart h s = let n : ⊥ = cc in n

  no_pages : (h : Header) → unit_at image page ≡ Some (Extent h) → IsHeadless image page → h.max_pages ≡ 0
  no_pages h is (inl z) = let n : ninth image page ≡ 0 = z in yes_no (is_flags (ninth image page)) (extent_ninth image page h is).1 (ap is_flags n)
  no_pages h is (inr b) = ap size_of (same_unit (Extent h) (Extent b.0) (sym is ∙ b.1)) ∙ b.2

  break_at : (q n rule : ℕ) (f : Bool) → 1 ≤ rule → rule ≤ 4 → q / 16 ≡ sector → q < pages_of image → broken_at nowhere image q f ≡ Some rule → Ends q n f
  break_at q n rule f some few there within bad = inr (record { rule = rule; place = q; some = some; few = few; there = there; is = broken_here nowhere image q f (units_from n image q) rule within bad })

  sector_walk : (count q n : ℕ) (f : Bool) → q + count ≡ 16 * sector + 16 → page ≤ q → (q ≡ page) ⊎ ((page < q) × (f ≡ true)) → pages_of image ≤ q + n
      → ((p : ℕ) → page ≤ p → p < q → page_bytes image p ≡ replicate 256 0) → Ends q n f
  sector_walk zero q n f ends low first enough zeros = inl (λ p from less. zeros p from (omega (arith, less, ends)))
  sector_walk (suc c) q n f ends low first enough zeros = by_unit (unit_at image q) refl n enough
      (λ m fuel zero_here. sector_walk c (q + 1) m true (omega (arith, ends)) (omega (arith, low)) (inr (omega (arith, low), refl)) fuel
      (λ p from less. ⊎_elim
      (λ (here : p ≡ q). ap (page_bytes image) here ∙ zero_here)
      (λ (there : p ≢ q). zeros p from (omega (arith, less, there)))
      (cases_eq p q)))
    where
      here : q / 16 ≡ sector
      here = let from = e.from in omega (arith, low, from, ends)

      within : q < pages_of image
      within = let i = e.inside in omega (arith, i, ends)

      exists : 256 * q + 256 ≤ length image
      exists = let i = e.inside in omega (arith, i, ends)

      inner : page < q → q % 16 ≢ 0
      inner less z = let from = e.from in absurd (omega (arith, z, less, from, ends))

      at : (u : Option Unit) → unit_at image q ≡ u → broken_at nowhere image q f ≡ broken_unit false (is_zeros (page_bytes image q)) (pages_of image) q f u
      at u is = ap (broken_unit false (is_zeros (page_bytes image q)) (pages_of image) q f) is

      by_extent : (h : Header) (k : ℕ) → unit_at image q ≡ Some (Extent h) → (q ≡ page) ⊎ ((page < q) × (f ≡ true)) → Ends q k f
      by_extent h k is come = by_truth (h.flags == 2)
          (λ two. break_at q k 1 f (omega arith) (omega arith) here within (at (Some (Extent h)) is ∙ draft_extent h (is_zeros (page_bytes image q)) (pages_of image) q f two))
          (λ other. by_truth (h.max_pages == 0 || nat_lt (pages_of image) (q + h.max_pages))
          (λ bad. break_at q k 2 f (omega arith) (omega arith) here within (at (Some (Extent h)) is ∙ long_extent h (is_zeros (page_bytes image q)) (pages_of image) q f other bad))
          (λ good. ⊎_elim
          (λ (start : q ≡ page). yes_no (h.max_pages == 0 || nat_lt (pages_of image) (q + h.max_pages))
          (empty_extent h.max_pages 0 (nat_lt (pages_of image) (q + h.max_pages)) (no_pages h (ap (unit_at image) (sym start) ∙ is) e.blank)) good)
          (λ (later : (page < q) × (f ≡ true)).
          break_at q k 4 f (omega arith) (omega arith) here within (at (Some (Extent h)) is ∙ late_extent h (is_zeros (page_bytes image q)) (pages_of image) q f other good later.1 (inner later.0)))
          come))

      by_isolated : (k : ℕ) → unit_at image q ≡ Some Isolated → (q ≡ page) ⊎ ((page < q) × (f ≡ true)) → Ends q k f
      by_isolated k is (inl start) = absurd (no_isolated (ap (unit_at image) (sym start) ∙ is) e.blank)
      by_isolated k is (inr later) = break_at q k 4 f (omega arith) (omega arith) here within (at (Some Isolated) is ∙ bad_isolated (is_zeros (page_bytes image q)) (pages_of image) q f later.1 (inner later.0))

      onward : (k : ℕ) → unit_at image q ≡ Some Free → is_zeros (page_bytes image q) ≡ true → Ends (q + 1) k true → Ends q (suc k) f
      onward k is z (inl all) = inl all
      onward k is z (inr b) =
          let none : broken_at nowhere image q f ≡ None = at (Some Free) is ∙ good_free (is_zeros (page_bytes image q)) (pages_of image) q f z in
          inr (record {
            rule = b.rule;
            place = b.place;
            some = b.some;
            few = b.few;
            there = b.there;
            is = ap (broken_from nowhere image q f) (units_step k image q Free within is) ∙ kept_first image q f Free (units_from k image (q + 1)) none ∙ b.is;
          })

      by_turns : (k : ℕ) → pages_of image ≤ q + k → unit_at image q ≡ Some Free → is_zeros (page_bytes image q) ≡ true
          → ((m : ℕ) → pages_of image ≤ q + 1 + m → page_bytes image q ≡ replicate 256 0 → Ends (q + 1) m true) → Ends q k f
      by_turns zero fuel is z next = let w = within in absurd (omega (arith, fuel, w))
      by_turns (suc m) fuel is z next =
          let long : length (page_bytes image q) ≡ 256 = length_range image (256 * q) (256 * q + 256) exists ∙ omega arith in
          onward m is z (next m (omega (arith, fuel)) (all_zero (page_bytes image q) 256 long z))

      by_unit : (o : Option Unit) → unit_at image q ≡ o → (k : ℕ) → pages_of image ≤ q + k
          → ((m : ℕ) → pages_of image ≤ q + 1 + m → page_bytes image q ≡ replicate 256 0 → Ends (q + 1) m true) → Ends q k f
      by_unit None is k fuel next = break_at q k 1 f (omega arith) (omega arith) here within (no_head image q is f)
      by_unit (Some Free) is k fuel next = by_truth (is_zeros (page_bytes image q))
          (λ z. by_turns k fuel is z next)
          (λ z. break_at q k 3 f (omega arith) (omega arith) here within (at (Some Free) is ∙ bad_free (is_zeros (page_bytes image q)) (pages_of image) q f z))
      by_unit (Some Isolated) is k fuel next = by_isolated k is first
      by_unit (Some (Extent h)) is k fuel next = by_extent h k is first

  abbrev clear : List ℕ
  clear = zeros_at image (4096 * sector) 4096

  pub erasings_break_in_their_sector : IsSettled clear → (image ≡ clear) ⊎ BreaksIn sector (broken_image image)
  unfolding units_of
  erasings_break_in_their_sector s =
      let long = erased_long image sectors size sector page e in
      let k = settled_kept clear (omega (arith, long, size)) s in
      let from = e.from in
      let within = e.within in
      let i = e.inside in
      let a = arrive image clear (units_from (pages_of clear) clear 0) (pages_of image) 0 page false Free (ap (λ n. n / 256) (sym long))
      (λ p less. sym (erased_front image sectors size sector page e p less)) k.tiled.keep (omega arith) (omega (arith, within, i)) e.begins in
      by_end a.0 a.1 a.3 (sector_walk (16 * sector + 16 - page) page a.1 a.0 (omega (arith, within)) (omega arith) (inl refl) a.2 (λ p low less. absurd (omega (arith, low, less))))
    where
      erased_there : ZeroBehind → image ≡ clear
      erased_there zeros =
          let long = erased_long image sectors size sector page e in
          let i = e.inside in
          sym (images_same image clear long (λ p. ⊎_elim
          (λ (before : p < page). erased_front image sectors size sector page e p before)
          (λ (after : page ≤ p). ⊎_elim
          (λ (here : p / 16 ≡ sector). erased_page image sector p i here ∙ sym (zeros p after (omega (arith, here))))
          (λ (there : p / 16 ≢ sector). erased_other_page image sector p i there)
          (cases_eq (p / 16) sector))
          (cases_lt p page)))

      by_end : (f : Bool) (n : ℕ) → broken_tiling nowhere image ≡ broken_from nowhere image page f (units_from n image page) → Ends page n f → (image ≡ clear) ⊎ BreaksIn sector (broken_image image)
      by_end f n is (inl zeros) = inl (erased_there zeros)
      by_end f n is (inr b) = inr (record { rule = b.rule; place = b.place; some = b.some; few = b.few; there = b.there; is = image_untiled image (record { rule = b.rule; place = b.place }) (is ∙ b.is) })
