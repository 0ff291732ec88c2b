-- An erase of a sector without active pages that broke off: nothing is seen of it, or the sector is to be erased again.
use Rattle.std.proofs.Common.{◌≡◌, ◌≢◌, ◌⊎◌, inl, inr, ⊎_elim, ℕ, zero, suc, ◌+◌, ◌*◌, ◌/◌, ◌<◌, ◌≤◌, Bool, true, false, not, ◌&&◌, ◌||◌, ◌==◌, nat_lt, List, [], ◌∷◌, ◌++◌, length, take, get_or, Some, None, if◌then◌else◌, refl, ap, sym, subst, ◌∙◌, arith}
use Rattle.std.specs.Prelude.{slice_range}
use Rattle.std.specs.List.{list_any}
use Rattle.std.proofs.lemmas.Bool.{cases_eq, cases_lt}
use Rattle.std.proofs.lemmas.List.{append-nil, get_or-take, get_or_past, length-take-le}
use Rattle.afl_base.specs.Image.{page_bytes, zeros_at}
use Rattle.afl_base.proofs.Images.{erased_other_page, erased_page, length_range, length_zeros_at, range_at, range_same, zeros_at_before, zeros_at_inside}
use Rattle.coffee_header.specs.declared.header.Header.{Header}
use Rattle.coffee_layout.specs.Marks.{active_pages, in_sector, is_taken, used_pages}
use Rattle.coffee_layout.specs.Tiling.{IsTiled, KeepRules, StandFrom, broken_at, broken_suffix, broken_unit, nowhere, units_of}
use Rattle.coffee_layout.specs.Units.{is_active_flags, is_free, pages_of, size_of, total, unit_at, unit_of}
use Rattle.coffee_layout.specs.declared.unit.Unit.{Unit}
use Rattle.coffee_layout.specs.declared.unit.Unit.TheVariants.{Extent, Free, Isolated}
use Rattle.coffee_layout.proofs.Frames.{after_used, ends_free, keep-append, keep_front, keep_rest, keep_same, replaced, total-append, unit_at_same}
use Rattle.coffee_layout.proofs.MarkLaws.{length-pages_by}
use Rattle.coffee_layout.proofs.Tests.{eq_false, false_lt, none_else}
use Rattle.coffee_layout.proofs.Tilings.{kept_some, units_tiled}
use Rattle.coffee_merge.specs.Begun.{active_at, unit_begun}
use Rattle.coffee_merge.specs.Holding.{Entries}
use Rattle.coffee_merge.proofs.Begun.{HavePages, active_same, begun_active, have_pages, split_begun}
use Rattle.coffee_merge.proofs.Holdings.{holds_pages, holds_tiled}
use Rattle.coffee_merge.proofs.Obtained.{active_marks, obtained}
use Rattle.coffee_space.specs.Collection.{KeepsActive, active_extents}
use Rattle.coffee_space.specs.Cutting.{IsLoose}
use Rattle.coffee_space.proofs.MarksLeft.{active_apart}
use Rattle.coffee_space.proofs.SectorMarks.{any_none}
use Rattle.coffee_space.proofs.UnitsLeft.{erased_unit}
use Rattle.flash_range.specs.Range.{Outside}
use Rattle.padded.specs.Zeros.{is_zeros}
use Rattle.padded.proofs.Facts.{both_parts, false_by, lt_false, neither, true_eq, yes_no}
use Rattle.coffee_cuts.specs.Cuts.{Erasing, IsHeadless, IsIdle, Nothing}
use Rattle.coffee_cuts.specs.Mending.{IsTable}
use Rattle.coffee_cuts.proofs.Fronts.{actives, actives_append, idle_extent, marked_by, stand_append, stand_kept, walk_front}
use Rattle.coffee_cuts.proofs.Mended.{SettlesHolding, settles_by}
use Rattle.coffee_cuts.proofs.Reached.{same_unit}
use Rattle.coffee_cuts.proofs.ZeroPages.{free_page, zero_part, zeros_from}
use Rattle.coffee_cuts.proofs.ZeroedHeads.{IsZeroed, zeroed_extent, zeroed_isolated}

-- AN EXTENT THAT IS NOT ACTIVE

not_two : (n : ℕ) → is_active_flags n ≡ false → n == 2 ≡ false
not_two n idle = false_by (n == 2) (λ e. yes_no (is_active_flags n) (ap is_active_flags (true_eq n 2 e)) idle)

extent_rule : (zeros : Bool) (pages page : ℕ) (free : Bool) (g : Header) → is_active_flags g.flags ≡ false → 1 ≤ g.max_pages → page + g.max_pages ≤ pages → broken_suffix page free ≡ None
    → broken_unit false zeros pages page free (Some (Extent g)) ≡ None
extent_rule zeros pages page free g idle some inside suffix =
    let two = not_two g.flags idle in
    let least : g.max_pages == 0 ≡ false = eq_false g.max_pages 0 (λ e. absurd (omega (arith, e, some))) in
    let fits : nat_lt pages (page + g.max_pages) ≡ false = lt_false pages (page + g.max_pages) inside in
    rw (two, least, fits, suffix) refl

-- pages that are free or isolated, one behind the other
record Singles (image : List ℕ) (page n : ℕ) : Type 0 where
  units : List Unit
  stand : StandFrom image page units
  size : total units ≡ n
  idle : (p : ℕ) → actives p units ≡ []

loose_unit : (image : List ℕ) (page : ℕ) → IsLoose image page → (unit_at image page ≡ Some Free) ⊎ (unit_at image page ≡ Some Isolated)
loose_unit image page (inl blank) = inl (ap (λ bytes. unit_of (take 32 bytes)) blank ∙ erased_unit)
loose_unit image page (inr isolated) = inr isolated

singles : (image : List ℕ) (n page : ℕ) → ((p : ℕ) → page ≤ p → p < page + n → IsLoose image p) → Singles image page n
singles image zero page loose = record { units = []; stand = tt; size = refl; idle = λ p. refl }
singles image (suc n) page loose =
    let more = singles image n (page + 1) (λ p a b. loose p (omega (arith, a)) (omega (arith, b))) in
    let size = more.size in
    ⊎_elim
    (λ (free : unit_at image page ≡ Some Free). record { units = Free ∷ more.units; stand = (free, omega arith, more.stand); size = omega (arith, size); idle = λ p. more.idle (p + 1) })
    (λ (isolated : unit_at image page ≡ Some Isolated). record { units = Isolated ∷ more.units; stand = (isolated, omega arith, more.stand); size = omega (arith, size); idle = λ p. more.idle (p + 1) })
    (loose_unit image page (loose page (omega arith) (omega arith)))

module _ (whole : List ℕ) (table : Entries) (t : IsTable whole table None) (sector : ℕ) (taken : is_taken (units_of whole) sector ≡ true) where
  tiled_whole : IsTiled nowhere whole (units_of whole)
  tiled_whole = holds_tiled whole table None t.holds

  -- the sector lies in the image
  pub sector_inside : 4096 * sector + 4096 ≤ length whole
  sector_inside =
      let all = tiled_whole.whole in
      let size = t.size in
      let marks = length-pages_by (λ u. not (is_free u)) (units_of whole) in
      let used = both_parts (list_any (λ m. m) (in_sector (used_pages (units_of whole)) sector)) _ taken in
      ⊎_elim
      (λ (low : 16 * sector < total (units_of whole)). omega (arith, low, all, size))
      (λ (past : total (units_of whole) ≤ 16 * sector). yes_no (list_any (λ m. m) (in_sector (used_pages (units_of whole)) sector)) used.0
      (any_none (used_pages (units_of whole)) (16 * sector) (16 * sector + 16) (λ i from to. get_or_past (used_pages (units_of whole)) i false (omega (arith, marks, past, from)))))
      (cases_lt (16 * sector) (total (units_of whole)))

  -- no active page is in it
  pub untaken : (p : ℕ) → get_or (active_pages (units_of whole)) p false ≡ true → p / 16 ≢ sector
  untaken p mark here = yes_no (is_taken (units_of whole) sector) taken (ap (is_taken (units_of whole)) (sym here) ∙ active_apart (units_of whole) p mark)

  -- nor has an active extent of such units a page there
  pub idle_at : (vs : List Unit) → HavePages vs → active_extents vs ≡ active_extents (units_of whole) → (page : ℕ) (h : Header) → active_at vs page ≡ Some h → (p : ℕ) → page ≤ p → p < page + h.max_pages → p / 16 ≡ sector → ⊥
  idle_at vs pages same page h is p low high here =
      untaken p (active_marks (units_of whole) page h (sym (active_same vs (units_of whole) page pages (holds_pages whole table None t.holds) same) ∙ is) p low high) here

  -- an image of the same active extents
  pub same_settled : (new : List ℕ) (vs : List Unit) → length new ≡ length whole → IsTiled nowhere new vs → active_extents vs ≡ active_extents (units_of whole)
      → ((p : ℕ) → get_or (active_pages (units_of whole)) p false ≡ true → page_bytes new p ≡ page_bytes whole p) → SettlesHolding new whole table
  same_settled new vs long tiled same active =
      let units : units_of new ≡ vs = units_tiled nowhere new vs tiled in
      settles_by new whole table None Nothing t tt (obtained whole new table t.holds long (subst (IsTiled nowhere new) (sym units) tiled) (ap active_extents units ∙ same) active)

  -- WHERE A UNIT BEGINS IN THE SECTOR

  module _ (mid new : List ℕ) (front rest : List Unit) (u : Unit) (r : ℕ) (tiled : IsTiled nowhere mid (front ++ (u ∷ rest))) (same : active_extents (front ++ (u ∷ rest)) ≡ active_extents (units_of whole))
      (long_mid : length mid ≡ length whole) (long : length new ≡ length whole) (from : 16 * sector ≤ total front) (within : total front < 16 * sector + 16)
      (zeros : (k : ℕ) → 4096 * sector ≤ k → k < 256 * total front → get_or new k 0 ≡ 0) (gone : (k : ℕ) → k < r → get_or new (256 * total front + k) 0 ≡ 0)
      (others : (k : ℕ) → Outside (256 * total front) r k → get_or new k 0 ≡ get_or mid k 0)
      (active : (p : ℕ) → get_or (active_pages (units_of whole)) p false ≡ true → page_bytes new p ≡ page_bytes whole p)
      (again : KeepsActive nowhere whole (zeros_at new (4096 * sector) 4096) (units_of whole))
      (loose : (h : Header) → u ≡ Extent h → (p : ℕ) → 16 * sector + 16 ≤ p → p < total front + h.max_pages → IsLoose new p) where
    abbrev page : ℕ
    page = total front

    abbrev erased : List ℕ
    erased = zeros_at new (4096 * sector) 4096

    inside : 4096 * sector + 4096 ≤ length new
    inside = let i = sector_inside in omega (arith, i, long)

    erased_long : length erased ≡ length new
    erased_long = length_zeros_at new (4096 * sector) 4096 inside

    -- before the page the erased image is as it was
    front_byte : (k : ℕ) → k < 256 * page → get_or erased k 0 ≡ get_or mid k 0
    front_byte k low = ⊎_elim
        (λ (before : k < 4096 * sector). zeros_at_before new (4096 * sector) 4096 k inside before ∙ others k (λ a b. omega (arith, low, a)))
        (λ (there : 4096 * sector ≤ k). zeros_at_inside new (4096 * sector) 4096 k inside there (omega (arith, low, within)) ∙ sym (zeros k there low) ∙ others k (λ a b. omega (arith, low, a)))
        (cases_lt k (4096 * sector))

    keep_mid : KeepRules nowhere mid 0 false front
    keep_mid = keep_front nowhere mid front (u ∷ rest) 0 false tiled.keep

    erased_front : KeepRules nowhere erased 0 false front
    erased_front = keep_same nowhere mid erased front 0 false (erased_long ∙ long ∙ sym long_mid)
        (λ q a b. range_same erased mid (256 * q) (256 * q + 256) (erased_long ∙ long ∙ sym long_mid) (λ k c d. front_byte k (omega (arith, b, d)))) keep_mid

    abbrev walk : List Unit
    walk = units_of erased

    total_walk : 256 * total walk ≡ length new
    total_walk = again.tiled.whole ∙ erased_long

    -- so a walk over it comes to the page
    reaches : (ws : List Unit) × (walk ≡ front ++ ws)
    reaches =
        let all = total_walk in
        let i = inside in
        walk_front erased front walk 0 (stand_kept nowhere erased front 0 false erased_front) (stand_kept nowhere erased walk 0 false again.tiled.keep) (omega (arith, all, i, within))

    erased_free : (q : ℕ) → q / 16 ≡ sector → unit_at erased q ≡ Some Free
    erased_free q here = ap (λ bytes. unit_of (take 32 bytes)) (erased_page new sector q inside here) ∙ erased_unit

    begins : unit_begun walk 0 page ≡ Some Free
    begins = first reaches.0 reaches.1
      where
        first : (ws : List Unit) → walk ≡ front ++ ws → unit_begun walk 0 page ≡ Some Free
        first [] e =
            let all = total_walk in
            let i = inside in
            let sum : total walk ≡ total front + total [] = ap total e ∙ total-append front [] in
            absurd (omega (arith, sum, all, i, within))
        first (w ∷ ws) e =
            let k = keep_rest nowhere erased front (w ∷ ws) 0 page false (omega arith) (subst (KeepRules nowhere erased 0 false) e again.tiled.keep) in
            let free : w ≡ Free = same_unit w Free (sym k.0 ∙ erased_free page (omega (arith, from, within))) in
            split_begun walk page Free (have_pages nowhere erased walk again.tiled) (record { front = front; rest = ws; whole = e ∙ ap (λ v. front ++ (v ∷ ws)) free; place = refl })

    idle : IsIdle walk sector
    idle = any_none (active_pages walk) (16 * sector) (16 * sector + 16) (λ i a b. false_by (get_or (active_pages walk) i false) (λ mark.
        let pages = have_pages nowhere erased walk again.tiled in
        let m = marked_by walk 0 i pages mark in
        let low = m.low in
        let high = m.high in
        idle_at walk pages again.extents m.page m.header (begun_active walk m.page m.header m.begun m.active) i (omega (arith, low)) (omega (arith, high)) (omega (arith, a, b))))

    -- the page is blank: the sector is erased again
    erasing_mends : IsHeadless new page → SettlesHolding new whole table
    erasing_mends blank =
        let i = inside in
        let size = length_range new (4096 * sector) (256 * page) (omega (arith, within, i)) in
        settles_by new whole table None (Erasing sector page) t (record {
          inside = inside;
          from = from;
          within = within;
          zeros = zeros_from (slice_range new (4096 * sector) (256 * page)) (λ k less.
              range_at new (4096 * sector) (256 * page) k (omega (arith, less, size)) ∙ zeros (4096 * sector + k) (omega arith) (omega (arith, less, size)));
          blank = blank;
          begins = begins;
          idle = idle;
        }) (obtained whole erased table t.holds (erased_long ∙ long) again.tiled again.extents again.active)

    -- the unit at the page, before
    at_page : KeepRules nowhere mid page (ends_free false front) (u ∷ rest)
    at_page = keep_rest nowhere mid front (u ∷ rest) 0 page false (omega arith) tiled.keep

    some : 1 ≤ size_of u
    some = kept_some nowhere mid page (ends_free false front) u at_page.0 at_page.1

    head_byte : (image : List ℕ) (k : ℕ) → k < 32 → get_or (take 32 (page_bytes image page)) k 0 ≡ get_or image (256 * page + k) 0
    head_byte image k less = get_or-take 32 (page_bytes image page) k 0 less ∙ range_at image (256 * page) (256 * page + 256) k (omega (arith, less))

    head_long : (image : List ℕ) → length image ≡ length whole → length (take 32 (page_bytes image page)) ≡ 32
    head_long image size =
        let i = sector_inside in
        let n = length_range image (256 * page) (256 * page + 256) (omega (arith, i, size, within)) in
        length-take-le 32 (page_bytes image page) (omega (arith, n))

    zeroed : IsZeroed (take 32 (page_bytes mid page)) (take 32 (page_bytes new page)) r
    zeroed = record {
      long_old = head_long mid long_mid;
      long_new = head_long new long;
      gone = λ k less there. head_byte new k less ∙ gone k there;
      same = λ k less behind. head_byte new k less ∙ others (256 * page + k) (λ a b. omega (arith, b, behind)) ∙ sym (head_byte mid k less);
    }

    other_page : (q : ℕ) → r ≤ 9 → q ≢ page → page_bytes new q ≡ page_bytes mid q
    other_page q few apart = range_same new mid (256 * q) (256 * q + 256) (long ∙ sym long_mid) (λ k a b. others k (λ c d. apart (omega (arith, a, b, c, d, few))))

    -- a unit of its size takes its place
    turned_mends : (v : Unit) → r ≤ 9 → size_of v ≡ size_of u → is_free v ≡ false → unit_at new page ≡ Some v → broken_at nowhere new page (ends_free false front) ≡ None
        → actives page (v ∷ rest) ≡ actives page (u ∷ rest) → SettlesHolding new whole table
    turned_mends v few size used there kept act =
        let least = some in
        same_settled new (front ++ (v ∷ rest)) long
        (replaced nowhere nowhere mid new front (u ∷ []) rest v tiled (long ∙ sym long_mid)
        (λ q out. other_page q few (λ e. ⊎_elim (λ (a : q < total front). omega (arith, a, e)) (λ (a : total front + (size_of u + 0) ≤ q). omega (arith, a, e, least)) out))
        (λ q out. refl) (omega (arith, size)) used there kept)
        (actives_append front (v ∷ rest) 0 page (omega arith) ∙ ap (λ xs. actives 0 front ++ xs) act ∙ sym (actives_append front (u ∷ rest) 0 page (omega arith)) ∙ same) active

    ninth_zero : 9 < r → IsHeadless new page
    ninth_zero more = inl (gone 9 more)

    -- a free page
    free_mends : u ≡ Free → SettlesHolding new whole table
    free_mends is = ⊎_elim
        (λ (more : 9 < r). erasing_mends (ninth_zero more))
        (λ (few : r ≤ 9).
        let blank = free_page mid page (ends_free false front) (at_page.0 ∙ ap Some is) at_page.1 in
        erasing_mends (inl (others (256 * page + 9) (λ a b. omega (arith, b, few)) ∙ sym (range_at mid (256 * page) (256 * page + 256) 9 (omega arith)) ∙ zero_part (page_bytes mid page) 9 blank)))
        (cases_lt 9 r)

    -- an isolated page
    isolated_mends : u ≡ Isolated → SettlesHolding new whole table
    isolated_mends is = ⊎_elim
        (λ (more : 9 < r). erasing_mends (ninth_zero more))
        (λ (few : r ≤ 9).
        let there : unit_at new page ≡ Some Isolated = zeroed_isolated (take 32 (page_bytes mid page)) (take 32 (page_bytes new page)) r few zeroed (at_page.0 ∙ ap Some is) in
        let suffix : broken_suffix page (ends_free false front) ≡ None =
        sym (ap (broken_unit false (is_zeros (page_bytes mid page)) (pages_of mid) page (ends_free false front)) (at_page.0 ∙ ap Some is)) ∙ at_page.1 in
        turned_mends Isolated few (ap size_of (sym is)) refl there (ap (broken_unit false (is_zeros (page_bytes new page)) (pages_of new) page (ends_free false front)) there ∙ suffix)
        (ap (λ v. actives page (v ∷ rest)) (sym is)))
        (cases_lt 9 r)

    -- AN OBSOLETE EXTENT

    module _ (h : Header) (is : u ≡ Extent h) where
      stands : unit_at mid page ≡ Some (Extent h)
      stands = at_page.0 ∙ ap Some is

      size_is : size_of u ≡ h.max_pages
      size_is = ap size_of is

      not_active : is_active_flags h.flags ≡ false
      not_active = false_by (is_active_flags h.flags) (λ a.
          let pages = have_pages nowhere mid (front ++ (u ∷ rest)) tiled in
          let begun = split_begun (front ++ (u ∷ rest)) page (Extent h) pages (record { front = front; rest = rest; whole = ap (λ v. front ++ (v ∷ rest)) is; place = refl }) in
          let least = some in
          let size = size_is in
          idle_at (front ++ (u ∷ rest)) pages same page h (begun_active (front ++ (u ∷ rest)) page h begun a) page (omega arith) (omega (arith, least, size)) (omega (arith, from, within)))

      abbrev test : Bool
      test = h.max_pages == 0 || nat_lt (pages_of mid) (page + h.max_pages)

      rules : (h.max_pages == 0 || nat_lt (pages_of mid) (page + h.max_pages) ≡ false) × (broken_suffix page (ends_free false front) ≡ None)
      rules =
          let kept : broken_unit false (is_zeros (page_bytes mid page)) (pages_of mid) page (ends_free false front) (Some (Extent h)) ≡ None =
          sym (ap (broken_unit false (is_zeros (page_bytes mid page)) (pages_of mid) page (ends_free false front)) stands) ∙ at_page.1 in
          none_else test 2 (broken_suffix page (ends_free false front)) (none_else (h.flags == 2 && not false) 1 (if test then Some 2 else broken_suffix page (ends_free false front)) kept).1

      ends : page + h.max_pages ≤ pages_of mid
      ends = false_lt (pages_of mid) (page + h.max_pages) (neither (h.max_pages == 0) (nat_lt (pages_of mid) (page + h.max_pages)) rules.0).1

      pages_same : pages_of new ≡ pages_of mid
      pages_same = ap (λ n. n / 256) (long ∙ sym long_mid)

      -- what is left of the header keeps the rules where it has pages
      rule_of : (g : Header) → g.flags ≡ h.flags → 1 ≤ g.max_pages → g.max_pages ≤ h.max_pages → unit_at new page ≡ Some (Extent g) → broken_at nowhere new page (ends_free false front) ≡ None
      rule_of g flags least few there =
          let e = ends in
          let p = pages_same in
          ap (broken_unit false (is_zeros (page_bytes new page)) (pages_of new) page (ends_free false front)) there
          ∙ extent_rule (is_zeros (page_bytes new page)) (pages_of new) page (ends_free false front) g (ap is_active_flags flags ∙ not_active) least (omega (arith, e, p, few)) rules.1

      same_pages : (g : Header) → r ≤ 9 → g.flags ≡ h.flags → g.max_pages ≡ h.max_pages → unit_at new page ≡ Some (Extent g) → SettlesHolding new whole table
      same_pages g few flags pages there =
          let least = some in
          let size = size_is in
          turned_mends (Extent g) few (pages ∙ sym size_is) refl there (rule_of g flags (omega (arith, least, size, pages)) (omega (arith, pages)) there)
          (idle_extent g rest page (ap is_active_flags flags ∙ not_active) ∙ ap (λ n. actives (page + n) rest) pages ∙ sym (idle_extent h rest page not_active) ∙ ap (λ v. actives page (v ∷ rest)) (sym is))

      -- FEWER PAGES ARE LEFT

      module _ (few : r ≤ 9) (g : Header) (flags : g.flags ≡ h.flags) (least : 256 ≤ g.max_pages) (fewer : g.max_pages < h.max_pages) (there : unit_at new page ≡ Some (Extent g)) where
        abbrev end : ℕ
        end = page + g.max_pages

        moved : (p : ℕ) → page_bytes erased p ≡ page_bytes new p → IsLoose new p → IsLoose erased p
        moved p stays (inl blank) = inl (stays ∙ blank)
        moved p stays (inr isolated) = inr (unit_at_same new erased p stays ∙ isolated)

        -- the pages that the header names are free or isolated once the sector is erased
        middle : Singles erased page g.max_pages
        middle = singles erased g.max_pages page (λ p a b. ⊎_elim
            (λ (here : p / 16 ≡ sector). inl (erased_page new sector p inside here))
            (λ (out : p / 16 ≢ sector). moved p (erased_other_page new sector p inside out) (loose h is p (omega (arith, from, a, out)) (omega (arith, b, fewer))))
            (cases_eq (p / 16) sector))

        total_middle : total (front ++ middle.units) ≡ end
        total_middle = let sum = total-append front middle.units in let size = middle.size in omega (arith, sum, size)

        -- and the walk over the erased image goes over them
        tail : (ws : List Unit) × (walk ≡ (front ++ middle.units) ++ ws)
        tail =
            let all = total_walk in
            let size = total_middle in
            let e = ends in
            let p = pages_same in
            walk_front erased (front ++ middle.units) walk 0
            (stand_append erased front middle.units 0 page (omega arith) (stand_kept nowhere erased front 0 false erased_front) middle.stand)
            (stand_kept nowhere erased walk 0 false again.tiled.keep) (omega (arith, all, size, e, p, fewer))

        new_tail : KeepRules nowhere new end false tail.0
        new_tail = keep_same nowhere erased new tail.0 end false (sym erased_long) (λ q a b. sym (erased_other_page new sector q inside (λ e. omega (arith, a, e, from, within, least))))
            (after_used nowhere erased tail.0 end (ends_free false (front ++ middle.units))
            (keep_rest nowhere erased (front ++ middle.units) tail.0 0 end false (omega (arith, total_middle)) (subst (KeepRules nowhere erased 0 false) tail.1 again.tiled.keep)))

        new_front : KeepRules nowhere new 0 false front
        new_front = keep_same nowhere mid new front 0 false (long ∙ sym long_mid) (λ q a b. other_page q few (λ e. omega (arith, b, e))) keep_mid

        fewer_tiled : IsTiled nowhere new (front ++ (Extent g ∷ tail.0))
        fewer_tiled =
            let all = total_walk in
            let size = total_middle in
            let first : total walk ≡ total (front ++ middle.units) + total tail.0 = ap total tail.1 ∙ total-append (front ++ middle.units) tail.0 in
            let second : total (front ++ (Extent g ∷ tail.0)) ≡ total front + (g.max_pages + total tail.0) = total-append front (Extent g ∷ tail.0) in
            record {
              keep = keep-append nowhere new front (Extent g ∷ tail.0) 0 page false (omega arith) new_front (there, rule_of g flags (omega (arith, least)) (omega (arith, fewer)) there, new_tail);
              whole = omega (arith, all, size, first, second);
            }

        fewer_active : active_extents (front ++ (Extent g ∷ tail.0)) ≡ active_extents (units_of whole)
        fewer_active =
            actives_append front (Extent g ∷ tail.0) 0 page (omega arith)
            ∙ ap (λ xs. actives 0 front ++ xs) (idle_extent g tail.0 page (ap is_active_flags flags ∙ not_active))
            ∙ ap (λ xs. xs ++ actives end tail.0) (sym (append-nil (actives 0 front)) ∙ ap (λ xs. actives 0 front ++ xs) (sym (middle.idle page)) ∙ sym (actives_append front middle.units 0 page (omega arith)))
            ∙ sym (actives_append (front ++ middle.units) tail.0 0 end (omega (arith, total_middle)))
            ∙ ap active_extents (sym tail.1) ∙ again.extents

        fewer_mends : SettlesHolding new whole table
        fewer_mends = same_settled new (front ++ (Extent g ∷ tail.0)) long fewer_tiled fewer_active active

      extent_mends : SettlesHolding new whole table
      extent_mends = ⊎_elim
          (λ (more : 9 < r). erasing_mends (ninth_zero more))
          (λ (few : r ≤ 9).
          let z = zeroed_extent (take 32 (page_bytes mid page)) (take 32 (page_bytes new page)) r h few zeroed stands in
          ⊎_elim
          (λ (all : z.header.max_pages ≡ h.max_pages). same_pages z.header few z.flags all z.there)
          (λ (less : (z.header.max_pages ≡ 0) ⊎ ((256 ≤ z.header.max_pages) × (z.header.max_pages < h.max_pages))). ⊎_elim
          (λ (none : z.header.max_pages ≡ 0). erasing_mends (inr (z.header, z.there, none)))
          (λ (part : (256 ≤ z.header.max_pages) × (z.header.max_pages < h.max_pages)). fewer_mends few z.header z.flags part.0 part.1 z.there)
          less)
          z.pages)
          (cases_lt 9 r)

    -- in each case
    pub begun_settled : SettlesHolding new whole table
    begun_settled = by_unit u refl
      where
        by_unit : (v : Unit) → u ≡ v → SettlesHolding new whole table
        by_unit Free e = free_mends e
        by_unit Isolated e = isolated_mends e
        by_unit (Extent h) e = extent_mends h e
