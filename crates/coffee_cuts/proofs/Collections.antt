-- A collection that broke off: the image mends to the files.
use Rattle.std.proofs.Common.{◌≡◌, ◌≢◌, inl, inr, ⊎_elim, ℕ, ◌+◌, ◌-◌, ◌*◌, ◌/◌, ◌<◌, ◌≤◌, true, false, ◌==◌, List, [], ◌∷◌, ◌++◌, length, get_or, Some, None, refl, ap, sym, subst, ◌∙◌, arith, append_assoc}
use Rattle.std.proofs.lemmas.Bool.{cases_eq, cases_lt}
use Rattle.afl_base.specs.Image.{page_bytes, zeros_at}
use Rattle.afl_base.proofs.Images.{length_zeros_at, zeros_at_before, zeros_at_behind, zeros_at_inside, zeros_at_range}
use Rattle.coffee_header.specs.declared.header.Header.{Header}
use Rattle.coffee_layout.specs.Marks.{active_pages}
use Rattle.coffee_layout.specs.Tiling.{IsTiled, nowhere, units_of}
use Rattle.coffee_layout.specs.Units.{size_of, total}
use Rattle.coffee_layout.specs.declared.unit.Unit.{Unit}
use Rattle.coffee_layout.specs.declared.unit.Unit.TheVariants.{Extent}
use Rattle.coffee_layout.proofs.FreeBlocks.{mark_behind, mark_front}
use Rattle.coffee_layout.proofs.Frames.{content_stays, total-append}
use Rattle.coffee_merge.specs.Begun.{unit_begun}
use Rattle.coffee_merge.specs.Holding.{Entries}
use Rattle.coffee_merge.proofs.Begun.{HavePages, begun_from, begun_here, begun_inside, begun_there, have_pages, split_begun}
use Rattle.coffee_merge.proofs.Obtained.{obtained}
use Rattle.coffee_space.specs.Collection.{KeepsActive, active_extents}
use Rattle.coffee_space.specs.Cutting.{IsCutOff, IsLoose, begun_pages}
use Rattle.padded.proofs.Facts.{eq_true}
use Rattle.coffee_cuts.specs.Cuts.{Nothing}
use Rattle.coffee_cuts.specs.Mending.{IsTable}
use Rattle.coffee_cuts.proofs.EraseCuts.{begun_settled, sector_inside, same_settled, untaken}
use Rattle.coffee_cuts.proofs.Fronts.{Boundary, Spanned, bound_or_spanned}
use Rattle.coffee_cuts.proofs.Mended.{SettlesHolding, settles_by}
use Rattle.coffee_cuts.proofs.Reached.{same_unit}

-- an image that has the same active extents
pub kept_settles : (whole new : List ℕ) (table : Entries) → IsTable whole table None → length new ≡ length whole → KeepsActive nowhere whole new (units_of whole) → SettlesHolding new whole table
kept_settles whole new table t long k = settles_by new whole table None Nothing t tt (obtained whole new table t.holds long k.tiled k.extents k.active)

-- the pages of a unit are marked by the sector in which it begins
pub begun_mark : (sector : ℕ) (us : List Unit) (from page i : ℕ) (u : Unit) → HavePages us → unit_begun us from page ≡ Some u → page ≤ from + i → from + i < page + size_of u → get_or (begun_pages sector from us) i false ≡ (page / 16 == sector)
begun_mark sector [] from page i u h is low high = cc
begun_mark sector (v ∷ vs) from page i u h is low high = ⊎_elim
    (λ (here : from ≡ page).
    let same : v ≡ u = same_unit v u (sym (begun_here v vs from page here) ∙ is) in
    let size : size_of v ≡ size_of u = ap size_of same in
    mark_front (from / 16 == sector) (begun_pages sector (from + size_of v) vs) (size_of v) i (omega (arith, high, here, size)) ∙ ap (λ p. p / 16 == sector) here)
    (λ (there : from ≢ page).
    let on = sym (begun_there v vs from page there) ∙ is in
    let least = begun_from vs (from + size_of v) page u h.1 on in
    let back : size_of v + (i - size_of v) ≡ i = omega (arith, low, least) in
    ap (λ k. get_or (begun_pages sector from (v ∷ vs)) k false) (sym back)
    ∙ mark_behind (from / 16 == sector) (begun_pages sector (from + size_of v) vs) (size_of v) (i - size_of v)
    ∙ begun_mark sector vs (from + size_of v) page (i - size_of v) u h.1 on (omega (arith, low, least)) (omega (arith, high, low, least)))
    (cases_eq from page)

module _ (whole new : List ℕ) (table : Entries) (t : IsTable whole table None) (c : IsCutOff nowhere whole new (units_of whole)) where
  long_before : length c.before ≡ length whole
  long_before = c.long

  abbrev at : ℕ
  at = 4096 * c.sector

  abbrev done : ℕ
  done = c.cut.done

  abbrev vs : List Unit
  vs = units_of c.before

  room : at + 4096 ≤ length c.before
  room = let i = sector_inside whole table t c.sector c.is_taken in omega (arith, i, long_before)

  fits : at + done ≤ length c.before
  fits = let r = room in let w = c.cut.within in omega (arith, r, w)

  long : length new ≡ length whole
  long = ap length c.cut.is ∙ length_zeros_at c.before at done fits ∙ long_before

  before_byte : (k : ℕ) → k < at → get_or new k 0 ≡ get_or c.before k 0
  before_byte k low = ap (λ i. get_or i k 0) c.cut.is ∙ zeros_at_before c.before at done k fits low

  gone_byte : (k : ℕ) → at ≤ k → k < at + done → get_or new k 0 ≡ 0
  gone_byte k low high = ap (λ i. get_or i k 0) c.cut.is ∙ zeros_at_inside c.before at done k fits low high

  behind_byte : (k : ℕ) → at + done ≤ k → get_or new k 0 ≡ get_or c.before k 0
  behind_byte k high = ap (λ i. get_or i k 0) c.cut.is ∙ zeros_at_behind c.before at done k fits high

  active : (p : ℕ) → get_or (active_pages (units_of whole)) p false ≡ true → page_bytes new p ≡ page_bytes whole p
  active p mark =
      let out = untaken whole table t c.sector c.is_taken p mark in
      let w = c.cut.within in
      ap (λ i. page_bytes i p) c.cut.is
      ∙ zeros_at_range c.before at done (256 * p) (256 * p + 256) fits
      (⊎_elim (λ (a : p < 16 * c.sector). inl (omega (arith, a))) (λ (a : 16 * c.sector ≤ p). inr (omega (arith, a, out, w))) (cases_lt p (16 * c.sector)))
      ∙ c.kept.active p mark

  total_before : 256 * total vs ≡ length c.before
  total_before = c.kept.tiled.whole

  -- of an extent that begins in the sector free and isolated pages are left behind it
  loose_behind : (page : ℕ) (u : Unit) → page / 16 ≡ c.sector → unit_begun vs 0 page ≡ Some u → (h : Header) → u ≡ Extent h → (p : ℕ) → 16 * c.sector + 16 ≤ p → p < page + h.max_pages → IsLoose new p
  loose_behind page u here begun h is p low high =
      let size = long_before in
      let all = total_before in
      let pages = have_pages nowhere c.before vs c.kept.tiled in
      let extent : unit_begun vs 0 page ≡ Some (Extent h) = begun ∙ ap Some is in
      let inside = (begun_inside vs page (Extent h) pages extent).1 in
      c.loose p (omega (arith, high, inside, size, all)) (omega (arith, low))
      (begun_mark c.sector vs 0 page p (Extent h) pages extent (omega (arith, here, low)) (omega (arith, high)) ∙ eq_true (page / 16) c.sector here)

  -- a unit begins at the sector
  bound_mends : Boundary vs (16 * c.sector) → SettlesHolding new whole table
  bound_mends b = by_rest b.rest b.whole
    where
      by_rest : (rest : List Unit) → vs ≡ b.front ++ rest → SettlesHolding new whole table
      by_rest [] e =
          let place = b.place in
          let sum : total vs ≡ total b.front + total [] = ap total e ∙ total-append b.front [] in
          let all = total_before in
          let r = room in
          absurd (omega (arith, place, sum, all, r))
      by_rest (u ∷ rest) e =
          let place = b.place in
          let pages = have_pages nowhere c.before vs c.kept.tiled in
          let begun : unit_begun vs 0 (total b.front) ≡ Some u = split_begun vs (total b.front) u pages (record { front = b.front; rest = rest; whole = e; place = refl }) in
          begun_settled whole table t c.sector c.is_taken c.before new b.front rest u done (subst (IsTiled nowhere c.before) e c.kept.tiled) (ap active_extents (sym e) ∙ c.kept.extents)
          long_before long (omega (arith, place)) (omega (arith, place)) (λ k low high. absurd (omega (arith, low, high, place)))
          (λ k less. gone_byte (256 * total b.front + k) (omega (arith, place)) (omega (arith, place, less)))
          (λ k out. ⊎_elim
          (λ (low : k < at). before_byte k low)
          (λ (high : at ≤ k). ⊎_elim
          (λ (there : k < at + done). absurd (out (omega (arith, high, place)) (omega (arith, there, place))))
          (λ (behind : at + done ≤ k). behind_byte k behind)
          (cases_lt k (at + done)))
          (cases_lt k at))
          active c.again (loose_behind (total b.front) u (omega (arith, place)) begun)

  -- an extent reaches into it
  module _ (p : Spanned vs (16 * c.sector)) where
    abbrev end : ℕ
    end = total p.front + p.header.max_pages

    parts : IsTiled nowhere c.before (p.front ++ (Extent p.header ∷ p.rest))
    parts = subst (IsTiled nowhere c.before) p.whole c.kept.tiled

    same : active_extents (p.front ++ (Extent p.header ∷ p.rest)) ≡ active_extents (units_of whole)
    same = ap active_extents (sym p.whole) ∙ c.kept.extents

    -- the cut is in the extent
    within_mends : at + done ≤ 256 * end → SettlesHolding new whole table
    within_mends few =
        let low = p.low in
        same_settled whole table t c.sector c.is_taken new (p.front ++ (Extent p.header ∷ p.rest)) long
        (content_stays nowhere c.before new p.front p.rest p.header parts (long ∙ sym long_before) (λ k out. ⊎_elim
        (λ (a : k < 256 * total p.front + 32). before_byte k (omega (arith, a, low)))
        (λ (b : 256 * (total p.front + p.header.max_pages) ≤ k). behind_byte k (omega (arith, b, few)))
        out))
        same active

    -- the cut is behind it
    module _ (more : 256 * end < at + done) where
      abbrev cleared : ℕ
      cleared = 256 * end - at

      abbrev mid : List ℕ
      mid = zeros_at c.before at cleared

      in_sector : (16 * c.sector < end) × (end < 16 * c.sector + 16)
      in_sector = let high = p.high in let w = c.cut.within in (omega (arith, high), omega (arith, more, w))

      mid_fits : at + cleared ≤ length c.before
      mid_fits = let r = room in let i = in_sector.1 in let j = in_sector.0 in omega (arith, r, i, j)

      mid_tiled : IsTiled nowhere mid (p.front ++ (Extent p.header ∷ p.rest))
      mid_tiled =
          let low = p.low in
          let j = in_sector.0 in
          content_stays nowhere c.before mid p.front p.rest p.header parts (length_zeros_at c.before at cleared mid_fits) (λ k out. ⊎_elim
          (λ (a : k < 256 * total p.front + 32). zeros_at_before c.before at cleared k mid_fits (omega (arith, a, low)))
          (λ (b : 256 * (total p.front + p.header.max_pages) ≤ k). zeros_at_behind c.before at cleared k mid_fits (omega (arith, b, j)))
          out)

      abbrev front : List Unit
      front = p.front ++ (Extent p.header ∷ [])

      front_total : total front ≡ end
      front_total = let sum = total-append p.front (Extent p.header ∷ []) in omega (arith, sum)

      behind_mends : SettlesHolding new whole table
      behind_mends = by_rest p.rest refl
        where
          by_rest : (rest : List Unit) → p.rest ≡ rest → SettlesHolding new whole table
          by_rest [] e =
              let sum : total vs ≡ total p.front + total (Extent p.header ∷ []) = ap total (p.whole ∙ ap (λ r. p.front ++ (Extent p.header ∷ r)) e) ∙ total-append p.front (Extent p.header ∷ []) in
              let all = total_before in
              let r = room in
              let i = in_sector.1 in
              absurd (omega (arith, sum, all, r, i))
          by_rest (u ∷ rest) e =
              let whole_is : p.front ++ (Extent p.header ∷ p.rest) ≡ front ++ (u ∷ rest) = ap (λ r. p.front ++ (Extent p.header ∷ r)) e ∙ sym (append_assoc p.front (Extent p.header ∷ []) (u ∷ rest)) in
              let place = front_total in
              let i = in_sector.1 in
              let j = in_sector.0 in
              let pages = have_pages nowhere c.before vs c.kept.tiled in
              let begun : unit_begun vs 0 (total front) ≡ Some u = split_begun vs (total front) u pages (record { front = front; rest = rest; whole = p.whole ∙ whole_is; place = refl }) in
              begun_settled whole table t c.sector c.is_taken mid new front rest u (at + done - 256 * end) (subst (IsTiled nowhere mid) whole_is mid_tiled) (ap active_extents (sym whole_is) ∙ same)
              (length_zeros_at c.before at cleared mid_fits ∙ long_before) long (omega (arith, place, j)) (omega (arith, place, i))
              (λ k low high. gone_byte k low (omega (arith, high, place, more)))
              (λ k less. gone_byte (256 * total front + k) (omega (arith, place, j)) (omega (arith, place, less)))
              (λ k out. ⊎_elim
              (λ (low : k < at). before_byte k low ∙ sym (zeros_at_before c.before at cleared k mid_fits low))
              (λ (high : at ≤ k). ⊎_elim
              (λ (there : k < 256 * end). gone_byte k high (omega (arith, there, more)) ∙ sym (zeros_at_inside c.before at cleared k mid_fits high (omega (arith, there))))
              (λ (from : 256 * end ≤ k). ⊎_elim
              (λ (cut : k < at + done). absurd (out (omega (arith, from, place)) (omega (arith, cut, place, more))))
              (λ (behind : at + done ≤ k). behind_byte k behind ∙ sym (zeros_at_behind c.before at cleared k mid_fits (omega (arith, from, j))))
              (cases_lt k (at + done)))
              (cases_lt k (256 * end)))
              (cases_lt k at))
              active c.again (loose_behind (total front) u (omega (arith, place, i, j)) begun)

    spanned_mends : SettlesHolding new whole table
    spanned_mends = ⊎_elim
        (λ (more : 256 * end < at + done). behind_mends more)
        (λ (few : at + done ≤ 256 * end). within_mends few)
        (cases_lt (256 * end) (at + done))

  pub cut_off_settles : SettlesHolding new whole table
  cut_off_settles =
      let all = total_before in
      let r = room in
      ⊎_elim bound_mends spanned_mends (bound_or_spanned vs (16 * c.sector) (omega (arith, all, r)))
