-- A header that is torn, or a sector that is being erased, beside another way to settle the image.
use Rattle.std.proofs.Common.{◌≡◌, ◌≢◌, inl, inr, ⊎_elim, ℕ, ◌+◌, ◌-◌, ◌*◌, ◌/◌, ◌%◌, ◌<◌, ◌≤◌, true, false, List, [], ◌∷◌, ◌++◌, length, map, replicate, get_or, Some, refl, ap, sym, subst, ◌∙◌, arith, bit_and}
use Rattle.std.specs.List.{filter}
use Rattle.std.proofs.lemmas.Bool.{cases_eq, cases_lt}
use Rattle.std.proofs.lemmas.List.{ext_get_or, get_or-replicate, length-replicate}
use Rattle.afl_base.specs.Image.{page_bytes, zeros_at}
use Rattle.afl_base.proofs.Images.{byte_in_page, erased_other_page, erased_page, length_or_at, length_range, length_zeros_at}
use Rattle.coffee_header.specs.Headers.{is_flags}
use Rattle.coffee_header.specs.declared.header.Header.{Header}
use Rattle.coffee_layout.specs.Files.{Placed, extents, files_in, files_of, is_file, kind_of, log_of, named_file}
use Rattle.coffee_layout.specs.Tiling.{IsTiled, KeepRules, StandFrom, nowhere, units_of}
use Rattle.coffee_layout.specs.Units.{pages_of, size_of, total, unit_at}
use Rattle.coffee_layout.specs.declared.unit.Unit.{Unit}
use Rattle.coffee_layout.specs.declared.unit.Unit.TheVariants.{Extent, Free, Isolated}
use Rattle.coffee_layout.proofs.Frames.{ends_free, keep_rest, kept_bytes, total-append, unit_at_same}
use Rattle.coffee_layout.proofs.FreeSectors.{free_sector}
use Rattle.coffee_layout.proofs.Tilings.{kept_some, tiled_covered, units_covered}
use Rattle.coffee_merge.specs.Begun.{unit_begun}
use Rattle.coffee_merge.specs.Flags.{flagged}
use Rattle.coffee_merge.proofs.Begun.{begun_apart, begun_split, have_pages}
use Rattle.coffee_merge.proofs.SoundUnits.{Among}
use Rattle.padded.proofs.Facts.{yes_no}
use Rattle.padded.specs.Zeros.{is_zeros}
use Rattle.coffee_cuts.specs.Cuts.{IsErasing, IsHeadless, IsReplacing, IsTornHeader}
use Rattle.coffee_cuts.proofs.MarkedPages.{IsMarkedAt, alike_reach, extent_ninth, isolated_ninth, marked_alike, ninth, other_page, page_byte, stands_at, thirty_four, turned_size, units_alike}
use Rattle.coffee_cuts.proofs.Mended.{named}
use Rattle.coffee_cuts.proofs.Reached.{IsReached, no_unit, same_unit}
use Rattle.coffee_cuts.proofs.SettledRules.{KeepsSettled, begins, file_of_units, log_pages, log_there, one_named}
use Rattle.coffee_cuts.proofs.ZeroPages.{all_zero, free_pages_zero, images_same, page_zero}
use Rattle.coffee_cuts.proofs.TornRecords.{map_among}
use Rattle.coffee_cuts.proofs.TwoMarks.{IsMarked, file_begins, log_page_is}

page_in : (image : List ℕ) (page : ℕ) (u : Unit) → unit_begun (units_of image) 0 page ≡ Some u → 256 * page + 256 ≤ length image
page_in image page u e = (stands_at image page u e).0

-- two units at one page of pages that are the same
sizes_same : (image a b : List ℕ) (page : ℕ) (v w : Unit) → page_bytes a page ≡ page_bytes image page → page_bytes b page ≡ page_bytes image page → unit_at a page ≡ Some v → unit_at b page ≡ Some w → size_of v ≡ size_of w
sizes_same image a b page v w first second is other =
    ap size_of (same_unit v w (sym is ∙ unit_at_same image a page first ∙ sym (unit_at_same image b page second) ∙ other))

-- or of which one has further flags
sizes_marked : (image a b : List ℕ) (page : ℕ) (v w : Unit) → 256 * page + 256 ≤ length image → length b ≡ length image → page_bytes a page ≡ page_bytes image page → IsMarkedAt image b page → unit_at a page ≡ Some v → unit_at b page ≡ Some w
    → size_of v ≡ size_of w
sizes_marked image a b page v w inside long first m is other =
    let u = units_alike image b page long (marked_alike image b page m) inside v w (sym (unit_at_same image a page first) ∙ is) other in
    sym (turned_size v (ninth b page)) ∙ sym (ap size_of u)

-- ---- A TORN HEADER

module _ (image : List ℕ) (page : ℕ) (t : IsTornHeader image page) where
  abbrev isolated : List ℕ
  isolated = flagged image page 34

  isolated_long : length isolated ≡ length image
  isolated_long = length_or_at image (256 * page + 9) (34 ∷ [])

  inside : 256 * page + 256 ≤ length image
  inside = let i = page_in isolated page Isolated t.begins in let long = isolated_long in omega (arith, i, long)

  reached_there : (new : List ℕ) → length new ≡ length image → IsReached new (units_of new) 0 page → page_bytes new page ≡ page_bytes image page → ⊥
  reached_there new long r same = no_unit r.unit (sym t.torn ∙ sym (unit_at_same image new page same) ∙ r.there)

  -- no image that is the same up to its page is tiled
  pub torn_unreached : (new : List ℕ) → length new ≡ length image → IsTiled nowhere new (units_of new) → ((p : ℕ) → p ≤ page → page_bytes new p ≡ page_bytes image p) → ⊥
  torn_unreached new long tiled same =
      let r = alike_reach new isolated page Isolated (isolated_long ∙ sym long) tiled
      (λ p v w less is other. sizes_same image isolated new p v w (other_page image page 34 p (λ e. absurd (omega (arith, e, less)))) (same p (omega (arith, less))) is other) t.begins in
      reached_there new long r (same page (omega arith))

  -- nor one that has further flags at other pages
  pub torn_unmarked : (new : List ℕ) → IsMarked image new → IsTiled nowhere new (units_of new) → page_bytes new page ≡ page_bytes image page → ⊥
  torn_unmarked new m tiled same =
      let i = inside in
      let r = alike_reach new isolated page Isolated (isolated_long ∙ sym m.long) tiled
      (λ p v w less is other. sizes_marked image isolated new p v w (omega (arith, i, less)) m.long (other_page image page 34 p (λ e. absurd (omega (arith, e, less)))) (m.at p) is other) t.begins in
      reached_there new m.long r same

  -- what begins in the image begins where the page is isolated
  begins_isolated : KeepsSettled isolated → (p : ℕ) (h : Header) → begins image p h → begins isolated p h
  begins_isolated k p h b =
      let at = stands_at image p (Extent h) b in
      let there : p ≢ page = λ e. no_unit (Extent h) (sym t.torn ∙ ap (unit_at image) (sym e) ∙ at.1) in
      let r = alike_reach isolated image p (Extent h) (sym isolated_long) k.tiled
      (λ q v w less is other. ⊎_elim
      (λ (here : q ≡ page). no_unit v (sym t.torn ∙ ap (unit_at image) (sym here) ∙ is))
      (λ (out : q ≢ page). sizes_same image image isolated q v w refl (other_page image page 34 q out) is other)
      (cases_eq q page)) b in
      r.begun ∙ sym r.there ∙ unit_at_same image isolated p (other_page image page 34 p there) ∙ at.1

  -- so no two files have one name
  pub torn_alone : KeepsSettled isolated → (dropped kept : Placed) → IsReplacing image dropped kept → ⊥
  torn_alone k dropped kept r =
      let f = file_begins image dropped r.dropped_there in
      let g = file_begins image kept r.kept_there in
      r.apart (one_named isolated k dropped.page kept.page dropped.header kept.header
      (begins_isolated k dropped.page dropped.header f.0) (begins_isolated k kept.page kept.header g.0) f.1 g.1 r.one_name)

-- ---- A SECTOR

-- a page that is zero now was so where only flags were added
pub marked_zero : (image new : List ℕ) (page : ℕ) → 256 * page + 256 ≤ length image → IsMarkedAt image new page → page_bytes new page ≡ replicate 256 0 → page_bytes image page ≡ replicate 256 0
marked_zero image new page inside m zero =
    let long = length_range image (256 * page) (256 * page + 256) inside in
    let count = length-replicate {A = ℕ} 256 0 in
    let none : (k : ℕ) → k < 256 → get_or new (256 * page + k) 0 ≡ 0 = λ k low. sym (page_byte new page k low) ∙ ap (λ xs. get_or xs k 0) zero ∙ get_or-replicate 256 k 0 0 low in
    ext_get_or 0 (page_bytes image page) (replicate 256 0) (omega (arith, long, count)) (λ k less.
    let low : k < 256 = omega (arith, less, long) in
    page_byte image page k low
    ∙ ⊎_elim
    (λ (nine : k ≡ 9). subst (λ j. get_or image (256 * page + j) 0 ≡ 0) (sym nine) (m.zero (none 9 (omega arith))))
    (λ (other : k ≢ 9). sym (m.others k low other) ∙ none k low)
    (cases_eq k 9)
    ∙ sym (get_or-replicate 256 k 0 0 low))

module _ (image : List ℕ) (sectors : ℕ) (size : length image ≡ 4096 * sectors) (sector page : ℕ) (e : IsErasing image sector page) where
  abbrev erased : List ℕ
  erased = zeros_at image (4096 * sector) 4096

  pub erased_long : length erased ≡ length image
  erased_long = length_zeros_at image (4096 * sector) 4096 e.inside

  -- the image is as it is erased before the page
  pub erased_front : (p : ℕ) → p < page → page_bytes erased p ≡ page_bytes image p
  erased_front p less = ⊎_elim
      (λ (here : p / 16 ≡ sector).
      let i = e.inside in
      let w = e.within in
      erased_page image sector p i here ∙ sym (page_zero image (4096 * sector) (256 * page) p e.zeros (omega (arith, here)) (omega (arith, less)) (omega (arith, less, w, i))))
      (λ (there : p / 16 ≢ sector). erased_other_page image sector p e.inside there)
      (cases_eq (p / 16) sector)

  page_inside : 256 * page + 256 ≤ length image
  page_inside = let i = e.inside in let w = e.within in omega (arith, i, w)

  -- a unit that keeps the rules at the page is a free page
  headless_free : (new : List ℕ) → length new ≡ length image → IsMarkedAt image new page → (u : Unit) → unit_at new page ≡ Some u → 1 ≤ size_of u → IsHeadless image page → u ≡ Free
  headless_free new long m Free is some blank = refl
  headless_free new long m u is some (inr b) =
      let same = units_alike image new page long (marked_alike image new page m) page_inside (Extent b.0) u b.1 is in
      let none : size_of u ≡ 0 = ap size_of same ∙ b.2 in
      absurd (omega (arith, some, none))
  headless_free new long m Isolated is some (inl z) =
      let n : ninth image page ≡ 0 = z in
      absurd (thirty_four (bit_and (ninth new page) 34) (bit_and (ninth image page) 34) (isolated_ninth new page is) (ap (λ x. bit_and x 34) n) m.bits)
  headless_free new long m (Extent h) is some (inl z) = yes_no (is_flags (ninth new page)) (extent_ninth new page h is).1 (m.none z)

  -- Where a tiled image is the same up to the page, but for flags, and has no zero page in the sector that was not
  -- zero before, the sector is zero.
  pub erased_nothing : (new : List ℕ) → length new ≡ length image → IsTiled nowhere new (units_of new) → ((p : ℕ) → p ≤ page → IsMarkedAt image new p)
      → ((p : ℕ) → p / 16 ≡ sector → page_bytes new p ≡ replicate 256 0 → page_bytes image p ≡ replicate 256 0) → erased ≡ image
  erased_nothing new long tiled marked back =
      let i = e.inside in
      let from = e.from in
      let within = e.within in
      let exists = page_inside in
      let r = alike_reach new erased page Free (erased_long ∙ sym long) tiled
      (λ p v w less is other. sizes_marked image erased new p v w (omega (arith, exists, less)) long (erased_front p less) (marked p (omega (arith, less))) is other) e.begins in
      let free : r.unit ≡ Free = headless_free new long (marked page (omega arith)) r.unit r.there (kept_some nowhere new page r.free r.unit r.there r.kept) e.blank in
      let s = begun_split (units_of new) page r.unit r.begun in
      let place = s.place in
      let parts : units_of new ≡ s.front ++ (Free ∷ s.rest) = s.whole ∙ ap (λ u. s.front ++ (u ∷ s.rest)) free in
      let keep : KeepRules nowhere new page (ends_free false s.front) (Free ∷ s.rest) = keep_rest nowhere new s.front (Free ∷ s.rest) 0 page false (omega (arith, place)) (subst (KeepRules nowhere new 0 false) parts tiled.keep) in
      let sum : total (units_of new) ≡ total s.front + total (Free ∷ s.rest) = ap total parts ∙ total-append s.front (Free ∷ s.rest) in
      let all = tiled.whole in
      let sixteen : pages_of new ≡ 16 * sectors = omega (arith, size, long) in
      let block = free_sector nowhere new sectors page (ends_free false s.front) s.rest sixteen keep (omega (arith, sum, all, place, long, size)) in
      let behind : (p : ℕ) → page ≤ p → p / 16 ≡ sector → page_bytes image p ≡ replicate 256 0 =
      λ p low here.
      let k : p ≡ page + (p - page) = omega (arith, low) in
      let less : p - page < 16 - page % 16 = omega (arith, low, here, from, within) in
      back p here (all_zero (page_bytes new p) 256 (length_range new (256 * p) (256 * p + 256) (omega (arith, here, i, long)) ∙ omega arith)
      (subst (λ q. is_zeros (page_bytes new q) ≡ true) (sym k) (free_pages_zero new (16 - page % 16) page (p - page) (ends_free false s.front) block.rest (subst (KeepRules nowhere new page (ends_free false s.front)) block.front keep) less))) in
      images_same image erased erased_long (λ p. ⊎_elim
      (λ (before : p < page). erased_front p before)
      (λ (after : page ≤ p). ⊎_elim
      (λ (here : p / 16 ≡ sector). erased_page image sector p i here ∙ sym (behind p after here))
      (λ (there : p / 16 ≢ sector). erased_other_page image sector p i there)
      (cases_eq (p / 16) sector))
      (cases_lt p page))

-- ---- A TORN HEADER AT THE FIRST PAGE THAT IS NOT ZERO

pub extents_turned : (front rest : List Unit) (from : ℕ) → extents from (front ++ (Isolated ∷ rest)) ≡ extents from (front ++ (Free ∷ rest))
extents_turned [] rest from = refl
extents_turned (Free ∷ us) rest from = extents_turned us rest (from + 1)
extents_turned (Isolated ∷ us) rest from = extents_turned us rest (from + 1)
extents_turned (Extent h ∷ us) rest from = ap (λ es. record { page = from; header = h } ∷ es) (extents_turned us rest (from + h.max_pages))

total_turned : (front rest : List Unit) → total (front ++ (Isolated ∷ rest)) ≡ total (front ++ (Free ∷ rest))
total_turned front rest = total-append front (Isolated ∷ rest) ∙ sym (total-append front (Free ∷ rest))

stand_behind : (old new : List ℕ) (us : List Unit) (from page : ℕ) → page < from → ((q : ℕ) → q ≢ page → unit_at new q ≡ unit_at old q) → StandFrom old from us → StandFrom new from us
stand_behind old new [] from page less same s = tt
stand_behind old new (u ∷ us) from page less same s =
    (same from (λ e. absurd (omega (arith, e, less))) ∙ s.0, s.1, stand_behind old new us (from + size_of u) page (omega (arith, less)) same s.2)

stand_turned : (old new : List ℕ) (front rest : List Unit) (from page : ℕ) → from + total front ≡ page → ((q : ℕ) → q ≢ page → unit_at new q ≡ unit_at old q) → unit_at new page ≡ Some Isolated
    → StandFrom old from (front ++ (Free ∷ rest)) → StandFrom new from (front ++ (Isolated ∷ rest))
stand_turned old new [] rest from page place same is s =
    let here : page ≡ from = omega (arith, place) in
    (subst (λ p. unit_at new p ≡ Some Isolated) here is, omega arith, stand_behind old new rest (from + 1) page (omega (arith, here)) same s.2)
stand_turned old new (u ∷ us) rest from page place same is s =
    let some = s.1 in
    (same from (λ e. absurd (omega (arith, e, place, some))) ∙ s.0, s.1, stand_turned old new us rest (from + size_of u) page (omega (arith, place)) same is s.2)

module _ (image : List ℕ) (sector page : ℕ) (e : IsErasing image sector page) (t : IsTornHeader image page) (k : KeepsSettled (zeros_at image (4096 * sector) 4096)) where
  abbrev clear : List ℕ
  clear = zeros_at image (4096 * sector) 4096

  abbrev turned_page : List ℕ
  turned_page = flagged image page 34

  clear_long : length clear ≡ length image
  clear_long = length_zeros_at image (4096 * sector) 4096 e.inside

  long : length turned_page ≡ length clear
  long = length_or_at image (256 * page + 9) (34 ∷ []) ∙ sym clear_long

  -- all other pages are the same
  other_pages : (q : ℕ) → q ≢ page → page_bytes turned_page q ≡ page_bytes clear q
  other_pages q other =
      let i = e.inside in
      let from = e.from in
      let within = e.within in
      let mid : page / 16 ≡ sector = omega (arith, from, within) in
      other_page image page 34 q other ∙ ⊎_elim
      (λ (here : q / 16 ≡ sector). ⊎_elim
      (λ (before : q < page). page_zero image (4096 * sector) (256 * page) q e.zeros (omega (arith, here)) (omega (arith, before)) (omega (arith, here, i)))
      (λ (after : page ≤ q). page_zero image (256 * page + 256) (4096 * (page / 16) + 4096) q t.last (omega (arith, after, other)) (omega (arith, here, mid)) (omega (arith, here, i)))
      (cases_lt q page)
      ∙ sym (erased_page image sector q i here))
      (λ (there : q / 16 ≢ sector). sym (erased_other_page image sector q i there))
      (cases_eq (q / 16) sector)

  other_byte : (j : ℕ) → j / 256 ≢ page → get_or turned_page j 0 ≡ get_or clear j 0
  other_byte j other = byte_in_page turned_page j ∙ ap (λ xs. get_or xs (j % 256) 0) (other_pages (j / 256) other) ∙ sym (byte_in_page clear j)

  split : (front : List Unit) × (rest : List Unit) × (units_of clear ≡ front ++ (Free ∷ rest)) × (total front ≡ page)
  split = let s = begun_split (units_of clear) page Free e.begins in (s.front, s.rest, s.whole, s.place)

  units_turned : units_of turned_page ≡ split.0 ++ (Isolated ∷ split.1)
  units_turned =
      let front : List Unit = split.0 in
      let rest : List Unit = split.1 in
      let place = split.3 in
      let c = tiled_covered nowhere clear (front ++ (Free ∷ rest)) (subst (IsTiled nowhere clear) split.2 k.tiled) in
      units_covered turned_page (front ++ (Isolated ∷ rest)) (record {
        stand = stand_turned clear turned_page front rest 0 page (omega (arith, place)) (λ q other. unit_at_same clear turned_page q (other_pages q other)) (stands_at turned_page page Isolated t.begins).1 c.stand;
        whole = ap (λ n. 256 * n) (total_turned front rest) ∙ c.whole ∙ sym long;
      })

  same_files_in : files_in (units_of turned_page) ≡ files_in (units_of clear)
  same_files_in = ap files_in units_turned ∙ files_turned split.0 split.1 ∙ sym (ap files_in split.2)
    where
      files_turned : (front rest : List Unit) → files_in (front ++ (Isolated ∷ rest)) ≡ files_in (front ++ (Free ∷ rest))
      files_turned front rest = by_extents (extents 0 (front ++ (Isolated ∷ rest))) (extents 0 (front ++ (Free ∷ rest))) (extents_turned front rest 0)
        where
          by_extents : (es fs : List Placed) → es ≡ fs → filter is_file es ≡ filter is_file fs
          by_extents es fs s = ap (filter is_file) s

  -- no extent has the page
  extent_apart : (p : ℕ) (h : Header) → begins clear p h → (j : ℕ) → 256 * p ≤ j → j < 256 * (p + h.max_pages) → j / 256 ≢ page
  extent_apart p h b j low high here =
      begun_apart (units_of clear) p page (Extent h) Free (have_pages nowhere clear (units_of clear) k.tiled) b e.begins
      (λ s. free_extent h (sym e.begins ∙ ap (unit_begun (units_of clear) 0) (sym s) ∙ b)) page (omega (arith, low, here)) (omega (arith, high, here)) (omega arith) (omega arith)
    where
      free_extent : (h : Header) → Some Free ≡ Some (Extent h) → ⊥
      free_extent h s = let n : ⊥ = cc in n

  same_file : (f : Placed) → Among f (files_in (units_of clear)) → named_file turned_page f ≡ named_file clear f
  same_file f a =
      let b = file_of_units clear k f a in
      ap (named f.header.name (kind_of f.header)) (kept_bytes clear turned_page f.page f.header.max_pages (log_of f.header) long (record {
        extent = λ j low high. other_byte j (extent_apart f.page f.header b.0 j low high);
        logged = λ l is j low high.
            let g = log_there clear k f.page l.0 f.header b.0 b.1 (log_page_is f.header l is) in
            let pages = log_pages clear k l.0 g.0 g.1 g.2 in
            other_byte j (extent_apart l.0 g.0 g.1 j low (omega (arith, high, pages)));
      }))

  -- to isolate the page leaves the files that to erase the sector leaves
  pub isolated_or_erased : files_of turned_page ≡ files_of clear
  isolated_or_erased =
      ap (map (named_file turned_page)) same_files_in
      ∙ map_among (named_file turned_page) (named_file clear) (files_in (units_of clear)) same_file
