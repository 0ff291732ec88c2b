-- Two images that differ in 128 bytes of a log alone: what was under way in the one is found in the other, and they differ no more
-- once it is settled.
use Rattle.std.proofs.Common.{◌≡◌, ◌≢◌, ◌⊎◌, inl, inr, ⊎_elim, ℕ, ◌+◌, ◌-◌, ◌*◌, ◌/◌, ◌<◌, ◌≤◌, true, false, List, [], ◌∷◌, length, get_or, Some, bit_or, refl, ap, sym, subst, ◌∙◌, arith}
use Rattle.std.specs.Prelude.{slice_range}
use Rattle.std.specs.List.{Contains}
use Rattle.std.proofs.lemmas.Bool.{cases_lt}
use Rattle.std.proofs.lemmas.List.{get_or_past}
use Rattle.afl_base.specs.Image.{or_at, page_bytes, zeros_at}
use Rattle.afl_base.proofs.Images.{length_or_at, length_zeros_at, or_at_before, or_at_behind, or_at_inside, range_at, range_same, zeros_at_before, zeros_at_behind, zeros_at_inside}
use Rattle.coffee_header.specs.Headers.{is_flags}
use Rattle.coffee_header.specs.declared.header.Header.{Header}
use Rattle.coffee_layout.specs.Files.{Placed, files_in}
use Rattle.coffee_layout.specs.Marks.{active_pages}
use Rattle.coffee_layout.specs.Tiling.{IsTiled, nowhere, units_of}
use Rattle.coffee_layout.specs.Units.{is_active, is_active_flags, unit_at}
use Rattle.coffee_layout.specs.declared.unit.Unit.TheVariants.{Extent, Isolated}
use Rattle.coffee_layout.proofs.Frames.{unit_at_same}
use Rattle.coffee_merge.specs.Begun.{active_at, unit_begun}
use Rattle.coffee_merge.specs.Flags.{flagged}
use Rattle.coffee_merge.proofs.Beginning.{zero_at as zeros_in}
use Rattle.coffee_merge.proofs.Begun.{begun_marks, begun_order, have_pages}
use Rattle.coffee_space.proofs.SectorMarks.{any_each}
use Rattle.coffee_cuts.specs.Cuts.{Beginning, Building, Erasing, IsActiveAt, IsErasing, IsFound, IsIdle, IsReplacing, IsTornHeader, Naming, Nothing, Replacing, UnderWay, Unnamed, settled}
use Rattle.coffee_cuts.proofs.MarkedPages.{extent_ninth, marked_alike, ninth, other_ninth, same_marked, stands_at}
use Rattle.coffee_cuts.proofs.TwoMarks.{IsMarked, eight, five, four, once_marked}
use Rattle.coffee_mend.proofs.LikeImages.{IsOff, unit_off, units_same}
use Rattle.padded.specs.Zeros.{is_zeros}
use Rattle.padded.proofs.Facts.{yes_no}
use Rattle.coffee_mend.specs.Joined.{IsSameBut}

-- ---- THEY DIFFER NO MORE ONCE THEY ARE CHANGED ALIKE

-- a byte that is the same is so once bytes are programmed in both images
pub or_same : (a b : List ℕ) (at : ℕ) (bytes : List ℕ) (k : ℕ) → length a ≡ length b → get_or a k 0 ≡ get_or b k 0 → get_or (or_at a at bytes) k 0 ≡ get_or (or_at b at bytes) k 0
or_same a b at bytes k long same =
    let la = length_or_at a at bytes in
    let lb = length_or_at b at bytes in
    ⊎_elim
    (λ (past : length a ≤ k). get_or_past (or_at a at bytes) k 0 (omega (arith, past, la)) ∙ sym (get_or_past (or_at b at bytes) k 0 (omega (arith, past, lb, long))))
    (λ (less : k < length a). ⊎_elim
    (λ (before : k < at). or_at_before a at bytes k before ∙ same ∙ sym (or_at_before b at bytes k before))
    (λ (from : at ≤ k). ⊎_elim
    (λ (to : k < at + length bytes).
    let e : at + (k - at) ≡ k = omega (arith, from) in
    ap (λ j. get_or (or_at a at bytes) j 0) (sym e)
    ∙ or_at_inside a at bytes (k - at) (omega (arith, e, less)) (omega (arith, from, to))
    ∙ ap (λ j. bit_or (get_or a j 0) (get_or bytes (k - at) 0)) e
    ∙ ap (λ x. bit_or x (get_or bytes (k - at) 0)) same
    ∙ sym (ap (λ j. bit_or (get_or b j 0) (get_or bytes (k - at) 0)) e)
    ∙ sym (or_at_inside b at bytes (k - at) (omega (arith, e, less, long)) (omega (arith, from, to)))
    ∙ ap (λ j. get_or (or_at b at bytes) j 0) e)
    (λ (behind : at + length bytes ≤ k). or_at_behind a at bytes k behind ∙ same ∙ sym (or_at_behind b at bytes k behind))
    (cases_lt k (at + length bytes)))
    (cases_lt k at))
    (⊎_elim (λ (less : k < length a). inr less) (λ (past : length a ≤ k). inl past) (cases_lt k (length a)))

pub or_but : (shown image : List ℕ) (place at : ℕ) (bytes : List ℕ) → IsSameBut shown image place → IsSameBut (or_at shown at bytes) (or_at image at bytes) place
or_but shown image place at bytes but =
    let inside = but.inside in
    let ls = length_or_at shown at bytes in
    record {
      inside = omega (arith, inside, ls);
      size = length_or_at image at bytes ∙ but.size ∙ sym ls;
      others = λ k out. or_same image shown at bytes k but.size (but.others k out);
    }

pub flagged_but : (shown image : List ℕ) (place page flag : ℕ) → IsSameBut shown image place → IsSameBut (flagged shown page flag) (flagged image page flag) place
flagged_but shown image place page flag but = or_but shown image place (256 * page + 9) (flag ∷ []) but

pub zeros_but : (shown image : List ℕ) (place at n : ℕ) → at + n ≤ length shown → IsSameBut shown image place → IsSameBut (zeros_at shown at n) (zeros_at image at n) place
zeros_but shown image place at n fits but =
    let inside = but.inside in
    let size = but.size in
    let there : at + n ≤ length image = omega (arith, fits, size) in
    let ls = length_zeros_at shown at n fits in
    record {
      inside = omega (arith, inside, ls);
      size = length_zeros_at image at n there ∙ but.size ∙ sym ls;
      others = λ k out. ⊎_elim
          (λ (before : k < at). zeros_at_before image at n k there before ∙ but.others k out ∙ sym (zeros_at_before shown at n k fits before))
          (λ (from : at ≤ k). ⊎_elim
          (λ (to : k < at + n). zeros_at_inside image at n k there from to ∙ sym (zeros_at_inside shown at n k fits from to))
          (λ (behind : at + n ≤ k). zeros_at_behind image at n k there behind ∙ but.others k out ∙ sym (zeros_at_behind shown at n k fits behind))
          (cases_lt k (at + n)))
          (cases_lt k at);
    }

pub settled_but : (shown image : List ℕ) (place : ℕ) (w : UnderWay) → IsFound shown w → IsSameBut shown image place → IsSameBut (settled shown w) (settled image w) place
settled_but shown image place Nothing f but = but
settled_but shown image place (Beginning page) f but = flagged_but shown image place page 34 but
settled_but shown image place (Building page) f but = flagged_but shown image place page 5 but
settled_but shown image place (Erasing sector page) f but = zeros_but shown image place (4096 * sector) 4096 f.inside but
settled_but shown image place (Unnamed log) f but = flagged_but shown image place log 4 but
settled_but shown image place (Naming page) f but = flagged_but shown image place page 8 but
settled_but shown image place (Replacing dropped kept) f but = flagged_but shown image place dropped.page 4 but

-- ---- WHAT IS FOUND

-- a log is a whole unit of an image, and is active where a sector was being erased
pub record HasLogUnit (image : List ℕ) (log : ℕ) (way : UnderWay) : Type 0 where
  pub tiled : IsTiled nowhere image (units_of image)
  pub header : Header
  pub begun : unit_begun (units_of image) 0 log ≡ Some (Extent header)
  pub sixteen : header.max_pages ≡ 16
  pub stands : (sector page : ℕ) → way ≡ Erasing sector page → is_active_flags header.flags ≡ true

module _ (shown image : List ℕ) (place log : ℕ) (but : IsSameBut shown image place) (low : 256 * log + 96 ≤ place) (high : place + 128 ≤ 256 * log + 4096) where
  -- of two images that are changed alike the units are the same
  pub settled_units : (w : UnderWay) → IsFound shown w → HasLogUnit (settled shown w) log w → units_of (settled image w) ≡ units_of (settled shown w)
  settled_units w f l =
      units_same (settled shown w) (settled image w) place log (settled_but shown image place w f but) low high (settled shown w) refl
      (λ q. marked_alike (settled shown w) (settled shown w) q (same_marked (settled shown w) (settled shown w) q refl)) l.tiled l.header l.begun l.sixteen

  by_marks : (new : List ℕ) (w : UnderWay) → IsMarked shown new → HasLogUnit new log w → units_of image ≡ units_of shown
  by_marks new w m l = units_same shown image place log but low high new m.long (λ q. marked_alike shown new q (m.at q)) l.tiled l.header l.begun l.sixteen

  active_back : (page flags : ℕ) → units_of image ≡ units_of shown → IsActiveAt shown page flags → IsActiveAt image page flags
  active_back page flags same a = record { header = a.header; there = ap (λ us. active_at us page) same ∙ a.there; flags_are = a.flags_are }

  replacing_back : (dropped kept : Placed) → units_of image ≡ units_of shown → IsReplacing shown dropped kept → IsReplacing image dropped kept
  replacing_back dropped kept same r = record {
    dropped_there = subst (λ us. Contains (files_in us) dropped) (sym same) r.dropped_there;
    kept_there = subst (λ us. Contains (files_in us) kept) (sym same) r.kept_there;
    apart = r.apart;
    one_name = r.one_name;
    plain = r.plain;
    no_log = r.no_log;
    over = r.over;
  }

  -- a range that has none of the bytes
  range_back : (a b : ℕ) → ((k : ℕ) → a ≤ k → k < b → place ≤ k → k < place + 128 → ⊥) → slice_range image a b ≡ slice_range shown a b
  range_back a b none = range_same image shown a b but.size (λ k from to. but.others k (⊎_elim
      (λ (l : k < place). inl l)
      (λ (l : place ≤ k). ⊎_elim
      (λ (m : k < place + 128). absurd (none k from to l m))
      (λ (m : place + 128 ≤ k). inr m)
      (cases_lt k (place + 128)))
      (cases_lt k place)))

  torn_back : (page : ℕ) → IsTornHeader shown page → HasLogUnit (flagged shown page 34) log (Beginning page) → IsTornHeader image page
  torn_back page t l =
      let new : List ℕ = flagged shown page 34 in
      let stands = stands_at new page Isolated t.begins in
      let long : length new ≡ length shown = length_or_at shown (256 * page + 9) (34 ∷ []) in
      let inside = stands.0 in
      let other : page ≢ log = λ same. (let e : Some Isolated ≡ Some (Extent l.header) = sym t.begins ∙ ap (unit_begun (units_of new) 0) same ∙ l.begun in let no : ⊥ = cc in no) in
      let sixteen = l.sixteen in
      let off : IsOff log page = ⊎_elim
      (λ (less : log < page). let o = begun_order (units_of new) log page (Extent l.header) Isolated (have_pages nowhere new (units_of new) l.tiled) l.begun t.begins less in inr (omega (arith, o, sixteen)))
      (λ (more : page ≤ log). inl more)
      (cases_lt log page) in
      record {
        torn = unit_off shown image place log but low high page off (omega (arith, inside, long)) ∙ t.torn;
        last = subst (λ xs. is_zeros xs ≡ true) (sym (range_back (256 * page + 256) (4096 * (page / 16) + 4096) (λ k from to a b. none off k from to a b))) t.last;
        begins = ap (λ us. unit_begun us 0 page) (settled_units (Beginning page) t l) ∙ t.begins;
      }
    where
      -- the log would have no flags
      none : IsOff log page → (k : ℕ) → 256 * page + 256 ≤ k → k < 4096 * (page / 16) + 4096 → place ≤ k → k < place + 128 → ⊥
      none (inr behind) k from to a b = absurd (omega (arith, behind, from, b, high))
      none (inl front) k from to a b =
          let new : List ℕ = flagged shown page 34 in
          let at = stands_at new log (Extent l.header) l.begun in
          let apart : log ≢ page = λ same. (let e : Some Isolated ≡ Some (Extent l.header) = sym t.begins ∙ ap (unit_begun (units_of new) 0) (sym same) ∙ l.begun in let no : ⊥ = cc in no) in
          let i : ℕ = 256 * log + 9 - (256 * page + 256) in
          let e : 256 * page + 256 + (256 * log + 9 - (256 * page + 256)) ≡ 256 * log + 9 = omega (arith, front, apart) in
          let zero : ninth shown log ≡ 0 =
          ap (λ j. get_or shown j 0) (sym e)
          ∙ sym (range_at shown (256 * page + 256) (4096 * (page / 16) + 4096) (256 * log + 9 - (256 * page + 256)) (omega (arith, e, to, a, low)))
          ∙ zeros_in (slice_range shown (256 * page + 256) (4096 * (page / 16) + 4096)) (256 * log + 9 - (256 * page + 256)) t.last in
          yes_no (is_flags (ninth new log)) (extent_ninth new log l.header at.1).1 (ap is_flags (other_ninth shown page 34 log apart ∙ zero))

  -- of a sector without active pages no byte is one of the log
  erasing_back : (sector page : ℕ) → IsErasing shown sector page → HasLogUnit (zeros_at shown (4096 * sector) 4096) log (Erasing sector page) → IsErasing image sector page
  erasing_back sector page e l =
      let size = but.size in
      let inside = e.inside in
      let within = e.within in
      let from = e.from in
      let same = settled_units (Erasing sector page) e l in
      let alike : page_bytes image page ≡ page_bytes shown page = range_back (256 * page) (256 * page + 256) (λ k a b c d. none k (omega (arith, a, from)) (omega (arith, b, within)) c d) in
      record {
        inside = omega (arith, inside, size);
        from = e.from;
        within = e.within;
        zeros = subst (λ xs. is_zeros xs ≡ true) (sym (range_back (4096 * sector) (256 * page) (λ k a b c d. none k a (omega (arith, b, within)) c d))) e.zeros;
        blank = ⊎_elim
            (λ (nine : get_or shown (256 * page + 9) 0 ≡ 0). inl (but.others (256 * page + 9) (beside (256 * page + 9) (omega (arith, from)) (omega (arith, within))) ∙ nine))
            (λ (h : (g : Header) × (unit_at shown page ≡ Some (Extent g)) × (g.max_pages ≡ 0)). inr (h.0, unit_at_same shown image page alike ∙ h.1, h.2))
            e.blank;
        begins = ap (λ us. unit_begun us 0 page) same ∙ e.begins;
        idle = subst (λ us. IsIdle us sector) (sym same) e.idle;
      }
    where
      none : (k : ℕ) → 4096 * sector ≤ k → k < 4096 * sector + 4096 → place ≤ k → k < place + 128 → ⊥
      none k from to a b =
          let us = units_of (zeros_at shown (4096 * sector) 4096) in
          let sixteen = l.sixteen in
          let mark : get_or (active_pages us) (k / 256) false ≡ true =
          begun_marks is_active us log (Extent l.header) (k / 256) l.begun (omega (arith, a, low)) (omega (arith, b, high, sixteen)) ∙ l.stands sector page refl in
          yes_no (get_or (active_pages us) (k / 256) false) mark (any_each (active_pages us) (16 * sector) (16 * sector + 16) (k / 256) e.idle (omega (arith, from)) (omega (arith, to)))

      beside : (k : ℕ) → 4096 * sector ≤ k → k < 4096 * sector + 4096 → (k < place) ⊎ (place + 128 ≤ k)
      beside k from to = ⊎_elim
          (λ (l : k < place). inl l)
          (λ (l : place ≤ k). ⊎_elim
          (λ (m : k < place + 128). absurd (none k from to l m))
          (λ (m : place + 128 ≤ k). inr m)
          (cases_lt k (place + 128)))
          (cases_lt k place)

  pub found_back : (w : UnderWay) → IsFound shown w → HasLogUnit (settled shown w) log w → IsFound image w
  found_back Nothing f l = tt
  found_back (Beginning page) f l = torn_back page f l
  found_back (Building page) f l = active_back page 2 (by_marks (flagged shown page 5) (Building page) (once_marked shown page 5 five) l) f
  found_back (Erasing sector page) f l = erasing_back sector page f l
  found_back (Unnamed other) f l = active_back other 19 (by_marks (flagged shown other 4) (Unnamed other) (once_marked shown other 4 four) l) f
  found_back (Naming page) f l = active_back page 3 (by_marks (flagged shown page 8) (Naming page) (once_marked shown page 8 eight) l) f
  found_back (Replacing dropped kept) f l = replacing_back dropped kept (by_marks (flagged shown dropped.page 4) (Replacing dropped kept) (once_marked shown dropped.page 4 four) l) f
