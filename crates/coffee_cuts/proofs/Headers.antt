-- A header that was programmed in part into the first of the lowest free pages: what the image mends to.
use Rattle.std.proofs.Common.{◌≡◌, ◌≢◌, ◌⊎◌, inl, inr, ⊎_elim, ℕ, ◌+◌, ◌-◌, ◌*◌, ◌/◌, ◌%◌, ◌<◌, ◌≤◌, Bool, true, false, not, ◌&&◌, ◌==◌, List, [], ◌∷◌, ◌++◌, length, take, get_or, Option, Some, None, refl, ap, sym, subst, ◌∙◌, arith, bit_or}
use Rattle.std.specs.Prelude.{slice_range}
use Rattle.std.specs.List.{filter}
use Rattle.std.proofs.lemmas.Bool.{cases_eq, cases_lt}
use Rattle.std.proofs.lemmas.List.{ext_get_or, get_or-take, length-take-le}
use Rattle.afl_base.specs.Cuts.{IsCutProgram}
use Rattle.afl_base.specs.Image.{or_at, page_bytes}
use Rattle.afl_base.proofs.Images.{byte_in_page, length_or_at, length_range, or_at_other_page, or_at_page, or_at_range, range_at}
use Rattle.coffee_cuts.proofs.TornBeginnings.{extents_turned}
use Rattle.coffee_header.specs.Headers.{IsValid, header_bytes, is_flags}
use Rattle.coffee_header.specs.declared.header.Header.{Header}
use Rattle.coffee_layout.specs.Marks.{IsLowestRun, active_pages, free_pages}
use Rattle.coffee_layout.specs.Tiling.{IsTiled, KeepRules, broken_suffix, broken_unit, nowhere, units_of}
use Rattle.coffee_layout.specs.Units.{is_active, is_active_flags, is_free, pages_of, total, unit_at, unit_of}
use Rattle.coffee_layout.specs.declared.unit.Unit.{Unit}
use Rattle.coffee_layout.specs.declared.unit.Unit.TheVariants.{Extent, Free, Isolated}
use Rattle.coffee_layout.proofs.Frames.{ends_free, keep_rest, replaced, total-append}
use Rattle.coffee_layout.proofs.FreeSectors.{free_sector}
use Rattle.coffee_layout.proofs.MarkLaws.{run_inside}
use Rattle.coffee_layout.proofs.Tests.{eq_false}
use Rattle.coffee_layout.proofs.Tilings.{unbroken_tiled, units_tiled}
use Rattle.coffee_merge.specs.Begun.{active_at, active_header, unit_begun}
use Rattle.coffee_merge.specs.Flags.{flagged}
use Rattle.coffee_merge.specs.Holding.{Entries, HoldsTable, Stays, file_header, log_header}
use Rattle.coffee_merge.proofs.Beginning.{IsBegun, begun_lowest, length-header_bytes}
use Rattle.coffee_merge.proofs.Begun.{HavePages, Split, active_begun, begun_marks, begun_split, have_pages, pages_front, split_begun}
use Rattle.coffee_merge.proofs.FreeUnits.{free_unit}
use Rattle.coffee_merge.proofs.HeaderMarks.{unit_header}
use Rattle.coffee_merge.proofs.Holdings.{holds_pages, holds_tiled}
use Rattle.coffee_merge.proofs.Kept.{KeepsBodies, bodies_kept, holds_bodies}
use Rattle.coffee_merge.proofs.Marked.{flagged_extent}
use Rattle.coffee_merge.proofs.Obtained.{obtained}
use Rattle.coffee_merge.proofs.Retired.{inactive}
use Rattle.coffee_space.specs.Collection.{active_extents, is_active_extent}
use Rattle.coffee_space.proofs.UnitsLeft.{isolated_unit}
use Rattle.flash_range.specs.Range.{Outside}
use Rattle.flash_range.proofs.Ranges.{or_on_zero, or_outside}
use Rattle.padded.proofs.Facts.{eq_true, false_right, none_some, yes_no}
use Rattle.padded.specs.Zeros.{is_zeros}
use Rattle.coffee_cuts.specs.Cuts.{Beginning, Building, IsTornHeader, Unnamed}
use Rattle.coffee_cuts.specs.Mending.{IsTable}
use Rattle.coffee_cuts.proofs.HeaderFronts.{IsFrontOf, free_head, front_whole, part_header}
use Rattle.coffee_cuts.proofs.Mended.{SettlesHolding, settles_by, whole_settles}
use Rattle.coffee_cuts.proofs.ZeroPages.{free_pages_zero, zero_part, zeros_from}
use Rattle.coffee_merge.proofs.Beginning.{lowest_front as front_used}

-- AN EXTENT THAT BEGAN

-- once its header has flags that are not active, the table is held as before
pub begun_settles : (building : ℕ → Bool) (old new : List ℕ) (table : Entries) (page flag : ℕ) (g : Header) → HoldsTable old table None → length new ≡ length old → 1 ≤ g.max_pages
    → IsBegun building old new (units_of old) page g → is_flags (bit_or g.flags flag) ≡ true → bit_or g.flags flag == 2 ≡ false → is_active_flags (bit_or g.flags flag) ≡ false
    → ((q : ℕ) → q ≢ page → building q ≡ false) → Stays old (flagged new page flag) table
begun_settles building old new table page flag g h long some begun good done out only =
    let all : List ℕ = flagged new page flag in
    let now : Header = record g { flags = bit_or g.flags flag } in
    let r = flagged_extent building nowhere new page g flag begun.tiled (active_begun (units_of new) page g begun.here).0 good done only in
    let same : (k : ℕ) → Outside (256 * page) 32 k → get_or all k 0 ≡ get_or old k 0 = λ k away. r.bytes k (λ e. away (omega (arith, e)) (omega (arith, e))) ∙ begun.same k away in
    let size : length all ≡ length old = r.long ∙ long in
    let bodies : KeepsBodies old all table = λ i e is. record {
      extent = λ k from to. same k (λ x y. begun.apart e.page.0 (file_header e) (h.files i e is) (k / 256) (omega (arith, from)) (omega (arith, to)) (omega (arith, x)) (omega (arith, y, some)));
      logged = λ l log k from to. same k (λ x y. begun.apart l.0 (log_header e.name) (h.logs i e l is log) (k / 256) (omega (arith, from)) (omega (arith, to)) (omega (arith, x)) (omega (arith, y, some)));
    } in
    record {
      holds = holds_bodies old all table None h size (unbroken_tiled nowhere all (units_of all) r.tiled)
          (λ q. ⊎_elim
          (λ (here : q ≡ page). subst (λ p. active_at (units_of all) p ≡ active_at (units_of old) p) (sym here) (inactive (units_of all) page now r.here out ∙ sym begun.none))
          (λ (there : q ≢ page). ap active_header (r.others q there) ∙ begun.others q there)
          (cases_eq q page))
          bodies (λ d none. absurd (none_some d none));
      kept = bodies_kept old all table size bodies;
    }

-- AN ISOLATED PAGE

-- a free page behind one in use is isolated now, and all other pages stay
pub record Isolates (old new : List ℕ) (page : ℕ) : Type 0 where
  pub tiled : IsTiled nowhere new (units_of new)
  pub here : unit_begun (units_of new) 0 page ≡ Some Isolated
  pub extents_are : active_extents (units_of new) ≡ active_extents (units_of old)

isolates_split : (old new : List ℕ) (front rest : List Unit) → units_of old ≡ front ++ (Free ∷ rest) → IsTiled nowhere old (units_of old) → length new ≡ length old → ((q : ℕ) → q ≢ total front → page_bytes new q ≡ page_bytes old q)
    → unit_at new (total front) ≡ Some Isolated → ends_free false front ≡ false → Isolates old new (total front)
isolates_split old new front rest is tiled long others here used =
    let parts : IsTiled nowhere old (front ++ (Free ∷ rest)) = subst (IsTiled nowhere old) is tiled in
    let all : IsTiled nowhere new (front ++ (Isolated ∷ rest)) = replaced nowhere nowhere old new front (Free ∷ []) rest Isolated parts long
    (λ q out. others q (λ e. ⊎_elim (λ (a : q < total front). absurd (omega (arith, a, e))) (λ (a : total front + (1 + 0) ≤ q). absurd (omega (arith, a, e))) out))
    (λ q out. refl) refl refl here
    (ap (broken_unit false (is_zeros (page_bytes new (total front))) (pages_of new) (total front) (ends_free false front)) here ∙ ap (λ f. broken_suffix (total front) f) used) in
    let units : units_of new ≡ front ++ (Isolated ∷ rest) = units_tiled nowhere new (front ++ (Isolated ∷ rest)) all in
    record {
      tiled = subst (IsTiled nowhere new) (sym units) all;
      here = ap (λ us. unit_begun us 0 (total front)) units ∙ split_begun (front ++ (Isolated ∷ rest)) (total front) Isolated (have_pages nowhere new (front ++ (Isolated ∷ rest)) all) (record { front = front; rest = rest; whole = refl; place = refl });
      extents_are = ap active_extents units ∙ ap (filter is_active_extent) (extents_turned front rest 0) ∙ ap active_extents (sym is);
    }

-- A HEADER IN PART

module _ (whole new : List ℕ) (table : Entries) (t : IsTable whole table None) (page : ℕ) (h : Header) (valid : IsValid h) (flags : (h.flags ≡ 2) ⊎ (h.flags ≡ 19))
    (some : 1 ≤ h.max_pages) (low : IsLowestRun (free_pages (units_of whole)) h.max_pages page) (cut : IsCutProgram whole new (256 * page) (header_bytes h)) where
  tiled : IsTiled nowhere whole (units_of whole)
  tiled = holds_tiled whole table None t.holds

  pages_are : total (units_of whole) ≡ pages_of whole
  pages_are = let all = tiled.whole in let w = t.holds.whole in omega (arith, all, w)

  inside : page + h.max_pages ≤ pages_of whole
  inside = let r = run_inside is_free (units_of whole) page h.max_pages some low.run in omega (arith, r, pages_are)

  exists : 256 * page + 256 ≤ length whole
  exists = let w = t.holds.whole in let i = inside in omega (arith, i, some, w)

  begun : unit_begun (units_of whole) 0 page ≡ Some Free
  begun = free_unit (units_of whole) page (holds_pages whole table None t.holds) (low.run page (omega arith) (omega (arith, some)))

  abbrev split : Split (units_of whole) page Free
  split = begun_split (units_of whole) page Free begun

  -- all pages of the sector from this one on are zero
  free_behind : (q : ℕ) → page ≤ q → q < 16 * (page / 16) + 16 → is_zeros (page_bytes whole q) ≡ true
  free_behind q from to =
      let size = t.size in
      let place = split.place in
      let all = pages_are in
      let sixteen : pages_of whole ≡ 16 * t.sectors = omega (arith, size) in
      let parts : IsTiled nowhere whole (split.front ++ (Free ∷ split.rest)) = subst (IsTiled nowhere whole) split.whole tiled in
      let keep : KeepRules nowhere whole page (ends_free false split.front) (Free ∷ split.rest) = keep_rest nowhere whole split.front (Free ∷ split.rest) 0 page false (omega (arith, place)) parts.keep in
      let sum : total (units_of whole) ≡ total split.front + total (Free ∷ split.rest) = ap total split.whole ∙ total-append split.front (Free ∷ split.rest) in
      let block = free_sector nowhere whole t.sectors page (ends_free false split.front) split.rest sixteen keep (omega (arith, sum, all, place)) in
      let back : page + (q - page) ≡ q = omega (arith, from) in
      subst (λ p. is_zeros (page_bytes whole p) ≡ true) back
      (free_pages_zero whole (16 - page % 16) page (q - page) (ends_free false split.front) block.rest (subst (KeepRules nowhere whole page (ends_free false split.front)) block.front keep) (omega (arith, from, to)))

  zero_byte : (k : ℕ) → page ≤ k / 256 → k / 256 < 16 * (page / 16) + 16 → get_or whole k 0 ≡ 0
  zero_byte k from to = byte_in_page whole k ∙ zero_part (page_bytes whole (k / 256)) (k % 256) (free_behind (k / 256) from to)

  abbrev part : List ℕ
  part = take cut.done (header_bytes h)

  part_long : length part ≡ cut.done
  part_long = length-take-le cut.done (header_bytes h) cut.front.within

  short : cut.done ≤ 32
  short = let w = cut.front.within in let s = length-header_bytes h valid.name in omega (arith, w, s)

  long : length new ≡ length whole
  long = ap length cut.is ∙ length_or_at whole (256 * page) part

  outside : (k : ℕ) → Outside (256 * page) 32 k → get_or new k 0 ≡ get_or whole k 0
  outside k away = let p = part_long in let s = short in ap (λ i. get_or i k 0) cut.is ∙ or_outside whole (256 * page) part k (λ a b. away a (omega (arith, b, p, s)))

  other_page : (q : ℕ) → q ≢ page → page_bytes new q ≡ page_bytes whole q
  other_page q apart =
      let p = part_long in
      let s = short in
      ap (λ i. page_bytes i q) cut.is ∙ or_at_range whole (256 * page) part (256 * q) (256 * q + 256)
      (⊎_elim (λ (a : q < page). inl (omega (arith, a))) (λ (a : page ≤ q). inr (omega (arith, a, apart, p, s))) (cases_lt q page))

  abbrev head : List ℕ
  head = take 32 (page_bytes new page)

  head_byte : (k : ℕ) → k < 32 → get_or head k 0 ≡ get_or new (256 * page + k) 0
  head_byte k less = get_or-take 32 (page_bytes new page) k 0 less ∙ range_at new (256 * page) (256 * page + 256) k (omega (arith, less))

  page_long : length (page_bytes new page) ≡ 256
  page_long = let l = long in let x = exists in length_range new (256 * page) (256 * page + 256) (omega (arith, l, x)) ∙ omega arith

  is_front : IsFrontOf h head cut.done
  is_front =
      let p = part_long in
      let s = short in
      let x = exists in
      let size = page_long in
      record {
        long = length-take-le 32 (page_bytes new page) (omega (arith, size));
        here = λ k less there.
            head_byte k less ∙ ap (λ i. get_or i (256 * page + k) 0) cut.is
            ∙ or_on_zero whole (256 * page) part k (omega (arith, there, p)) (omega (arith, p, s, x)) (zero_byte (256 * page + k) (omega arith) (omega (arith, less)))
            ∙ get_or-take cut.done (header_bytes h) k 0 there;
        rest = λ k less behind.
            head_byte k less ∙ ap (λ i. get_or i (256 * page + k) 0) cut.is
            ∙ or_outside whole (256 * page) part (256 * page + k) (λ a b. absurd (omega (arith, b, p, behind)))
            ∙ zero_byte (256 * page + k) (omega arith) (omega (arith, less));
      }

  -- a byte of the head, or one that stays
  by_head : {P : Type 0} (k : ℕ) → ((j : ℕ) → j < 32 → k ≡ 256 * page + j → P) → (Outside (256 * page) 32 k → P) → P
  by_head k f g = ⊎_elim
      (λ (before : k < 256 * page). g (λ a b. omega (arith, a, before)))
      (λ (from : 256 * page ≤ k). ⊎_elim
      (λ (in_it : k < 256 * page + 32). f (k - 256 * page) (omega (arith, in_it, from)) (omega (arith, from)))
      (λ (behind : 256 * page + 32 ≤ k). g (λ a b. omega (arith, b, behind)))
      (cases_lt k (256 * page + 32)))
      (cases_lt k (256 * page))

  -- nothing is seen of it
  none_done : is_zeros head ≡ true → new ≡ whole
  none_done zeros = ext_get_or 0 new whole long (λ k less. by_head k
      (λ j few at. ap (λ i. get_or new i 0) at ∙ sym (head_byte j few) ∙ zero_part head j zeros ∙ sym (ap (λ i. get_or whole i 0) at ∙ zero_byte (256 * page + j) (omega arith) (omega (arith, few))))
      (outside k))

  -- the image has the head in place of zeros
  head_done : new ≡ or_at whole (256 * page) head
  head_done =
      let f = is_front.long in
      let x = exists in
      ext_get_or 0 new (or_at whole (256 * page) head) (long ∙ sym (length_or_at whole (256 * page) head)) (λ k less. by_head k
      (λ j few at. ap (λ i. get_or new i 0) at ∙ sym (head_byte j few)
      ∙ sym (ap (λ i. get_or (or_at whole (256 * page) head) i 0) at ∙ or_on_zero whole (256 * page) head j (omega (arith, few, f)) (omega (arith, f, x)) (zero_byte (256 * page + j) (omega arith) (omega (arith, few)))))
      (λ away. outside k away ∙ sym (or_outside whole (256 * page) head k (λ a b. away a (omega (arith, b, f))))))

  -- THE PAGE IS NO HEADER

  abbrev marked : List ℕ
  marked = flagged new page 34

  used : ends_free false split.front ≡ false
  used = front_used split.front (Free ∷ split.rest) h.max_pages (pages_front split.front (Free ∷ split.rest) (subst HavePages split.whole (holds_pages whole table None t.holds)))
      (subst (λ us. IsLowestRun (free_pages us) h.max_pages (total split.front)) split.whole (subst (IsLowestRun (free_pages (units_of whole)) h.max_pages) (sym split.place) low))

  marked_long : length marked ≡ length whole
  marked_long = length_or_at new (256 * page + 9) (34 ∷ []) ∙ long

  marked_other : (q : ℕ) → q ≢ page → page_bytes marked q ≡ page_bytes whole q
  marked_other q apart = or_at_other_page new page 9 (34 ∷ []) q (omega arith) apart ∙ other_page q apart

  isolates : Isolates whole marked page
  isolates =
      let l = long in
      let x = exists in
      let here : unit_at marked page ≡ Some Isolated = ap (λ bytes. unit_of (take 32 bytes)) (or_at_page new page 9 (34 ∷ []) (omega (arith, l, x)) (omega arith)) ∙ isolated_unit (page_bytes new page) page_long in
      subst (Isolates whole marked) split.place
      (isolates_split whole marked split.front split.rest split.whole tiled marked_long (λ q apart. marked_other q (λ e. apart (e ∙ sym split.place)))
      (subst (λ p. unit_at marked p ≡ Some Isolated) (sym split.place) here) used)

  isolated_stays : Stays whole marked table
  isolated_stays = obtained whole marked table t.holds marked_long isolates.tiled isolates.extents_are (λ q active. marked_other q (λ e.
      yes_no (get_or (active_pages (units_of whole)) page false) (ap (λ i. get_or (active_pages (units_of whole)) i false) (sym e) ∙ active) (begun_marks is_active (units_of whole) page Free page begun (omega arith) (omega arith))))

  torn_found : unit_at new page ≡ None → IsTornHeader new page
  torn_found none =
      let size = t.size in
      let l = long in
      let x = exists in
      let end : 4096 * (page / 16) + 4096 ≤ length new = omega (arith, size, l, x) in
      record {
        torn = none;
        last = zeros_from (slice_range new (256 * page + 256) (4096 * (page / 16) + 4096)) (λ k less.
            let n = length_range new (256 * page + 256) (4096 * (page / 16) + 4096) end in
            range_at new (256 * page + 256) (4096 * (page / 16) + 4096) k (omega (arith, less, n)) ∙ outside (256 * page + 256 + k) (λ a b. absurd (omega (arith, b)))
            ∙ zero_byte (256 * page + 256 + k) (omega arith) (omega (arith, less, n)));
        begins = isolates.here;
      }

  -- THE PAGE IS A HEADER

  part_begun : (building : ℕ → Bool) (g : Header) → unit_at new page ≡ Some (Extent g) → is_active_flags h.flags ≡ true → h.flags == 2 && not (building page) ≡ false → ((q : ℕ) → q ≢ page → false ≡ building q)
      → IsBegun building whole new (units_of whole) page g × (g.flags ≡ h.flags) × (1 ≤ g.max_pages)
  part_begun building g is active allowed only =
      let p = part_header h g head cut.done valid flags is_front (unit_header head g is) in
      let size = p.pages in
      let least : 1 ≤ g.max_pages = omega (arith, size, some) in (
        begun_lowest nowhere building whole new (units_of whole) page g tiled least (subst (λ n. IsLowestRun (free_pages (units_of whole)) n page) (sym p.pages) low)
            (head_done ∙ ap (or_at whole (256 * page)) (sym p.bytes_are)) p.valid (ap is_active_flags p.flags ∙ active) (ap (λ n. n == 2 && not (building page)) p.flags ∙ allowed) only,
        p.flags,
        least,
      )

  settled_header : (g : Header) → unit_at new page ≡ Some (Extent g) → (h.flags ≡ 2) ⊎ (h.flags ≡ 19) → SettlesHolding new whole table
  settled_header g is (inl two) =
      let b = part_begun (λ q. page == q) g is (ap is_active_flags two) (false_right (h.flags == 2) (not (page == page)) (ap not (eq_true page page refl))) (λ q other. sym (eq_false page q (λ e. other (sym e)))) in
      let flag : g.flags ≡ 2 = b.1 ∙ two in
      settles_by new whole table None (Building page) t (record { header = g; there = b.0.here; flags_are = flag })
      (begun_settles (λ q. page == q) whole new table page 5 g t.holds long b.2 b.0 (ap (λ n. is_flags (bit_or n 5)) flag) (ap (λ n. bit_or n 5 == 2) flag) (ap (λ n. is_active_flags (bit_or n 5)) flag) (λ q other. eq_false page q (λ e. other (sym e))))
  settled_header g is (inr nineteen) =
      let b = part_begun nowhere g is (ap is_active_flags nineteen) (ap (λ n. n == 2 && true) nineteen) (λ q other. refl) in
      let flag : g.flags ≡ 19 = b.1 ∙ nineteen in
      settles_by new whole table None (Unnamed page) t (record { header = g; there = b.0.here; flags_are = flag })
      (begun_settles nowhere whole new table page 4 g t.holds long b.2 b.0 (ap (λ n. is_flags (bit_or n 4)) flag) (ap (λ n. bit_or n 4 == 2) flag) (ap (λ n. is_active_flags (bit_or n 4)) flag) (λ q other. refl))

  by_unit : (o : Option Unit) → unit_at new page ≡ o → SettlesHolding new whole table
  by_unit None is = settles_by new whole table None (Beginning page) t (torn_found is) isolated_stays
  by_unit (Some Free) is = subst (λ image. SettlesHolding image whole table) (sym (none_done (free_head head is))) (whole_settles whole table t)
  by_unit (Some Isolated) is = absurd (front_whole h head cut.done valid flags is_front is)
  by_unit (Some (Extent g)) is = settled_header g is flags

  -- in each case the image mends to the files of the table
  pub torn_header_settles : SettlesHolding new whole table
  torn_header_settles = by_unit (unit_at new page) refl
