-- An extent begins in the lowest run of free pages.
use Rattle.std.proofs.Common.{◌≡◌, ◌≢◌, inl, inr, ⊎_elim, ℕ, zero, suc, ◌+◌, ◌-◌, ◌*◌, ◌/◌, ◌%◌, ◌≤◌, ◌<◌, Bool, true, false, not, ◌&&◌, ◌==◌, nat_le, nat_lt, List, [], ◌∷◌, ◌++◌, length, take, replicate, get_or, Option, None, Some, refl, ap, sym, subst, ◌∙◌, arith}
use Rattle.std.specs.List.{list_all}
use Rattle.std.proofs.lemmas.Bool.{cases_eq, cases_lt}
use Rattle.std.proofs.lemmas.List.{ext_get_or, get_or-take, length-append, length-replicate, length-take-le}
use Rattle.padded.proofs.Facts.{both_parts, true_or_false, lt_false, true_le, true_eq, yes_no}
use Rattle.afl_base.specs.Fields.{u16_bytes}
use Rattle.afl_base.specs.Image.{or_at, page_bytes}
use Rattle.afl_base.specs.Names.{is_file_name, is_name_byte}
use Rattle.afl_base.proofs.Images.{byte_in_page, length_or_at, length_range, or_at_range, range_at}
use Rattle.coffee_header.specs.Headers.{IsValid, header_bytes}
use Rattle.padded.specs.Zeros.{is_zeros}
use Rattle.coffee_header.specs.declared.header.Header.{Header}
use Rattle.coffee_header.proofs.HeaderLaws.{header_back}
use Rattle.coffee_layout.specs.Marks.{IsLowestRun, free_pages}
use Rattle.coffee_layout.specs.Tiling.{IsTiled, KeepRules, broken_at, broken_unit, units_of}
use Rattle.coffee_layout.specs.Units.{is_active_flags, is_free, pages_of, size_of, total, unit_at, unit_of}
use Rattle.coffee_layout.specs.declared.unit.Unit.{Unit}
use Rattle.coffee_layout.specs.declared.unit.Unit.TheVariants.{Free, Isolated, Extent}
use Rattle.coffee_layout.proofs.Frames.{ends_free, keep_rest, replaced, total-append}
use Rattle.coffee_layout.proofs.FreeBlocks.{free_block}
use Rattle.coffee_layout.proofs.MarkLaws.{mark_front, mark_rest, mark_unit}
use Rattle.coffee_layout.proofs.Tests.{eq_false}
use Rattle.coffee_layout.proofs.Tilings.{units_tiled}
use Rattle.flash_range.proofs.Ranges.{or_on_zero, or_outside}
use Rattle.flash_range.specs.Range.{Outside}
use Rattle.coffee_merge.specs.Begun.{active_at, active_header, unit_begun}
use Rattle.coffee_merge.proofs.Begun.{HavePages, active_begun, begun_active, begun_inside, begun_marks, begun_replaced, have_pages, pages_front}
use Rattle.coffee_merge.proofs.HeaderMarks.{header_unit}

-- FREE PAGES

total_free : (n : ℕ) → total (replicate n Free) ≡ n
total_free zero = refl
total_free (suc n) = omega (arith, total_free n)

free_zero : (building zeros : Bool) (pages page : ℕ) (free : Bool) → broken_unit building zeros pages page free (Some Free) ≡ None → zeros ≡ true
free_zero building true pages page free e = refl
free_zero building false pages page free e = cc

-- the pages of free units are all zero
free_zeros : (building : ℕ → Bool) (image : List ℕ) (n page : ℕ) (free : Bool) (rest : List Unit) → KeepRules building image page free (replicate n Free ++ rest) → (q : ℕ) → page ≤ q → q < page + n → is_zeros (page_bytes image q) ≡ true
free_zeros building image zero page free rest k q low high = absurd (omega arith)
free_zeros building image (suc n) page free rest k q low high =
    ⊎_elim
    (λ (here : page ≡ q).
    subst (λ p. is_zeros (page_bytes image p) ≡ true) here
    (free_zero (building page) (is_zeros (page_bytes image page)) (pages_of image) page free (sym (ap (broken_unit (building page) (is_zeros (page_bytes image page)) (pages_of image) page free) k.0) ∙ k.1)))
    (λ (there : page ≢ q). free_zeros building image n (page + 1) true rest k.2 q (omega arith) (omega arith))
    (cases_eq page q)

pub zero_at : (xs : List ℕ) (i : ℕ) → is_zeros xs ≡ true → get_or xs i 0 ≡ 0
zero_at [] i all = refl
zero_at (x ∷ xs) zero all = true_eq x 0 (both_parts (x == 0) (list_all (λ b. b == 0) xs) all).0
zero_at (x ∷ xs) (suc i) all = zero_at xs i (both_parts (x == 0) (list_all (λ b. b == 0) xs) all).1

page_zero : (image : List ℕ) (k : ℕ) → is_zeros (page_bytes image (k / 256)) ≡ true → get_or image k 0 ≡ 0
page_zero image k all = byte_in_page image k ∙ zero_at (page_bytes image (k / 256)) (k % 256) all

-- nothing that is active begins at a free page
pub free_inactive : (us : List Unit) (page : ℕ) → HavePages us → get_or (free_pages us) page false ≡ true → active_at us page ≡ None
free_inactive us page h free = of_unit (unit_begun us 0 page) refl
  where
    of_unit : (o : Option Unit) → unit_begun us 0 page ≡ o → active_header o ≡ None
    of_unit None is = refl
    of_unit (Some Free) is = refl
    of_unit (Some Isolated) is = refl
    of_unit (Some (Extent g)) is = yes_no (get_or (free_pages us) page false) free (let some = begun_inside us page (Extent g) h is in begun_marks is_free us page (Extent g) page is (omega arith) (omega arith))

-- nor has an active extent a free page
pub free_apart : (us : List Unit) (page : ℕ) (g : Header) (q : ℕ) → active_at us page ≡ Some g → page ≤ q → q < page + g.max_pages → get_or (free_pages us) q false ≡ true → ⊥
free_apart us page g q is low high free =
    yes_no (get_or (free_pages us) q false) free (begun_marks is_free us page (Extent g) q (active_begun us page g is).0 low high)

-- THE PAGE BEFORE A LOWEST RUN

-- the last page of units that end with a free page is free
pub ends_mark : (u : Unit) (us : List Unit) → HavePages (u ∷ us) → ends_free (is_free u) us ≡ true → get_or (free_pages (u ∷ us)) (total (u ∷ us) - 1) false ≡ true
ends_mark u [] h e =
    let some = h.0 in
    let last : total (u ∷ []) - 1 ≡ total [] + (size_of u - 1) = omega arith in
    ap (λ k. get_or (free_pages (u ∷ [])) k false) last ∙ mark_unit is_free [] [] u (size_of u - 1) (omega arith) ∙ e
ends_mark u (v ∷ vs) h e =
    let some = h.0 in
    let more = h.1.0 in
    let back : total (u ∷ v ∷ vs) - 1 - total (u ∷ []) ≡ total (v ∷ vs) - 1 = omega arith in
    mark_rest is_free (u ∷ []) (v ∷ vs) (total (u ∷ v ∷ vs) - 1) (omega arith) ∙ ap (λ k. get_or (free_pages (v ∷ vs)) k false) back ∙ ends_mark v vs h.1 e

-- so that before a lowest run is not free
pub lowest_front : (front others : List Unit) (n : ℕ) → HavePages front → IsLowestRun (free_pages (front ++ others)) n (total front) → ends_free false front ≡ false
lowest_front [] others n h low = refl
lowest_front (u ∷ us) others n h low =
    let some = h.0 in
    ⊎_elim
    (λ (free : ends_free (is_free u) us ≡ true).
    absurd (low.lowest (total (u ∷ us) - 1) (omega arith) (λ i from to. ⊎_elim
    (λ (a : i < total (u ∷ us)).
    let last : i ≡ total (u ∷ us) - 1 = omega arith in
    mark_front is_free (u ∷ us) others i a ∙ ap (λ k. get_or (free_pages (u ∷ us)) k false) last ∙ ends_mark u us h free)
    (λ (a : total (u ∷ us) ≤ i). low.run i a (omega arith))
    (cases_lt i (total (u ∷ us))))))
    (λ (used : ends_free (is_free u) us ≡ false). used)
    (true_or_false (ends_free (is_free u) us))

-- HEADERS

name_short : (name : List ℕ) → is_file_name name ≡ true → length name ≤ 15
name_short name good =
    true_le (length name) 15 (both_parts (nat_le 1 (length name)) (nat_le (length name) 15) (both_parts (nat_le 1 (length name) && nat_le (length name) 15) (list_all is_name_byte name) good).0).1

pub length-header_bytes : (h : Header) → is_file_name h.name ≡ true → length (header_bytes h) ≡ 32
unfolding header_bytes u16_bytes
length-header_bytes h good = omega (arith, name_short h.name good, length-append h.name (replicate (22 - length h.name) 0), length-replicate {A = ℕ} (22 - length h.name) 0)

-- a header that is programmed into a page of zeros begins an extent
header_begins : (old : List ℕ) (page : ℕ) (h : Header) → IsValid h → 256 * page + 256 ≤ length old → is_zeros (page_bytes old page) ≡ true → unit_at (or_at old (256 * page) (header_bytes h)) page ≡ Some (Extent h)
header_begins old page h valid exists zeros =
    let size = length-header_bytes h valid.name in
    let new = or_at old (256 * page) (header_bytes h) in
    let long : length (page_bytes new page) ≡ 256 = omega (arith, length_range new (256 * page) (256 * page + 256) (omega (arith, length_or_at old (256 * page) (header_bytes h)))) in
    let head : length (take 32 (page_bytes new page)) ≡ 32 = length-take-le 32 (page_bytes new page) (omega arith) in
    let front : take 32 (page_bytes new page) ≡ header_bytes h =
    ext_get_or 0 (take 32 (page_bytes new page)) (header_bytes h) (omega arith) (λ k low.
    get_or-take 32 (page_bytes new page) k 0 (omega arith)
    ∙ range_at new (256 * page) (256 * page + 256) k (omega arith)
    ∙ or_on_zero old (256 * page) (header_bytes h) k (omega arith) (omega arith)
    (let there : page ≡ (256 * page + k) / 256 = omega arith in page_zero old (256 * page + k) (subst (λ p. is_zeros (page_bytes old p) ≡ true) there zeros))) in
    ap unit_of front ∙ header_unit (header_bytes h) h (omega arith) (header_back h valid)

extent_rules : (building zeros : Bool) (pages page : ℕ) (h : Header) → h.flags == 2 && not building ≡ false → 1 ≤ h.max_pages → page + h.max_pages ≤ pages → broken_unit building zeros pages page false (Some (Extent h)) ≡ None
extent_rules building zeros pages page h allowed some inside =
    let least : h.max_pages == 0 ≡ false = eq_false h.max_pages 0 (λ e. omega arith) in
    let fits : nat_lt pages (page + h.max_pages) ≡ false = lt_false pages (page + h.max_pages) inside in
    rw (allowed, least, fits) refl

-- THE EXTENT

-- an extent has come into free pages, which hold zeros behind its header; all else is as before
pub record IsBegun (building : ℕ → Bool) (old new : List ℕ) (us : List Unit) (page : ℕ) (h : Header) : Type 0 where
  pub tiled : IsTiled building new (units_of new)
  pub here : active_at (units_of new) page ≡ Some h
  pub others : (q : ℕ) → q ≢ page → active_at (units_of new) q ≡ active_at us q
  pub units : (q : ℕ) → (page ≤ q → q < page + h.max_pages → ⊥) → unit_begun (units_of new) 0 q ≡ unit_begun us 0 q
  pub none : active_at us page ≡ None
  pub apart : (q : ℕ) (g : Header) → active_at us q ≡ Some g → (p : ℕ) → q ≤ p → p < q + g.max_pages → page ≤ p → p < page + h.max_pages → ⊥
  pub zeros : (k : ℕ) → 256 * page + 32 ≤ k → k < 256 * (page + h.max_pages) → get_or new k 0 ≡ 0
  pub same : (k : ℕ) → Outside (256 * page) 32 k → get_or new k 0 ≡ get_or old k 0

begun_block : (building other : ℕ → Bool) (old new : List ℕ) (front rest : List Unit) (h : Header) → IsTiled building old (front ++ (replicate h.max_pages Free ++ rest)) → 1 ≤ h.max_pages
    → IsLowestRun (free_pages (front ++ (replicate h.max_pages Free ++ rest))) h.max_pages (total front) → new ≡ or_at old (256 * total front) (header_bytes h) → IsValid h → is_active_flags h.flags ≡ true
    → h.flags == 2 && not (other (total front)) ≡ false → ((q : ℕ) → q ≢ total front → building q ≡ other q)
    → IsBegun other old new (front ++ (replicate h.max_pages Free ++ rest)) (total front) h
begun_block building other old new front rest h tiled some low is valid active allowed same =
    let us = front ++ (replicate h.max_pages Free ++ rest) in
    let vs = front ++ (Extent h ∷ rest) in
    let block : total (replicate h.max_pages Free) ≡ h.max_pages = total_free h.max_pages in
    let whole : 256 * (total front + (h.max_pages + total rest)) ≡ length old =
    ap (λ n. 256 * n) (sym (total-append front (replicate h.max_pages Free ++ rest) ∙ ap (λ n. total front + n) (total-append (replicate h.max_pages Free) rest ∙ ap (λ n. n + total rest) block))) ∙ tiled.whole in
    let long : length new ≡ length old = ap length is ∙ length_or_at old (256 * total front) (header_bytes h) in
    let size = length-header_bytes h valid.name in
    let pages = have_pages building old us tiled in
    let behind : KeepRules building old (total front) (ends_free false front) (replicate h.max_pages Free ++ rest) = keep_rest building old front (replicate h.max_pages Free ++ rest) 0 (total front) false (omega arith) tiled.keep in
    let zeros : (q : ℕ) → total front ≤ q → q < total front + h.max_pages → is_zeros (page_bytes old q) ≡ true = free_zeros building old h.max_pages (total front) (ends_free false front) rest behind in
    let unit : unit_at new (total front) ≡ Some (Extent h) = ap (λ i. unit_at i (total front)) is ∙ header_begins old (total front) h valid (omega arith) (zeros (total front) (omega arith) (omega arith)) in
    let used : ends_free false front ≡ false = lowest_front front (replicate h.max_pages Free ++ rest) h.max_pages (pages_front front (replicate h.max_pages Free ++ rest) pages) low in
    let kept : broken_at other new (total front) (ends_free false front) ≡ None =
    ap (broken_unit (other (total front)) (is_zeros (page_bytes new (total front))) (pages_of new) (total front) (ends_free false front)) unit
    ∙ ap (λ f. broken_unit (other (total front)) (is_zeros (page_bytes new (total front))) (pages_of new) (total front) f (Some (Extent h))) used
    ∙ extent_rules (other (total front)) (is_zeros (page_bytes new (total front))) (pages_of new) (total front) h allowed some (omega arith) in
    let after : IsTiled other new vs =
    replaced building other old new front (replicate h.max_pages Free) rest (Extent h) tiled long
    (λ q out. ap (λ i. page_bytes i q) is ∙ or_at_range old (256 * total front) (header_bytes h) (256 * q) (256 * q + 256) (⊎_elim (λ (a : q < total front). inl (omega arith)) (λ (a : total front + total (replicate h.max_pages Free) ≤ q). inr (omega arith)) out))
    (λ q out. same q (λ e. ⊎_elim (λ (a : q < total front). omega arith) (λ (a : total front + total (replicate h.max_pages Free) ≤ q). omega arith) out))
    (sym block) refl unit kept in
    let units : units_of new ≡ vs = units_tiled other new vs after in
    let swap = begun_replaced front (replicate h.max_pages Free) rest (Extent h) pages (have_pages other new vs after) (sym block) in
    let bytes : (k : ℕ) → Outside (256 * total front) 32 k → get_or new k 0 ≡ get_or old k 0 =
    λ k out. ap (λ i. get_or i k 0) is ∙ or_outside old (256 * total front) (header_bytes h) k (λ a b. out a (omega arith)) in
    record {
      tiled = subst (IsTiled other new) (sym units) after;
      here = ap (λ t. active_at t (total front)) units ∙ begun_active vs (total front) h swap.here active;
      others = λ q apart. ap (λ t. active_at t q) units ∙ ⊎_elim
          (λ (a : q < total front). ap active_header (swap.before q a))
          (λ (a : total front ≤ q). ⊎_elim
          (λ (b : q < total front + h.max_pages). ap active_header (swap.inside q (omega arith) (omega arith)) ∙ sym (free_inactive us q pages (low.run q a b)))
          (λ (b : total front + h.max_pages ≤ q). ap active_header (swap.behind q (omega arith)))
          (cases_lt q (total front + h.max_pages)))
          (cases_lt q (total front));
      units = λ q out. ap (λ t. unit_begun t 0 q) units ∙ ⊎_elim
          (λ (a : q < total front). swap.before q a)
          (λ (a : total front ≤ q). ⊎_elim
          (λ (b : q < total front + h.max_pages). absurd (out a b))
          (λ (b : total front + h.max_pages ≤ q). swap.behind q (omega arith))
          (cases_lt q (total front + h.max_pages)))
          (cases_lt q (total front));
      none = free_inactive us (total front) pages (low.run (total front) (omega arith) (omega arith));
      apart = λ q g at p a b c d. free_apart us q g p at a b (low.run p c d);
      zeros = λ k a b. bytes k (λ x y. omega arith) ∙ page_zero old k (zeros (k / 256) (omega arith) (omega arith));
      same = bytes;
    }

-- the header of an extent is programmed into the lowest run of as many free pages
pub begun_lowest : (building other : ℕ → Bool) (old new : List ℕ) (us : List Unit) (page : ℕ) (h : Header) → IsTiled building old us → 1 ≤ h.max_pages → IsLowestRun (free_pages us) h.max_pages page
    → new ≡ or_at old (256 * page) (header_bytes h) → IsValid h → is_active_flags h.flags ≡ true → h.flags == 2 && not (other page) ≡ false → ((q : ℕ) → q ≢ page → building q ≡ other q)
    → IsBegun other old new us page h
begun_lowest building other old new us page h tiled some low =
    let block = free_block building old us 0 false page h.max_pages some tiled.keep low.run in
    subst (λ p. new ≡ or_at old (256 * p) (header_bytes h) → IsValid h → is_active_flags h.flags ≡ true → h.flags == 2 && not (other p) ≡ false → ((q : ℕ) → q ≢ p → building q ≡ other q) → IsBegun other old new us p h) block.place
    (λ is valid active allowed same. subst (λ t. IsBegun other old new t (total block.front) h) (sym block.whole)
    (begun_block building other old new block.front block.rest h (subst (IsTiled building old) block.whole tiled) some
    (subst (λ t. IsLowestRun (free_pages t) h.max_pages (total block.front)) block.whole (subst (IsLowestRun (free_pages us) h.max_pages) (sym block.place) low)) is valid active allowed same))
