-- A walk goes from a free page to the next sector, since all pages up to there are free.
use Rattle.std.proofs.Common.{◌≡◌, ℕ, zero, suc, ◌+◌, ◌-◌, ◌*◌, ◌/◌, ◌%◌, ◌≤◌, ◌<◌, ⊎_elim, Bool, true, false, not, ◌&&◌, ◌||◌, ◌==◌, List, [], ◌∷◌, ◌++◌, length, replicate, get_or, Some, refl, ap, sym, subst, ◌∙◌, arith}
use Rattle.std.proofs.lemmas.Bool.{cases_lt}
use Rattle.padded.proofs.Facts.{some_same, true_or_false}
use Rattle.afl_base.specs.Image.{page_bytes}
use Rattle.coffee_layout.specs.Marks.{IsLowestRun, free_pages, pages_by}
use Rattle.coffee_layout.specs.Tiling.{KeepRules}
use Rattle.coffee_layout.specs.Units.{behind, is_active, is_free, pages_of, size_of, total}
use Rattle.coffee_layout.specs.declared.unit.Unit.{Unit}
use Rattle.coffee_layout.specs.declared.unit.Unit.TheVariants.{Free, Isolated, Extent}
use Rattle.coffee_layout.proofs.FreeSectors.{free_sector}
use Rattle.coffee_layout.proofs.Searches.{IsRead}
use Rattle.coffee_space.specs.Collection.{cut_pages, touches}
use Rattle.coffee_space.specs.Sectors.{Marks, is_marked}
use Rattle.coffee_space.specs.Steps.{IsolatesPages, unit_starts, is_chosen, is_part}
use Rattle.coffee_space.specs.declared.part.Part.{Part}
use Rattle.coffee_space.proofs.FreeRuns.{Walked, walked_used}
use Rattle.coffee_space.proofs.Isolating.{Isolating, isolating_next, isolating_reads, page_on}
use Rattle.coffee_space.proofs.SectorMarks.{Marked, Marking, is_used, marked_next}
use Rattle.coffee_space.proofs.Walks.{Ahead, read_same, stands}
use Rattle.coffee_layout.proofs.FreeBlocks.{mark_front, mark_behind, not_both}

pub or_false : (b : Bool) → b || false ≡ b
or_false true = refl
or_false false = refl

-- n free pages in front of others

pages_free : (test : Unit → Bool) (n : ℕ) (us : List Unit) → pages_by test (replicate n Free ++ us) ≡ replicate n (test Free) ++ pages_by test us
pages_free test zero us = refl
pages_free test (suc n) us = ap (λ t. test Free ∷ t) (pages_free test n us)

cuts_free : (taken : ℕ → Bool) (n page : ℕ) (us : List Unit) (i : ℕ) → i < n → get_or (cut_pages taken page (replicate n Free ++ us)) i false ≡ taken ((page + i) / 16)
cuts_free taken zero page us i h = absurd (omega arith)
cuts_free taken (suc n) page us zero h = let e : page ≡ page + 0 = omega arith in or_false (taken (page / 16)) ∙ ap (λ p. taken (p / 16)) e
cuts_free taken (suc n) page us (suc i) h = let e : page + 1 + i ≡ page + suc i = omega arith in cuts_free taken n (page + 1) us i (omega arith) ∙ ap (λ p. taken (p / 16)) e

cuts_past : (taken : ℕ → Bool) (n page : ℕ) (us : List Unit) (i : ℕ) → get_or (cut_pages taken page (replicate n Free ++ us)) (n + i) false ≡ get_or (cut_pages taken (page + n) us) i false
cuts_past taken zero page us i =
    let e : 0 + i ≡ i = omega arith in
    let f : page ≡ page + 0 = omega arith in
    ap (λ k. get_or (cut_pages taken page us) k false) e ∙ ap (λ p. get_or (cut_pages taken p us) i false) f
cuts_past taken (suc n) page us i =
    let e : suc n + i ≡ suc (n + i) = omega arith in
    let f : page + 1 + n ≡ page + suc n = omega arith in
    ap (λ k. get_or (cut_pages taken page (replicate (suc n) Free ++ us)) k false) e ∙ cuts_past taken n (page + 1) us i ∙ ap (λ p. get_or (cut_pages taken p us) i false) f

firsts_past : (n : ℕ) (us : List Unit) (i : ℕ) → get_or (unit_starts (replicate n Free ++ us)) (n + i) false ≡ get_or (unit_starts us) i false
firsts_past zero us i = let e : 0 + i ≡ i = omega arith in ap (λ k. get_or (unit_starts us) k false) e
firsts_past (suc n) us i = let e : suc n + i ≡ suc (n + i) = omega arith in ap (λ k. get_or (unit_starts (replicate (suc n) Free ++ us)) k false) e ∙ firsts_past n us i

-- n free pages stand at a page, and what is ahead behind them
pub record Span (building : ℕ → Bool) (image : List ℕ) (us : List Unit) (page n : ℕ) : Type 0 where
  pub next : Ahead building image us (page + n)
  pub marks : (test : Unit → Bool) (q : ℕ) → page ≤ q → q < page + n → get_or (pages_by test us) q false ≡ test Free
  pub cuts : (taken : ℕ → Bool) (q : ℕ) → page ≤ q → q < page + n → get_or (cut_pages taken 0 us) q false ≡ taken (q / 16)

span_at : (building : ℕ → Bool) (image : List ℕ) (us : List Unit) (page n : ℕ) (units rest : List Unit) → units ≡ replicate n Free ++ rest
    → KeepRules building image (page + n) true rest → page + n + total rest ≡ pages_of image
    → ((test : Unit → Bool) (i : ℕ) → get_or (pages_by test us) (page + i) false ≡ get_or (pages_by test units) i false)
    → ((taken : ℕ → Bool) (i : ℕ) → get_or (cut_pages taken 0 us) (page + i) false ≡ get_or (cut_pages taken page units) i false)
    → ((i : ℕ) → get_or (unit_starts us) (page + i) false ≡ get_or (unit_starts units) i false)
    → Span building image us page n
span_at building image us page n units rest front keep whole marks cuts firsts = record {
  next = record {
    after_free = true;
    rest = rest;
    keep = keep;
    whole = whole;
    marks = λ test i.
        let e : page + n + i ≡ page + (n + i) = omega arith in
        ap (λ k. get_or (pages_by test us) k false) e ∙ marks test (n + i) ∙ ap (λ vs. get_or (pages_by test vs) (n + i) false) front
        ∙ ap (λ ms. get_or ms (n + i) false) (pages_free test n rest) ∙ mark_behind (test Free) (pages_by test rest) n i;
    cuts = λ taken i.
        let e : page + n + i ≡ page + (n + i) = omega arith in
        ap (λ k. get_or (cut_pages taken 0 us) k false) e ∙ cuts taken (n + i) ∙ ap (λ vs. get_or (cut_pages taken page vs) (n + i) false) front ∙ cuts_past taken n page rest i;
    firsts = λ i.
        let e : page + n + i ≡ page + (n + i) = omega arith in
        ap (λ k. get_or (unit_starts us) k false) e ∙ firsts (n + i) ∙ ap (λ vs. get_or (unit_starts vs) (n + i) false) front ∙ firsts_past n rest i;
  };
  marks = λ test q low high.
      let e : q ≡ page + (q - page) = omega arith in
      ap (λ k. get_or (pages_by test us) k false) e ∙ marks test (q - page) ∙ ap (λ vs. get_or (pages_by test vs) (q - page) false) front
      ∙ ap (λ ms. get_or ms (q - page) false) (pages_free test n rest) ∙ mark_front (test Free) (pages_by test rest) n (q - page) (omega arith);
  cuts = λ taken q low high.
      let e : q ≡ page + (q - page) = omega arith in
      ap (λ k. get_or (cut_pages taken 0 us) k false) e ∙ cuts taken (q - page) ∙ ap (λ vs. get_or (cut_pages taken page vs) (q - page) false) front
      ∙ cuts_free taken n page rest (q - page) (omega arith) ∙ ap (λ p. taken (p / 16)) (sym e);
}

span_read : (building : ℕ → Bool) (image : List ℕ) (us : List Unit) (sectors page : ℕ) (after_free : Bool) (rest : List Unit) → pages_of image ≡ 16 * sectors → page < pages_of image → IsRead image page (Some Free)
    → KeepRules building image page after_free rest → page + total rest ≡ pages_of image
    → ((test : Unit → Bool) (i : ℕ) → get_or (pages_by test us) (page + i) false ≡ get_or (pages_by test rest) i false)
    → ((taken : ℕ → Bool) (i : ℕ) → get_or (cut_pages taken 0 us) (page + i) false ≡ get_or (cut_pages taken page rest) i false)
    → ((i : ℕ) → get_or (unit_starts us) (page + i) false ≡ get_or (unit_starts rest) i false)
    → Span building image us page (16 - page % 16)
span_read building image us sectors page after_free [] all before is keep whole marks cuts firsts = absurd (omega arith)
span_read building image us sectors page after_free (v ∷ rest) all before is keep whole marks cuts firsts =
    let free : v ≡ Free = some_same v Free (sym keep.0 ∙ sym (is building after_free keep.1)) in
    let sector = free_sector building image sectors page after_free rest all (subst (λ w. KeepRules building image page after_free (w ∷ rest)) free keep) (subst (λ w. page + total (w ∷ rest) ≡ pages_of image) free whole) in
    span_at building image us page (16 - page % 16) (v ∷ rest) sector.rest (ap (λ w. w ∷ rest) free ∙ sector.front) sector.keep sector.whole marks cuts firsts

-- where a free page is read, those up to the next sector are free
pub span : (building : ℕ → Bool) (image : List ℕ) (us : List Unit) (sectors page : ℕ) → pages_of image ≡ 16 * sectors → page < pages_of image → Ahead building image us page → IsRead image page (Some Free) → Span building image us page (16 - page % 16)
span building image us sectors page all before a is = span_read building image us sectors page a.after_free a.rest all before is a.keep a.whole a.marks a.cuts a.firsts

-- RUNS

walked_span : (building : ℕ → Bool) (image : List ℕ) (us : List Unit) (n page run more : ℕ) → run ≤ page → Span building image us page more → Walked building image us n page run → Walked building image us n (page + more) (run + more)
walked_span building image us n page run more low s w = record {
  ahead = s.next;
  free = λ i a b. ⊎_elim
      (λ (before : i < page). w.free i (omega arith) before)
      (λ (here : page ≤ i). s.marks is_free i here b)
      (cases_lt i page);
  none = λ k h r. w.none k (omega arith) r;
}

pub walked_behind : (building : ℕ → Bool) (image : List ℕ) (us : List Unit) (n sectors page run next more : ℕ) (u : Unit) → pages_of image ≡ 16 * sectors → page < pages_of image → run ≤ page → run < n → next ≡ behind page u
    → (is_free u ≡ true → more ≡ run + (next - page)) → (is_free u ≡ false → more ≡ 0) → IsRead image page (Some u) → Walked building image us n page run → Walked building image us n next more
walked_behind building image us n sectors page run next more Free all before low few at free used is w =
    let e : more ≡ run + (16 - page % 16) = omega (arith, free refl) in
    subst (λ p. Walked building image us n p more) (sym at) (subst (λ r. Walked building image us n (page + (16 - page % 16)) r) (sym e)
    (walked_span building image us n page run (16 - page % 16) low (span building image us sectors page all before w.ahead is) w))
walked_behind building image us n sectors page run next more Isolated all before low few at free used is w =
    subst (λ p. Walked building image us n p more) (sym at) (subst (λ r. Walked building image us n (page + 1) r) (sym (used refl))
    (walked_used building image us n page run Isolated low few refl (stands building image us page Isolated before w.ahead is) w))
walked_behind building image us n sectors page run next more (Extent h) all before low few at free used is w =
    subst (λ p. Walked building image us n p more) (sym at) (subst (λ r. Walked building image us n (page + h.max_pages) r) (sym (used refl))
    (walked_used building image us n page run (Extent h) low few refl (stands building image us page (Extent h) before w.ahead is) w))

-- the free pages just before a page are the lowest run of as many, and of fewer
pub walked_run : (building : ℕ → Bool) (image : List ℕ) (us : List Unit) (n page run : ℕ) → n ≤ run → run ≤ page → Walked building image us n page run → IsLowestRun (free_pages us) n (page - run)
walked_run building image us n page run enough low w = record {
  run = λ i a b. w.free i a (omega arith);
  lowest = λ k h r. w.none k h r;
}

-- MARKS

marking_span : (building : ℕ → Bool) (image : List ℕ) (us : List Unit) (test : Unit → Bool) (old new : List ℕ) (page n : ℕ) → test Free ≡ false → Span building image us page n → Marks old new (test Free) page 1 → Marking us test old page → Marking us test new (page + n)
marking_span building image us test old new page n none s m k = record {
  complete = λ i h t. ⊎_elim
      (λ (before : i < page). m.kept (i / 16) (k.complete i before t))
      (λ (here : page ≤ i). absurd (not_both (get_or (pages_by test us) i false) t (s.marks test i here h ∙ none)))
      (cases_lt i page);
  sound = λ q t. ⊎_elim
      (λ (was : is_marked old q ≡ true). k.sound q was)
      (λ (was : is_marked old q ≡ false). absurd (not_both (test Free) (m.only q t was).0 none))
      (true_or_false (is_marked old q));
}

pub marked_behind : (building : ℕ → Bool) (image : List ℕ) (us : List Unit) (used active used_new active_new : List ℕ) (sectors page : ℕ) (u : Unit) → pages_of image ≡ 16 * sectors → page < pages_of image → IsRead image page (Some u) → Marked building image us used active page
    → Marks used used_new (not (is_free u)) page (size_of u) → Marks active active_new (is_active u) page (size_of u) → Marked building image us used_new active_new (behind page u)
marked_behind building image us used active used_new active_new sectors page Free all before is k m n =
    let s = span building image us sectors page all before k.ahead is in
    record {
      ahead = s.next;
      used_marks = marking_span building image us is_used used used_new page (16 - page % 16) refl s m k.used_marks;
      active_marks = marking_span building image us is_active active active_new page (16 - page % 16) refl s n k.active_marks;
    }
marked_behind building image us used active used_new active_new sectors page Isolated all before is k m n =
    marked_next building image us used active used_new active_new page Isolated (stands building image us page Isolated before k.ahead is) k m n
marked_behind building image us used active used_new active_new sectors page (Extent h) all before is k m n =
    marked_next building image us used active used_new active_new page (Extent h) (stands building image us page (Extent h) before k.ahead is) k m n

-- ISOLATED PAGES

and_part : (t p : Bool) → (t && p) && not t ≡ false
and_part true true = refl
and_part true false = refl
and_part false p = refl

-- a free page is not isolated
free_kept : (taken : ℕ → Bool) (page : ℕ) (p : Bool) → (touches taken page 1 && p) && not (taken (page / 16)) ≡ false
free_kept taken page p = ap (λ b. (b && p) && not (taken (page / 16))) (or_false (taken (page / 16))) ∙ and_part (taken (page / 16)) p

isolating_span : (taken building : ℕ → Bool) (part : Part) (old now new : List ℕ) (us : List Unit) (page n : ℕ) → Span building old us page n → Isolating taken building part old now us page → 1 ≤ n
    → IsolatesPages taken part (touches taken page 1) now new page 1 → Isolating taken building part old new us (page + n)
isolating_span taken building part old now new us page n s i some pages =
    let stays : (q : ℕ) → page ≤ q → page_bytes new q ≡ page_bytes now q = λ q from. ⊎_elim
    (λ (here : q < page + 1).
    let e : page + 0 ≡ q = omega arith in
    let f : page ≡ page + 0 = omega arith in
    subst (λ p. page_bytes new p ≡ page_bytes now p) e ((pages.here 0 (omega arith)).kept (ap (λ p. (touches taken page 1 && is_part part (0 == 0)) && not (taken (p / 16))) (sym f) ∙ free_kept taken page (is_part part (0 == 0)))))
    (λ (past : page + 1 ≤ q). pages.others q (λ a b. absurd (omega arith)))
    (cases_lt q (page + 1)) in
    record {
      ahead = s.next;
      done = λ q h. ⊎_elim
          (λ (before : q < page). page_on (is_chosen taken part us q) old now new q (pages.others q (λ a b. absurd (omega arith))) (i.done q before))
          (λ (here : page ≤ q).
          let none : is_chosen taken part us q ≡ false = ap (λ c. (c && is_part part (get_or (unit_starts us) q false)) && not (taken (q / 16))) (s.cuts taken q here h) ∙ and_part (taken (q / 16)) (is_part part (get_or (unit_starts us) q false)) in
          record { isolated = λ w. absurd (not_both (is_chosen taken part us q) w none); kept = λ w. stays q here ∙ i.same q here })
          (cases_lt q page);
      same = λ q h. stays q (omega arith) ∙ i.same q (omega arith);
    }

pub isolating_behind : (taken building : ℕ → Bool) (part : Part) (old now new : List ℕ) (us : List Unit) (sectors page : ℕ) (u : Unit) → pages_of old ≡ 16 * sectors → length now ≡ length old → page < pages_of old → IsRead now page (Some u) → Isolating taken building part old now us page
    → IsolatesPages taken part (touches taken page (size_of u)) now new page (size_of u) → Isolating taken building part old new us (behind page u)
isolating_behind taken building part old now new us sectors page Free all long before is i pages =
    isolating_span taken building part old now new us page (16 - page % 16) (span building old us sectors page all before i.ahead (read_same old now page (Some Free) long (i.same page (omega arith)) is)) i (omega arith) pages
isolating_behind taken building part old now new us sectors page Isolated all long before is i pages =
    isolating_next taken building part old now new us page Isolated (isolating_reads taken building part old now us page Isolated long before i is) i pages
isolating_behind taken building part old now new us sectors page (Extent h) all long before is i pages =
    isolating_next taken building part old now new us page (Extent h) (isolating_reads taken building part old now us page (Extent h) long before i is) i pages
