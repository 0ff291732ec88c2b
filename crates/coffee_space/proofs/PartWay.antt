-- A collection that breaks off: the image is tiled by units of which some have given way, and keeps the active extents.
use Rattle.std.proofs.Common.{◌≡◌, ℕ, zero, suc, ◌+◌, ◌-◌, ◌*◌, ◌/◌, ◌≤◌, ◌<◌, ◌⊎◌, inl, inr, ⊎_elim, Bool, true, false, not, ◌&&◌, ◌||◌, ◌==◌, nat_lt, List, [], ◌∷◌, ◌++◌, length, replicate, take, get_or, if◌then◌else◌, refl, ap, sym, subst, ◌∙◌, arith}
use Rattle.std.proofs.lemmas.Bool.{cases_lt}
use Rattle.padded.proofs.Facts.{both_parts, true_or_false, lt_false, true_eq, neither, other_side}
use Rattle.afl_base.specs.Cuts.{IsCutErase}
use Rattle.afl_base.specs.Image.{or_at, page_bytes, zeros_at}
use Rattle.afl_base.proofs.Images.{erased_other_page, erased_page, length_range, length_zeros_at, zeros_at_range}
use Rattle.coffee_layout.specs.Marks.{active_pages, is_taken}
use Rattle.coffee_layout.specs.Tiling.{IsTiled, units_of}
use Rattle.coffee_layout.specs.Units.{pages_of, size_of, total, unit_of}
use Rattle.coffee_layout.specs.declared.unit.Unit.{Unit}
use Rattle.coffee_layout.specs.declared.unit.Unit.TheVariants.{Free, Isolated}
use Rattle.coffee_layout.proofs.Tests.{eq_false, false_eq, false_lt}
use Rattle.coffee_layout.proofs.Tilings.{units_tiled}
use Rattle.coffee_space.specs.Collection.{KeepsActive, cut_pages, pages_left, touches}
use Rattle.coffee_space.proofs.ActiveExtents.{keeps_active}
use Rattle.coffee_space.specs.Cutting.{IsCutOff, IsLoose, begun_pages}
use Rattle.coffee_space.specs.Steps.{Erases, ErasesFrom, ErasesSome, Isolates, IsolatesSome, StaysOrIsolated, unit_starts, is_chosen}
use Rattle.coffee_space.specs.declared.part.Part.TheVariants.{Behind, Header}
use Rattle.coffee_space.proofs.Beginning.{begins, heads_same, is_head, tiled_beginning}
use Rattle.coffee_space.proofs.Collected.{chosen_parts}
use Rattle.coffee_space.proofs.ExtentsLeft.{extents_after}
use Rattle.coffee_space.proofs.Isolating.{touches_true}
use Rattle.coffee_space.proofs.MarksLeft.{active_apart, cut_active}
use Rattle.coffee_space.proofs.UnitsLeft.{Giving, Left, given_pages, isolated_unit, tiled_after, touches_single, units_after}
use Rattle.coffee_space.proofs.Walks.{firsts_behind, firsts_front}
use Rattle.coffee_layout.proofs.FreeBlocks.{mark_front, mark_behind, not_both}

-- the unit that a page belongs to, and the unit's first page
pub record Here (us : List Unit) (page i : ℕ) : Type 0 where
  pub unit : Unit
  pub first : ℕ
  pub low : first ≤ page + i
  pub high : page + i < first + size_of unit
  pub cuts : (taken : ℕ → Bool) → get_or (cut_pages taken page us) i false ≡ touches taken first (size_of unit)
  pub given : (gives : ℕ → ℕ → Bool) → get_or (given_pages gives page us) i false ≡ gives first (size_of unit)
  pub firsts : get_or (unit_starts us) i false ≡ (page + i - first == 0)

pub here_at : (us : List Unit) (page i : ℕ) → i < total us → Here us page i
here_at [] page i h = absurd (omega arith)
here_at (u ∷ us) page i h = ⊎_elim
    (λ (here : i < size_of u).
    let e : page + i - page ≡ i = omega arith in
    record {
      unit = u;
      first = page;
      low = omega arith;
      high = omega arith;
      cuts = λ taken. mark_front (touches taken page (size_of u)) (cut_pages taken (page + size_of u) us) (size_of u) i here;
      given = λ gives. mark_front (gives page (size_of u)) (given_pages gives (page + size_of u) us) (size_of u) i here;
      firsts = firsts_front (unit_starts us) (size_of u) i here ∙ ap (λ k. k == 0) (sym e);
    })
    (λ (past : size_of u ≤ i).
    let e : size_of u + (i - size_of u) ≡ i = omega arith in
    let f : page + size_of u + (i - size_of u) ≡ page + i = omega arith in
    let there = here_at us (page + size_of u) (i - size_of u) (omega arith) in
    record {
      unit = there.unit;
      first = there.first;
      low = omega (arith, there.low);
      high = omega (arith, there.high);
      cuts = λ taken. ap (λ k. get_or (cut_pages taken page (u ∷ us)) k false) (sym e) ∙ mark_behind (touches taken page (size_of u)) (cut_pages taken (page + size_of u) us) (size_of u) (i - size_of u) ∙ there.cuts taken;
      given = λ gives. ap (λ k. get_or (given_pages gives page (u ∷ us)) k false) (sym e) ∙ mark_behind (gives page (size_of u)) (given_pages gives (page + size_of u) us) (size_of u) (i - size_of u) ∙ there.given gives;
      firsts = ap (λ k. get_or (unit_starts (u ∷ us)) k false) (sym e) ∙ firsts_behind (unit_starts us) (size_of u) (i - size_of u) ∙ there.firsts ∙ ap (λ k. k - there.first == 0) f;
    })
    (cases_lt i (size_of u))

-- cut units of which a test of their first page says whether they have given way
abbrev pub part_way : (taken test : ℕ → Bool) → (page n : ℕ) → Bool
part_way taken test page n = touches taken page n && test page

-- the sectors that are gone are erased, and cut units that pass the test have given way
pub record PartWay (taken gone test : ℕ → Bool) (old new : List ℕ) (us : List Unit) : Type 0 where
  pub within : (s : ℕ) → gone s ≡ true → taken s ≡ true
  pub begun : (p : ℕ) → gone (p / 16) ≡ true → test p ≡ true
  pub upward : (p q : ℕ) → test p ≡ true → p ≤ q → taken (q / 16) ≡ true → gone (q / 16) ≡ true
  pub erased : (q : ℕ) → q < pages_of old → gone (q / 16) ≡ true → page_bytes new q ≡ replicate 256 0
  pub behind : (q : ℕ) → taken (q / 16) ≡ false → get_or (cut_pages taken 0 us) q false ≡ true → get_or (unit_starts us) q false ≡ false → page_bytes new q ≡ or_at (page_bytes old q) 9 (34 ∷ [])
  pub head : (q : ℕ) → taken (q / 16) ≡ false → get_or (cut_pages taken 0 us) q false ≡ true → get_or (unit_starts us) q false ≡ true → test q ≡ true → page_bytes new q ≡ or_at (page_bytes old q) 9 (34 ∷ [])
  pub stays : (q : ℕ) → gone (q / 16) ≡ false → get_or (unit_starts us) q false ≡ true → get_or (cut_pages taken 0 us) q false && test q ≡ false → page_bytes new q ≡ page_bytes old q
  pub others : (q : ℕ) → taken (q / 16) ≡ false → get_or (cut_pages taken 0 us) q false ≡ false → page_bytes new q ≡ page_bytes old q

giving_part : (taken gone test : ℕ → Bool) (old new : List ℕ) (us : List Unit) → PartWay taken gone test old new us → Giving (part_way taken test) gone
giving_part taken gone test old new us w = record {
  stays = λ page n some none. ⊎_elim
      (λ (t : gone (page / 16) ≡ true).
      let is : part_way taken test page n ≡ true = rw (touches_true taken page n (omega arith) (w.within (page / 16) t), w.begun page t) refl in
      absurd (not_both (part_way taken test page n) is none))
      (λ (t : gone (page / 16) ≡ false). t)
      (true_or_false (gone (page / 16)));
  single = λ page g.
      let parts = both_parts (touches taken page 1) (test page) g in
      w.upward page page parts.1 (omega arith) (touches_single taken page parts.0);
}

first_is : (us : List Unit) (i : ℕ) (h : Here us 0 i) → get_or (unit_starts us) i false ≡ true → h.first ≡ i
first_is us i h f =
    let low = h.low in
    let e = true_eq (0 + i - h.first) 0 (sym h.firsts ∙ f) in
    omega arith

left_part : (taken gone test : ℕ → Bool) (old new : List ℕ) (us : List Unit) → PartWay taken gone test old new us → Left (part_way taken test) gone old new 0 us
left_part taken gone test old new us w = record {
  erased = w.erased;
  isolated = λ i inside out g.
      let e : i ≡ 0 + i = omega arith in
      let h = here_at us 0 i inside in
      let parts = both_parts (touches taken h.first (size_of h.unit)) (test h.first) (sym (h.given (part_way taken test)) ∙ g) in
      let cut = h.cuts taken ∙ parts.0 in
      let low : h.first ≤ i = omega (arith, h.low) in
      let here : gone (i / 16) ≡ false = subst (λ q. gone (q / 16) ≡ false) (sym e) out in
      let apart : taken (i / 16) ≡ false = ⊎_elim
      (λ (t : taken (i / 16) ≡ true). absurd (not_both (gone (i / 16)) (w.upward h.first i parts.1 low t) here))
      (λ (t : taken (i / 16) ≡ false). t)
      (true_or_false (taken (i / 16))) in
      subst (λ q. page_bytes new q ≡ or_at (page_bytes old q) 9 (34 ∷ [])) e
      (⊎_elim
      (λ (f : get_or (unit_starts us) i false ≡ true). w.head i apart cut f (ap test (sym (first_is us i h f)) ∙ parts.1))
      (λ (f : get_or (unit_starts us) i false ≡ false). w.behind i apart cut f)
      (true_or_false (get_or (unit_starts us) i false)));
  kept = λ i inside out g f.
      let e : i ≡ 0 + i = omega arith in
      let h = here_at us 0 i inside in
      let none : get_or (cut_pages taken 0 us) i false && test i ≡ false =
      ap (λ c. c && test i) (h.cuts taken) ∙ ap (λ p. touches taken h.first (size_of h.unit) && test p) (sym (first_is us i h f)) ∙ sym (h.given (part_way taken test)) ∙ g in
      subst (λ q. page_bytes new q ≡ page_bytes old q) e (w.stays i (subst (λ q. gone (q / 16) ≡ false) (sym e) out) f none);
}

-- no active page lies in a taken sector, or is cut
active_whole : (taken : ℕ → Bool) (us : List Unit) → ((s : ℕ) → taken s ≡ is_taken us s) → (page : ℕ) → get_or (active_pages us) page false ≡ true → (taken (page / 16) ≡ false) × (get_or (cut_pages taken 0 us) page false ≡ false)
active_whole taken us same page a = (
  same (page / 16) ∙ active_apart us page a,
  cut_active taken us 0 page (λ k m. let f : 0 + k ≡ k = omega arith in ap (λ q. taken (q / 16)) f ∙ same (k / 16) ∙ active_apart us k m) a,
)

pub keeps_part : (taken gone test building : ℕ → Bool) (old new : List ℕ) (us : List Unit) → ((s : ℕ) → taken s ≡ is_taken us s) → length new ≡ length old → IsTiled building old us → PartWay taken gone test old new us → KeepsActive building old new us
keeps_part taken gone test building old new us same long tiled w = keeps_active building old new us (units_after (part_way taken test) gone 0 us)
    (tiled_after (part_way taken test) gone building old new us (giving_part taken gone test old new us w) long tiled (left_part taken gone test old new us w))
    (extents_after (part_way taken test) taken gone us 0 (λ p n g. (both_parts (touches taken p n) (test p) g).0) (λ k m. let f : 0 + k ≡ k = omega arith in ap (λ q. taken (q / 16)) f ∙ (active_whole taken us same k m).0))
    (λ page a. let whole = active_whole taken us same page a in w.others page whole.0 whole.1)

-- STEP 1: PAGES BEHIND HEADERS ARE ISOLATED

after_none : (us : List Unit) (page : ℕ) → units_after (λ p n. false) (λ s. false) page us ≡ us
after_none [] page = refl
after_none (u ∷ us) page = ap (λ vs. u ∷ vs) (after_none us (page + size_of u))

unchosen_stays : (chosen : Bool) (old new : List ℕ) (page : ℕ) → chosen ≡ false → StaysOrIsolated chosen old new page → page_bytes new page ≡ page_bytes old page
unchosen_stays chosen old new page none (inl same) = same
unchosen_stays chosen old new page none (inr isolated) = absurd (not_both chosen isolated.0 none)

first_unchosen : (c f t : Bool) → f ≡ true → (c && not f) && t ≡ false
first_unchosen true f t e = rw e refl
first_unchosen false f t e = refl

whole_unchosen : (c f t : Bool) → c ≡ false → (c && f) && t ≡ false
whole_unchosen c f t e = rw e refl

pub keeps_behind : (taken building : ℕ → Bool) (old new : List ℕ) (us : List Unit) → ((s : ℕ) → taken s ≡ is_taken us s) → length new ≡ length old → IsTiled building old us → IsolatesSome taken Behind old new us → KeepsActive building old new us
keeps_behind taken building old new us same long tiled i =
    let stays : (q : ℕ) → is_chosen taken Behind us q ≡ false → page_bytes new q ≡ page_bytes old q = λ q none. unchosen_stays (is_chosen taken Behind us q) old new q none (i q) in
    let left : Left (λ p n. false) (λ s. false) old new 0 us = record {
      erased = λ q h (t : false ≡ true). cc;
      isolated = λ k inside out g. absurd (not_both (get_or (given_pages (λ p n. false) 0 us) k false) g ((here_at us 0 k inside).given (λ p n. false)));
      kept = λ k inside out g f.
          let e : k ≡ 0 + k = omega arith in
          subst (λ q. page_bytes new q ≡ page_bytes old q) e (stays k (first_unchosen (get_or (cut_pages taken 0 us) k false) (get_or (unit_starts us) k false) (not (taken (k / 16))) f));
    } in
    keeps_active building old new us us
    (subst (λ vs. IsTiled building new vs) (after_none us 0) (tiled_after (λ p n. false) (λ s. false) building old new us (record { stays = λ page n some none. refl; single = λ page (g : false ≡ true). cc }) long tiled left))
    refl
    (λ page a. stays page (whole_unchosen (get_or (cut_pages taken 0 us) page false) (not (get_or (unit_starts us) page false)) (not (taken (page / 16))) (active_whole taken us same page a).1))

-- STEP 2: SECTORS ARE ERASED FROM THE LAST ON

abbrev pub gone_from : (taken : ℕ → Bool) → (sector s : ℕ) → Bool
gone_from taken sector s = taken s && not (nat_lt s sector)

gone_is : (taken : ℕ → Bool) (sector s : ℕ) → taken s ≡ true → sector ≤ s → gone_from taken sector s ≡ true
gone_is taken sector s t low = rw (t, lt_false s sector low) refl

gone_low : (taken : ℕ → Bool) (sector s : ℕ) → gone_from taken sector s ≡ true → sector ≤ s
gone_low taken sector s g = false_lt s sector (negated (nat_lt s sector) (both_parts (taken s) (not (nat_lt s sector)) g).1)
  where
    negated : (b : Bool) → not b ≡ true → b ≡ false
    negated true e = cc
    negated false e = refl

behind_chosen : (c f t : Bool) → c ≡ true → f ≡ false → t ≡ false → (c && not f) && not t ≡ true
behind_chosen c f t ce fe te = rw (ce, fe, te) refl

erasing_part : (taken : ℕ → Bool) (old mid new : List ℕ) (us : List Unit) (sector : ℕ) → length mid ≡ length old → Isolates taken Behind old mid us → ErasesFrom taken mid new sector → PartWay taken (gone_from taken sector) (λ p. gone_from taken sector (p / 16)) old new us
erasing_part taken old mid new us sector long i e =
    let untaken : (q : ℕ) → taken (q / 16) ≡ false → page_bytes new q ≡ page_bytes mid q = λ q t. e.kept q (λ low u. absurd (not_both (taken (q / 16)) u t)) in
    let unchosen : (q : ℕ) → is_chosen taken Behind us q ≡ false → page_bytes mid q ≡ page_bytes old q = λ q none. (i q).kept none in
    record {
      within = λ s g. (both_parts (taken s) (not (nat_lt s sector)) g).0;
      begun = λ p g. g;
      upward = λ p q g low t.
          let from : sector ≤ p / 16 = gone_low taken sector (p / 16) g in
          gone_is taken sector (q / 16) t (omega arith);
      erased = λ q inside g. e.erased q (omega arith) (gone_low taken sector (q / 16) g) (both_parts (taken (q / 16)) (not (nat_lt (q / 16) sector)) g).0;
      behind = λ q t c f. untaken q t ∙ (i q).isolated (behind_chosen (get_or (cut_pages taken 0 us) q false) (get_or (unit_starts us) q false) (taken (q / 16)) c f t);
      head = λ q t c f g. absurd (not_both (taken (q / 16)) (both_parts (taken (q / 16)) (not (nat_lt (q / 16) sector)) g).0 t);
      stays = λ q g f none. e.kept q (λ low u. absurd (not_both (gone_from taken sector (q / 16)) (gone_is taken sector (q / 16) u low) g))
          ∙ unchosen q (first_unchosen (get_or (cut_pages taken 0 us) q false) (get_or (unit_starts us) q false) (not (taken (q / 16))) f);
      others = λ q t c. untaken q t ∙ unchosen q (whole_unchosen (get_or (cut_pages taken 0 us) q false) (not (get_or (unit_starts us) q false)) (not (taken (q / 16))) c);
    }

-- an erase that broke off leaves the other sectors as they were
torn_other : (before new : List ℕ) (sector q : ℕ) → 4096 * sector + 4096 ≤ length before → IsCutErase before new sector → (q / 16 ≡ sector → ⊥) → page_bytes new q ≡ page_bytes before q
torn_other before new sector q inside cut other =
    let within = cut.within in
    ap (λ image. page_bytes image q) cut.is
    ∙ zeros_at_range before (4096 * sector) cut.done (256 * q) (256 * q + 256) (omega arith) (⊎_elim
    (λ (low : q / 16 < sector). inl (omega arith))
    (λ (high : sector ≤ q / 16). inr (apart high))
    (cases_lt (q / 16) sector))
  where
    apart : sector ≤ q / 16 → 4096 * sector + cut.done ≤ 256 * q
    apart high = ⊎_elim
        (λ (e : q / 16 == sector ≡ true). absurd (other (true_eq (q / 16) sector e)))
        (λ (e : q / 16 == sector ≡ false). let o = false_eq (q / 16) sector e in let w = cut.within in omega arith)
        (true_or_false (q / 16 == sector))

torn_size : (before new : List ℕ) (sector : ℕ) → 4096 * sector + 4096 ≤ length before → IsCutErase before new sector → length new ≡ length before
torn_size before new sector inside cut = let within = cut.within in ap (λ image. length image) cut.is ∙ length_zeros_at before (4096 * sector) cut.done (omega arith)

-- erased again, it is as if it had not broken off
again_from : (taken : ℕ → Bool) (old new : List ℕ) (e : ErasesSome taken old new) → ErasesFrom taken old (zeros_at new (4096 * e.sector) 4096) e.sector
again_from taken old new e =
    let size = e.size in
    let within = e.inside in
    let long = torn_size e.before new e.sector (omega arith) e.cut in
    let inside : 4096 * e.sector + 4096 ≤ length new = omega arith in
    let other : (q : ℕ) → (q / 16 ≡ e.sector → ⊥) → page_bytes (zeros_at new (4096 * e.sector) 4096) q ≡ page_bytes e.before q = λ q o.
    erased_other_page new e.sector q inside o ∙ torn_other e.before new e.sector q (omega arith) e.cut o in
    record {
      erased = λ q h low t. ⊎_elim
          (λ (s : q / 16 == e.sector ≡ true). erased_page new e.sector q inside (true_eq (q / 16) e.sector s))
          (λ (s : q / 16 == e.sector ≡ false). let o = false_eq (q / 16) e.sector s in other q o ∙ e.from.erased q h (omega arith) t)
          (true_or_false (q / 16 == e.sector));
      kept = λ q h. ⊎_elim
          (λ (s : q / 16 == e.sector ≡ true). let is = true_eq (q / 16) e.sector s in absurd (h (omega arith) (ap taken is ∙ e.is_taken)))
          (λ (s : q / 16 == e.sector ≡ false). let o = false_eq (q / 16) e.sector s in other q o ∙ e.from.kept q (λ low t. h (omega arith) t))
          (true_or_false (q / 16 == e.sector));
    }

begun_given : (sector : ℕ) (us : List Unit) (page : ℕ) → given_pages (λ p n. p / 16 == sector) page us ≡ begun_pages sector page us
begun_given sector [] page = refl
begun_given sector (u ∷ us) page = ap (λ ms. replicate (size_of u) (page / 16 == sector) ++ ms) (begun_given sector us (page + size_of u))

loose_behind : (taken building : ℕ → Bool) (old mid new : List ℕ) (us : List Unit) → length mid ≡ length old → IsTiled building old us → Isolates taken Behind old mid us → (e : ErasesSome taken mid new)
    → (q : ℕ) → q < pages_of old → e.sector < q / 16 → get_or (begun_pages e.sector 0 us) q false ≡ true → IsLoose new q
loose_behind taken building old mid new us long tiled i e q inside high g =
    let size = e.size in
    let within = e.inside in
    let whole = tiled.whole in
    let low : q < total us = omega arith in
    let here = here_at us 0 q low in
    let from = here.low in
    let to = here.high in
    let begun = true_eq (here.first / 16) e.sector (sym (here.given (λ p n. p / 16 == e.sector)) ∙ ap (λ ms. get_or ms q false) (begun_given e.sector us 0) ∙ g) in
    let some : 0 < size_of here.unit = omega arith in
    let cut = here.cuts taken ∙ touches_true taken here.first (size_of here.unit) some (ap taken begun ∙ e.is_taken) in
    let later : 0 + q - here.first ≡ 0 → ⊥ = λ z. let same : here.first ≡ q = omega arith in let sector = ap (λ p. p / 16) same in absurd (omega arith) in
    let first = here.firsts ∙ eq_false (0 + q - here.first) 0 later in
    let still = torn_other e.before new e.sector q (omega arith) e.cut (λ s. absurd (omega arith)) in
    ⊎_elim
    (λ (t : taken (q / 16) ≡ true). inl (still ∙ e.from.erased q (omega arith) (omega arith) t))
    (λ (t : taken (q / 16) ≡ false).
    let exists : 256 * q + 256 ≤ length old = omega arith in
    let is = still ∙ e.from.kept q (λ a u. absurd (not_both (taken (q / 16)) u t)) ∙ (i q).isolated (behind_chosen (get_or (cut_pages taken 0 us) q false) (get_or (unit_starts us) q false) (taken (q / 16)) cut first t) in
    inr (ap (λ bytes. unit_of (take 32 bytes)) is ∙ isolated_unit (page_bytes old q) (length_range old (256 * q) (256 * q + 256) exists ∙ omega arith)))
    (true_or_false (taken (q / 16)))

-- WHERE THE UNITS OF THE IMAGE BEFORE AN ERASE BEGIN

one_begun : (t : Bool) (sector page : ℕ) (rest : List Unit) → begun_pages sector page ((if t then Free else Isolated) ∷ rest) ≡ (page / 16 == sector) ∷ begun_pages sector (page + 1) rest
one_begun true sector page rest = refl
one_begun false sector page rest = refl

-- the pages that are left of a unit begin each in its own sector
left_marks : (gone : ℕ → Bool) (sector n page i : ℕ) (rest : List Unit) → i < n → get_or (begun_pages sector page (pages_left gone page n ++ rest)) i false ≡ ((page + i) / 16 == sector)
left_marks gone sector zero page i rest low = absurd (omega arith)
left_marks gone sector (suc n) page zero rest low =
    let e : page ≡ page + 0 = omega arith in
    ap (λ ms. get_or ms 0 false) (one_begun (gone (page / 16)) sector page (pages_left gone (page + 1) n ++ rest)) ∙ ap (λ p. p / 16 == sector) e
left_marks gone sector (suc n) page (suc i) rest low =
    let e : page + 1 + i ≡ page + suc i = omega arith in
    ap (λ ms. get_or ms (suc i) false) (one_begun (gone (page / 16)) sector page (pages_left gone (page + 1) n ++ rest))
    ∙ left_marks gone sector n (page + 1) i rest (omega arith) ∙ ap (λ p. p / 16 == sector) e

left_behind : (gone : ℕ → Bool) (sector n page end i : ℕ) (rest : List Unit) → end ≡ page + n → get_or (begun_pages sector page (pages_left gone page n ++ rest)) (n + i) false ≡ get_or (begun_pages sector end rest) i false
left_behind gone sector zero page end i rest e =
    let same : page ≡ end = omega arith in
    let none : 0 + i ≡ i = omega arith in
    ap (λ k. get_or (begun_pages sector page rest) k false) none ∙ ap (λ p. get_or (begun_pages sector p rest) i false) same
left_behind gone sector (suc n) page end i rest e =
    let more : suc n + i ≡ suc (n + i) = omega arith in
    ap (λ k. get_or (begun_pages sector page (pages_left gone page (suc n) ++ rest)) k false) more
    ∙ ap (λ ms. get_or ms (suc (n + i)) false) (one_begun (gone (page / 16)) sector page (pages_left gone (page + 1) n ++ rest))
    ∙ left_behind gone sector n (page + 1) end i rest (omega arith)

begun_turn : (gone : ℕ → Bool) (sector : ℕ) (u : Unit) (us rest : List Unit) (t : Bool) (page i : ℕ) → sector < (page + i) / 16
    → (size_of u ≤ i → get_or (begun_pages sector (page + size_of u) rest) (i - size_of u) false ≡ true → get_or (begun_pages sector (page + size_of u) us) (i - size_of u) false ≡ true)
    → get_or (begun_pages sector page ((if t then pages_left gone page (size_of u) else u ∷ []) ++ rest)) i false ≡ true → get_or (begun_pages sector page (u ∷ us)) i false ≡ true
begun_turn gone sector u us rest t page i high more m = ⊎_elim
    (λ (here : i < size_of u). front t here m)
    (λ (behind : size_of u ≤ i).
    let back : size_of u + (i - size_of u) ≡ i = omega arith in
    ap (λ k. get_or (begun_pages sector page (u ∷ us)) k false) (sym back) ∙ mark_behind (page / 16 == sector) (begun_pages sector (page + size_of u) us) (size_of u) (i - size_of u)
    ∙ more behind (sym (rest_at t (i - size_of u)) ∙ ap (λ k. get_or (begun_pages sector page ((if t then pages_left gone page (size_of u) else u ∷ []) ++ rest)) k false) back ∙ m))
    (cases_lt i (size_of u))
  where
    front : (t : Bool) → i < size_of u → get_or (begun_pages sector page ((if t then pages_left gone page (size_of u) else u ∷ []) ++ rest)) i false ≡ true → get_or (begun_pages sector page (u ∷ us)) i false ≡ true
    front true here m = let e = true_eq ((page + i) / 16) sector (sym (left_marks gone sector (size_of u) page i rest here) ∙ m) in absurd (omega arith)
    front false here m =
        mark_front (page / 16 == sector) (begun_pages sector (page + size_of u) us) (size_of u) i here
        ∙ sym (mark_front (page / 16 == sector) (begun_pages sector (page + size_of u) rest) (size_of u) i here) ∙ m

    rest_at : (t : Bool) (k : ℕ) → get_or (begun_pages sector page ((if t then pages_left gone page (size_of u) else u ∷ []) ++ rest)) (size_of u + k) false ≡ get_or (begun_pages sector (page + size_of u) rest) k false
    rest_at true k = left_behind gone sector (size_of u) page (page + size_of u) k rest refl
    rest_at false k = mark_behind (page / 16 == sector) (begun_pages sector (page + size_of u) rest) (size_of u) k

-- what reaches out of a sector when units have given way did so before
begun_after : (gives : ℕ → ℕ → Bool) (gone : ℕ → Bool) (sector : ℕ) (us : List Unit) (page i : ℕ) → sector < (page + i) / 16
    → get_or (begun_pages sector page (units_after gives gone page us)) i false ≡ true → get_or (begun_pages sector page us) i false ≡ true
begun_after gives gone sector [] page i high m = m
begun_after gives gone sector (u ∷ us) page i high m =
    begun_turn gone sector u us (units_after gives gone (page + size_of u) us) (gives page (size_of u)) page i high
    (λ low n. begun_after gives gone sector us (page + size_of u) (i - size_of u) (let e : page + size_of u + (i - size_of u) ≡ page + i = omega arith in subst (λ q. sector < q / 16) (sym e) high) n) m

part_units : (taken gone test building : ℕ → Bool) (old new : List ℕ) (us : List Unit) → length new ≡ length old → IsTiled building old us → PartWay taken gone test old new us → units_of new ≡ units_after (part_way taken test) gone 0 us
part_units taken gone test building old new us long tiled w =
    units_tiled building new (units_after (part_way taken test) gone 0 us)
    (tiled_after (part_way taken test) gone building old new us (giving_part taken gone test old new us w) long tiled (left_part taken gone test old new us w))

pub cut_erasing : (taken building : ℕ → Bool) (old mid new : List ℕ) (us : List Unit) → ((s : ℕ) → taken s ≡ is_taken us s) → length mid ≡ length old → IsTiled building old us → Isolates taken Behind old mid us → ErasesSome taken mid new → IsCutOff building old new us
cut_erasing taken building old mid new us same long tiled i e =
    let size = e.size in
    let inside = e.inside in
    let torn = torn_size e.before new e.sector (omega arith) e.cut in
    let zeros = length_zeros_at new (4096 * e.sector) 4096 (omega arith) in
    record {
      sector = e.sector;
      before = e.before;
      is_taken = sym (same e.sector) ∙ e.is_taken;
      long = omega arith;
      kept = keeps_part taken (gone_from taken (e.sector + 1)) (λ p. gone_from taken (e.sector + 1) (p / 16)) building old e.before us same (omega arith) tiled (erasing_part taken old mid e.before us (e.sector + 1) long i e.from);
      cut = e.cut;
      loose = λ page in_image high mark.
          let gone = gone_from taken (e.sector + 1) in
          let part = erasing_part taken old mid e.before us (e.sector + 1) long i e.from in
          let units = part_units taken gone (λ p. gone (p / 16)) building old e.before us (omega arith) tiled part in
          let reach : e.sector < (0 + page) / 16 = omega arith in
          loose_behind taken building old mid new us long tiled i e page in_image high
          (begun_after (part_way taken (λ p. gone (p / 16))) gone e.sector us 0 page reach (ap (λ vs. get_or (begun_pages e.sector 0 vs) page false) (sym units) ∙ mark));
      again = keeps_part taken (gone_from taken e.sector) (λ p. gone_from taken e.sector (p / 16)) building old (zeros_at new (4096 * e.sector) 4096) us same (omega arith) tiled (erasing_part taken old mid (zeros_at new (4096 * e.sector) 4096) us e.sector long i (again_from taken mid new e));
    }

-- STEP 3: HEADERS ARE ISOLATED

abbrev side : {A B : Type 0} → A ⊎ B → Bool
side (inl a) = false
side (inr b) = true

side_left : {A B : Type 0} (x : A ⊎ B) → side x ≡ false → A
side_left (inl a) e = a
side_left (inr b) e = absurd (not_both true refl e)

side_right : {A B : Type 0} (x : A ⊎ B) → side x ≡ true → B
side_right (inl a) e = absurd (not_both false e refl)
side_right (inr b) e = b

-- a header that was chosen is isolated, or it stays
abbrev is_headless : (taken : ℕ → Bool) (late new : List ℕ) (vs : List Unit) → IsolatesSome taken Header late new vs → ℕ → Bool
is_headless taken late new vs h p = taken (p / 16) || side (h p)

or_taken : (t s : Bool) → t ≡ true → t || s ≡ true
or_taken t s e = rw e refl

and_other : (c t : Bool) → c ≡ true → c && t ≡ false → t ≡ false
and_other c t e o = let is : true && t ≡ false = rw e at o in is

headless_part : (taken : ℕ → Bool) (old mid late new : List ℕ) (us : List Unit) → length mid ≡ length old → Isolates taken Behind old mid us → Erases taken mid late
    → (h : IsolatesSome taken Header late new (units_after (begins taken) taken 0 us)) → PartWay taken taken (is_headless taken late new (units_after (begins taken) taken 0 us) h) old new us
headless_part taken old mid late new us long i e h =
    let vs = units_after (begins taken) taken 0 us in
    let heads : (q : ℕ) → taken (q / 16) ≡ false → is_head taken 0 vs q ≡ is_head taken 0 us q = λ q out.
    let f : q ≡ 0 + q = omega arith in heads_same taken us 0 q (ap (λ p. taken (p / 16)) (sym f) ∙ out) in
    let chosen : (q : ℕ) (c f : Bool) → taken (q / 16) ≡ false → get_or (cut_pages taken 0 us) q false ≡ c → get_or (unit_starts us) q false ≡ f → (is_chosen taken Behind us q ≡ c && not f) × (is_chosen taken Header vs q ≡ c && f) =
    λ q c f out ce fe. chosen_parts taken us vs q c f out ce fe (heads q out) in
    let kept : (q : ℕ) → is_chosen taken Header vs q ≡ false → page_bytes new q ≡ page_bytes late q = λ q none. unchosen_stays (is_chosen taken Header vs q) late new q none (h q) in
    record {
      within = λ s t. t;
      begun = λ p t. or_taken (taken (p / 16)) (side (h p)) t;
      upward = λ p q t low u. u;
      erased = λ q inside t. kept q (taken_unchosen (get_or (cut_pages taken 0 vs) q false && get_or (unit_starts vs) q false) (taken (q / 16)) t) ∙ e.erased q (omega arith) t;
      behind = λ q t c f. let p = chosen q true false t c f in kept q p.1 ∙ e.kept q t ∙ (i q).isolated p.0;
      head = λ q t c f test.
          let p = chosen q true true t c f in
          (side_right (h q) (other_side (taken (q / 16)) (side (h q)) t test)).1 ∙ ap (λ bytes. or_at bytes 9 (34 ∷ [])) (e.kept q t ∙ (i q).kept p.0);
      stays = λ q t f none. ⊎_elim
          (λ (c : get_or (cut_pages taken 0 us) q false ≡ true).
          let p = chosen q true true t c f in
          side_left (h q) (neither (taken (q / 16)) (side (h q)) (and_other (get_or (cut_pages taken 0 us) q false) (taken (q / 16) || side (h q)) c none)).1 ∙ e.kept q t ∙ (i q).kept p.0)
          (λ (c : get_or (cut_pages taken 0 us) q false ≡ false).
          let p = chosen q false true t c f in
          kept q p.1 ∙ e.kept q t ∙ (i q).kept p.0)
          (true_or_false (get_or (cut_pages taken 0 us) q false));
      others = λ q t c.
          let p = chosen q false (get_or (unit_starts us) q false) t c refl in
          kept q p.1 ∙ e.kept q t ∙ (i q).kept p.0;
    }
  where
    taken_unchosen : (b t : Bool) → t ≡ true → b && not t ≡ false
    taken_unchosen true t e = rw e refl
    taken_unchosen false t e = refl

pub keeps_headless : (taken building : ℕ → Bool) (old mid late new : List ℕ) (us : List Unit) → ((s : ℕ) → taken s ≡ is_taken us s) → length mid ≡ length old → length late ≡ length old → length new ≡ length old → IsTiled building old us
    → Isolates taken Behind old mid us → Erases taken mid late → ((vs : List Unit) → IsTiled building late vs → IsolatesSome taken Header late new vs) → KeepsActive building old new us
keeps_headless taken building old mid late new us same long later longer tiled i e h =
    let vs = units_after (begins taken) taken 0 us in
    let some = h vs (tiled_beginning taken building old mid late us long later tiled i e) in
    keeps_part taken taken (is_headless taken late new vs some) building old new us same longer tiled (headless_part taken old mid late new us long i e some)
