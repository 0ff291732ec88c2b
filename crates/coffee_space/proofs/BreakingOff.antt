-- Where a program of one byte, or isolating, breaks off.
use Rattle.std.proofs.Common.{◌≡◌, ℕ, ◌+◌, ◌-◌, ◌*◌, ◌/◌, ◌≤◌, ◌<◌, ◌⊎◌, inl, inr, ⊎_elim, Bool, true, false, not, ◌&&◌, ◌==◌, List, [], ◌∷◌, length, take, get_or, Some, refl, ap, sym, subst, ◌∙◌, arith}
use Rattle.std.proofs.lemmas.Bool.{cases_lt}
use Rattle.afl_base.specs.Cuts.{IsCutProgram}
use Rattle.afl_base.specs.Image.{or_at, page_bytes}
use Rattle.afl_base.proofs.Images.{or_at_page}
use Rattle.coffee_layout.specs.Units.{pages_of, size_of}
use Rattle.coffee_layout.specs.declared.unit.Unit.{Unit}
use Rattle.coffee_layout.proofs.Searches.{IsRead}
use Rattle.coffee_space.specs.Collection.{touches}
use Rattle.coffee_space.specs.Steps.{IsolatesPage, IsolatesPages, IsolatesSome, IsolatesSomePages, StaysOrIsolated, unit_starts, is_chosen, is_part}
use Rattle.coffee_space.specs.declared.part.Part.{Part}
use Rattle.coffee_space.proofs.Isolating.{Isolating, isolating_reads}
use Rattle.afl_base.proofs.Bits.{or_at_nothing}

-- the value of `a && b`, by its two ways
pub and_true : (a b r : Bool) → a ≡ true → r ≡ b → r ≡ a && b
and_true a b r e is = rw e is

pub and_false : (a b r : Bool) → a ≡ false → r ≡ false → r ≡ a && b
and_false a b r e is = rw e is

-- of one byte none or all is programmed
pub cut_byte : (old new : List ℕ) (page : ℕ) → 256 * page + 256 ≤ length old → IsCutProgram old new (256 * page + 9) (34 ∷ []) → (page_bytes new page ≡ page_bytes old page) ⊎ (page_bytes new page ≡ or_at (page_bytes old page) 9 (34 ∷ []))
cut_byte old new page inside cut = ⊎_elim
    (λ (none : cut.done ≡ 0).
    inl (ap (λ image. page_bytes image page) (cut.is ∙ ap (λ n. or_at old (256 * page + 9) (take n (34 ∷ []))) none ∙ or_at_nothing old (256 * page + 9))))
    (λ (all : cut.done ≡ 1).
    inr (ap (λ image. page_bytes image page) (cut.is ∙ ap (λ n. or_at old (256 * page + 9) (take n (34 ∷ []))) all) ∙ or_at_page old page 9 (34 ∷ []) inside (omega arith)))
    (cut.front.whole (omega arith))

-- a step before, and one that breaks off
pub stays_from : (wanted : Bool) (old now new : List ℕ) (page : ℕ) → page_bytes now page ≡ page_bytes old page → StaysOrIsolated wanted now new page → StaysOrIsolated wanted old new page
stays_from wanted old now new page same (inl stays) = inl (stays ∙ same)
stays_from wanted old now new page same (inr isolated) = inr (isolated.0, isolated.1 ∙ ap (λ bytes. or_at bytes 9 (34 ∷ [])) same)

pub stays_or_done : (wanted : Bool) (old now new : List ℕ) (page : ℕ) → page_bytes new page ≡ page_bytes now page → IsolatesPage wanted old now page → StaysOrIsolated wanted old new page
stays_or_done true old now new page same i = inr (refl, same ∙ i.isolated refl)
stays_or_done false old now new page same i = inl (same ∙ i.kept refl)

pub some_pages : (taken : ℕ → Bool) (part : Part) (cut wanted : Bool) (old now new : List ℕ) (page n all : ℕ) → n < all → wanted ≡ ((cut && is_part part (n == 0)) && not (taken ((page + n) / 16))) → IsolatesPages taken part cut old now page n
    → StaysOrIsolated wanted now new (page + n) → ((q : ℕ) → (q ≡ page + n → ⊥) → page_bytes new q ≡ page_bytes now q) → IsolatesSomePages taken part cut old new page all
some_pages taken part cut wanted old now new page n all inside is i here others = record {
  here = λ k b. ⊎_elim
      (λ (before : k < n). stays_or_done ((cut && is_part part (k == 0)) && not (taken ((page + k) / 16))) old now new (page + k) (others (page + k) (λ e. absurd (omega arith))) (i.here k before))
      (λ (from : n ≤ k). ⊎_elim
      (λ (at : k < n + 1).
      let e : n ≡ k = omega arith in
      subst (λ j. StaysOrIsolated ((cut && is_part part (j == 0)) && not (taken ((page + j) / 16))) old new (page + j)) e
      (subst (λ w. StaysOrIsolated w old new (page + n)) is (stays_from wanted old now new (page + n) (i.others (page + n) (λ a b. absurd (omega arith))) here)))
      (λ (past : n + 1 ≤ k). inl (others (page + k) (λ e. absurd (omega arith)) ∙ i.others (page + k) (λ a b. absurd (omega arith))))
      (cases_lt k (n + 1)))
      (cases_lt k n);
  others = λ q h. others q (λ e. h (omega arith) (omega arith)) ∙ i.others q (λ a b. h a (omega arith));
}

pub isolating_some : (taken building : ℕ → Bool) (part : Part) (old now new : List ℕ) (us : List Unit) (page : ℕ) (u : Unit) → length now ≡ length old → page < pages_of old → Isolating taken building part old now us page → IsRead now page (Some u)
    → IsolatesSomePages taken part (touches taken page (size_of u)) now new page (size_of u) → IsolatesSome taken part old new us
isolating_some taken building part old now new us page u long inside i is pages =
    let s = isolating_reads taken building part old now us page u long inside i is in
    λ q. ⊎_elim
    (λ (before : q < page). stays_or_done (is_chosen taken part us q) old now new q (pages.others q (λ a b. absurd (omega arith))) (i.done q before))
    (λ (from : page ≤ q). ⊎_elim
    (λ (here : q < page + size_of u).
    let e : page + (q - page) ≡ q = omega arith in
    let within : q - page < size_of u = omega arith in
    let first : get_or (unit_starts us) q false ≡ (q - page == 0) = ap (λ k. get_or (unit_starts us) k false) (sym e) ∙ s.firsts (q - page) within in
    let chosen : is_chosen taken part us q ≡ (touches taken page (size_of u) && is_part part (q - page == 0)) && not (taken (q / 16)) =
    ap (λ c. (c && is_part part (get_or (unit_starts us) q false)) && not (taken (q / 16))) (s.cuts taken q from here) ∙ ap (λ b. (touches taken page (size_of u) && is_part part b) && not (taken (q / 16))) first in
    subst (λ c. StaysOrIsolated c old new q) (sym chosen)
    (stays_from ((touches taken page (size_of u) && is_part part (q - page == 0)) && not (taken (q / 16))) old now new q (i.same q from)
    (subst (λ p. StaysOrIsolated ((touches taken page (size_of u) && is_part part (q - page == 0)) && not (taken (p / 16))) now new p) e (pages.here (q - page) within))))
    (λ (past : page + size_of u ≤ q). inl (pages.others q (λ a b. absurd (omega arith)) ∙ i.same q from))
    (cases_lt q (page + size_of u)))
    (cases_lt q page)
