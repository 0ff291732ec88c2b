-- A search over the units of a tiled image goes from a free page to the next sector.
use Rattle.std.proofs.Common.{◌≡◌, ℕ, zero, suc, ◌+◌, ◌-◌, ◌*◌, ◌%◌, ◌<◌, Bool, true, List, [], ◌∷◌, ◌++◌, replicate, Some, ap, sym, subst, ◌∙◌, arith}
use Rattle.padded.proofs.Facts.{some_same}
use Rattle.coffee_layout.specs.Files.{Placed, extents}
use Rattle.coffee_layout.specs.Rules.{first_failing}
use Rattle.coffee_layout.specs.Tiling.{KeepRules, nowhere}
use Rattle.coffee_layout.specs.Units.{behind, pages_of, total}
use Rattle.coffee_layout.specs.Walks.{keeps_unit}
use Rattle.coffee_layout.specs.declared.unit.Unit.{Unit}
use Rattle.coffee_layout.specs.declared.unit.Unit.TheVariants.{Free, Isolated, Extent}
use Rattle.coffee_layout.proofs.FreeSectors.{free_sector}
use Rattle.coffee_layout.proofs.Searches.{IsRead, Searched, searched_next}

extents_free : (n page : ℕ) (us : List Unit) → extents page (replicate n Free ++ us) ≡ extents (page + n) us
extents_free zero page us = let e : page ≡ page + 0 = omega arith in ap (λ p. extents p us) e
extents_free (suc n) page us = let e : page + 1 + n ≡ page + suc n = omega arith in extents_free n (page + 1) us ∙ ap (λ p. extents p us) e

free_past : (test : Placed → Bool) (image : List ℕ) (us : List Unit) (sectors page : ℕ) (after_free : Bool) (rest : List Unit) → pages_of image ≡ 16 * sectors → page < pages_of image → IsRead image page (Some Free)
    → KeepRules nowhere image page after_free rest → page + total rest ≡ pages_of image → first_failing test (extents 0 us) ≡ first_failing test (extents page rest) → Searched test image us (behind page Free)
free_past test image us sectors page after_free [] all before is keep whole same = absurd (omega arith)
free_past test image us sectors page after_free (v ∷ rest) all before is keep whole same =
    let free : v ≡ Free = some_same v Free (sym keep.0 ∙ sym (is nowhere after_free keep.1)) in
    let sector = free_sector nowhere image sectors page after_free rest all (subst (λ w. KeepRules nowhere image page after_free (w ∷ rest)) free keep) (subst (λ w. page + total (w ∷ rest) ≡ pages_of image) free whole) in
    record {
      after_free = true;
      rest = sector.rest;
      keep = sector.keep;
      whole = sector.whole;
      same = same ∙ ap (λ w. first_failing test (extents page (w ∷ rest))) free ∙ ap (λ vs. first_failing test (extents page vs)) sector.front ∙ ap (first_failing test) (extents_free (16 - page % 16) page sector.rest);
    }

pub searched_behind : (test : Placed → Bool) (image : List ℕ) (us : List Unit) (sectors page : ℕ) (u : Unit) (r : Bool) → pages_of image ≡ 16 * sectors → page < pages_of image → Searched test image us page → IsRead image page (Some u)
    → r ≡ keeps_unit test page u → r ≡ true → Searched test image us (behind page u)
searched_behind test image us sectors page Free r all before s is k e = free_past test image us sectors page s.after_free s.rest all before is s.keep s.whole s.same
searched_behind test image us sectors page Isolated r all before s is k e = searched_next test image us page Isolated r before s is k e
searched_behind test image us sectors page (Extent h) r all before s is k e = searched_next test image us page (Extent h) r before s is k e
