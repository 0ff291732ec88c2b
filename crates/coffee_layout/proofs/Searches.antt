-- A search over the units of a tiled image, for the first extent that fails a test.
use Rattle.std.proofs.Common.{◌≡◌, ℕ, ◌+◌, ◌≤◌, ◌<◌, Bool, true, false, List, [], ◌∷◌, Option, Some, None, refl, ap, sym, subst, ◌∙◌, arith}
use Rattle.padded.proofs.Facts.{some_same}
use Rattle.coffee_layout.specs.Files.{Placed, extents}
use Rattle.coffee_layout.specs.Rules.{first_failing}
use Rattle.coffee_layout.specs.Tiling.{KeepRules, broken_at, nowhere}
use Rattle.coffee_layout.specs.Units.{is_free, pages_of, size_of, total, unit_at}
use Rattle.coffee_layout.specs.Walks.{keeps_unit}
use Rattle.coffee_layout.specs.declared.unit.Unit.{Unit}
use Rattle.coffee_layout.specs.declared.unit.Unit.TheVariants.{Free, Isolated, Extent}
use Rattle.coffee_layout.proofs.Tilings.{kept_some}

-- the units from a page on are still to be searched
pub record Searched (test : Placed → Bool) (image : List ℕ) (us : List Unit) (page : ℕ) : Type 0 where
  pub after_free : Bool
  pub rest : List Unit
  pub keep : KeepRules nowhere image page after_free rest
  pub whole : page + total rest ≡ pages_of image
  pub same : first_failing test (extents 0 us) ≡ first_failing test (extents page rest)

-- what stands at the page: a unit that keeps the rules, and the units behind it
pub record Stands (test : Placed → Bool) (image : List ℕ) (us : List Unit) (page : ℕ) : Type 0 where
  pub after_free : Bool
  pub unit : Unit
  pub here : unit_at image page ≡ Some unit
  pub kept : broken_at nowhere image page after_free ≡ None
  pub more : keeps_unit test page unit ≡ true → Searched test image us (page + size_of unit)
  pub found : keeps_unit test page unit ≡ false → first_failing test (extents 0 us) ≡ Some page

extents_keep : (test : Placed → Bool) (page : ℕ) (u : Unit) (us : List Unit) → keeps_unit test page u ≡ true → first_failing test (extents page (u ∷ us)) ≡ first_failing test (extents (page + size_of u) us)
extents_keep test page Free us k = refl
extents_keep test page Isolated us k = refl
extents_keep test page (Extent h) us k = rw k refl

extents_fail : (test : Placed → Bool) (page : ℕ) (u : Unit) (us : List Unit) → keeps_unit test page u ≡ false → first_failing test (extents page (u ∷ us)) ≡ Some page
extents_fail test page Free us k = cc
extents_fail test page Isolated us k = cc
extents_fail test page (Extent h) us k = rw k refl

stands_at : (test : Placed → Bool) (image : List ℕ) (us : List Unit) (page : ℕ) (after_free : Bool) (rest : List Unit) → page < pages_of image → KeepRules nowhere image page after_free rest → page + total rest ≡ pages_of image
    → first_failing test (extents 0 us) ≡ first_failing test (extents page rest) → Stands test image us page
stands_at test image us page after_free [] before keep whole same = absurd (omega arith)
stands_at test image us page after_free (u ∷ rest) before keep whole same = record {
  after_free = after_free;
  unit = u;
  here = keep.0;
  kept = keep.1;
  more = λ k. record { after_free = is_free u; rest = rest; keep = keep.2; whole = omega arith; same = same ∙ extents_keep test page u rest k };
  found = λ k. same ∙ extents_fail test page u rest k;
}

pub stands : (test : Placed → Bool) (image : List ℕ) (us : List Unit) (page : ℕ) → page < pages_of image → Searched test image us page → Stands test image us page
stands test image us page before s = stands_at test image us page s.after_free s.rest before s.keep s.whole s.same

-- at the end none has failed
pub searched_end : (test : Placed → Bool) (image : List ℕ) (us : List Unit) (page : ℕ) → pages_of image ≤ page → Searched test image us page → first_failing test (extents 0 us) ≡ None
searched_end test image us page behind s = ended s.after_free s.rest s.keep s.whole s.same
  where
    ended : (after_free : Bool) (rest : List Unit) → KeepRules nowhere image page after_free rest → page + total rest ≡ pages_of image → first_failing test (extents 0 us) ≡ first_failing test (extents page rest) → first_failing test (extents 0 us) ≡ None
    ended after_free [] keep whole same = same
    ended after_free (u ∷ rest) keep whole same = absurd (omega (arith, kept_some nowhere image page after_free u keep.0 keep.1))

-- what was read at the page, where the units that keep the rules are read as they stand
abbrev pub IsRead : List ℕ → ℕ → Option Unit → Type 0
IsRead image page o = (building : ℕ → Bool) (after_free : Bool) → broken_at building image page after_free ≡ None → o ≡ unit_at image page

read_unit : (test : Placed → Bool) (image : List ℕ) (us : List Unit) (page : ℕ) (u : Unit) (s : Stands test image us page) → IsRead image page (Some u) → s.unit ≡ u
read_unit test image us page u s is = some_same s.unit u (sym s.here ∙ sym (is nowhere s.after_free s.kept))

pub searched_none : (test : Placed → Bool) (image : List ℕ) (us : List Unit) (page : ℕ) → page < pages_of image → Searched test image us page → IsRead image page None → ⊥
searched_none test image us page before s is =
    let at = stands test image us page before s in
    let e : None ≡ Some at.unit = is nowhere at.after_free at.kept ∙ at.here in
    cc

pub searched_found : (test : Placed → Bool) (image : List ℕ) (us : List Unit) (page : ℕ) (u : Unit) (r : Bool) → page < pages_of image → Searched test image us page → IsRead image page (Some u)
    → r ≡ keeps_unit test page u → r ≡ false → first_failing test (extents 0 us) ≡ Some page
searched_found test image us page u r before s is k e =
    let at = stands test image us page before s in
    at.found (ap (keeps_unit test page) (read_unit test image us page u at is) ∙ sym k ∙ e)

pub searched_next : (test : Placed → Bool) (image : List ℕ) (us : List Unit) (page : ℕ) (u : Unit) (r : Bool) → page < pages_of image → Searched test image us page → IsRead image page (Some u)
    → r ≡ keeps_unit test page u → r ≡ true → Searched test image us (page + size_of u)
searched_next test image us page u r before s is k e =
    let at = stands test image us page before s in
    let same = read_unit test image us page u at is in
    subst (λ v. Searched test image us (page + size_of v)) same (at.more (ap (keeps_unit test page) same ∙ sym k ∙ e))
