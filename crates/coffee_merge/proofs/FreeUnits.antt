-- Free pages are units, and a change of headers makes none.
use Rattle.std.proofs.Common.{◌≡◌, ⊎_elim, ℕ, ◌+◌, ◌-◌, ◌≤◌, ◌<◌, Bool, true, false, List, [], ◌∷◌, get_or, Option, Some, refl, ap, sym, ◌∙◌, arith}
use Rattle.std.proofs.lemmas.Bool.{cases_lt}
use Rattle.padded.proofs.Facts.{yes_no}
use Rattle.coffee_header.specs.declared.header.Header.{Header}
use Rattle.coffee_layout.specs.Marks.{free_pages}
use Rattle.coffee_layout.specs.Tiling.{units_of}
use Rattle.coffee_layout.specs.Units.{is_free, size_of}
use Rattle.coffee_layout.specs.declared.unit.Unit.{Unit}
use Rattle.coffee_layout.specs.declared.unit.Unit.TheVariants.{Free, Isolated, Extent}
use Rattle.coffee_merge.specs.Begun.{unit_begun}
use Rattle.coffee_merge.specs.Holding.{TakesOnly, is_free_at}
use Rattle.coffee_merge.specs.Takes.{KeepsFree}
use Rattle.coffee_merge.proofs.Beginning.{IsBegun}
use Rattle.coffee_merge.proofs.Begun.{HavePages, active_begun, begun_here, begun_marks, begun_there, have_pages}
use Rattle.coffee_merge.proofs.Marked.{Reflags}
use Rattle.coffee_layout.proofs.FreeBlocks.{mark_front, mark_behind}

-- FREE UNITS

free_here : (u : Unit) (us : List Unit) (from k : ℕ) → is_free u ≡ true → k < size_of u → unit_begun (u ∷ us) from (from + k) ≡ Some Free
free_here Free us from k e low = begun_here Free us from (from + k) (omega arith)
free_here Isolated us from k e low = cc
free_here (Extent h) us from k e low = cc

free_from : (us : List Unit) (from k : ℕ) → HavePages us → get_or (free_pages us) k false ≡ true → unit_begun us from (from + k) ≡ Some Free
free_from [] from k h e = cc
free_from (u ∷ us) from k h e =
    let some = h.0 in
    ⊎_elim
    (λ (here : k < size_of u). free_here u us from k (sym (mark_front (is_free u) (free_pages us) (size_of u) k here) ∙ e) here)
    (λ (behind : size_of u ≤ k).
    let back : size_of u + (k - size_of u) ≡ k = omega arith in
    let place : from + size_of u + (k - size_of u) ≡ from + k = omega arith in
    begun_there u us from (from + k) (λ s. omega arith)
    ∙ ap (unit_begun us (from + size_of u)) (sym place)
    ∙ free_from us (from + size_of u) (k - size_of u) h.1 (sym (mark_behind (is_free u) (free_pages us) (size_of u) (k - size_of u)) ∙ ap (λ j. get_or (free_pages (u ∷ us)) j false) back ∙ e))
    (cases_lt k (size_of u))

-- a free page is a unit
pub free_unit : (us : List Unit) (page : ℕ) → HavePages us → get_or (free_pages us) page false ≡ true → unit_begun us 0 page ≡ Some Free
free_unit us page h e =
    let place : 0 + page ≡ page = omega arith in
    ap (unit_begun us 0) (sym place) ∙ free_from us 0 page h e

pub free_begun : (us : List Unit) (page : ℕ) → unit_begun us 0 page ≡ Some Free → get_or (free_pages us) page false ≡ true
free_begun us page is = begun_marks is_free us page Free page is (omega arith) (omega arith)

pub free_or_extent : (g : Header) (o : Option Unit) → o ≡ Some Free → o ≡ Some (Extent g) → ⊥
free_or_extent g o e f = let both : Some Free ≡ Some (Extent g) = sym e ∙ f in cc

-- NO PAGE BECOMES FREE

abbrev pub FreesNone : (old new : List ℕ) → Type 0
FreesNone old new = (p : ℕ) → is_free_at new p ≡ true → is_free_at old p ≡ true

pub frees_then : (old mid new : List ℕ) → FreesNone old mid → FreesNone mid new → FreesNone old new
frees_then old mid new first second = λ p free. first p (second p free)

pub reflags_frees : (building : ℕ → Bool) (old new : List ℕ) (page : ℕ) (h : Header) → Reflags building old new page h → FreesNone old new
reflags_frees building old new page h r = λ p free.
    let begun = free_unit (units_of new) p (have_pages building new (units_of new) r.tiled) free in
    free_begun (units_of old) p (sym (r.others p (λ same. free_or_extent h (unit_begun (units_of new) 0 p) begun (ap (unit_begun (units_of new) 0) same ∙ r.here))) ∙ begun)

pub begun_frees : (building : ℕ → Bool) (old new : List ℕ) (page : ℕ) (h : Header) → IsBegun building old new (units_of old) page h → FreesNone old new
begun_frees building old new page h b = λ p free.
    let begun = free_unit (units_of new) p (have_pages building new (units_of new) b.tiled) free in
    let unit = (active_begun (units_of new) page h b.here).0 in
    free_begun (units_of old) p (sym (b.units p (λ low high. yes_no (is_free_at new p) free (begun_marks is_free (units_of new) page (Extent h) p unit low high))) ∙ begun)

-- THE SAME PAGES ARE FREE

pub frees_free : (old new : List ℕ) → KeepsFree old new → FreesNone old new
frees_free old new keeps = λ p free. sym (keeps p) ∙ free

pub takes_free : (old new : List ℕ) → KeepsFree old new → TakesOnly old new 0 0
takes_free old new keeps = λ p free out. keeps p ∙ free

pub free_by : (old new : List ℕ) → TakesOnly old new 0 0 → FreesNone old new → KeepsFree old new
free_by old new takes frees = λ p. same_by (is_free_at new p) (is_free_at old p) (frees p) (λ free. takes p free (λ a b. omega arith))
  where
    same_by : (a b : Bool) → (a ≡ true → b ≡ true) → (b ≡ true → a ≡ true) → a ≡ b
    same_by true b f g = sym (f refl)
    same_by false true f g = g refl
    same_by false false f g = refl

pub free_same : (old new : List ℕ) → units_of new ≡ units_of old → KeepsFree old new
free_same old new same = λ p. ap (λ us. get_or (free_pages us) p false) same
