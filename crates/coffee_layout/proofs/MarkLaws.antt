-- Marks of pages: those of lists of units put together, and those of one unit.
use Rattle.std.proofs.Common.{◌≡◌, ℕ, ◌+◌, ◌-◌, ◌≤◌, ◌<◌, ⊎_elim, Bool, true, false, List, [], ◌∷◌, ◌++◌, length, replicate, get_or, refl, ap, sym, ◌∙◌, arith, append_assoc}
use Rattle.std.proofs.lemmas.List.{get_or-append_right, get_or-replicate, get_or_append_left, get_or_past, length-append, length-replicate}
use Rattle.std.proofs.lemmas.Bool.{cases_lt}
use Rattle.coffee_layout.specs.Marks.{IsRun, pages_by}
use Rattle.coffee_layout.specs.Units.{size_of, total}
use Rattle.coffee_layout.specs.declared.unit.Unit.{Unit}

pub pages_by-append : (test : Unit → Bool) (us vs : List Unit) → pages_by test (us ++ vs) ≡ pages_by test us ++ pages_by test vs
pages_by-append test [] vs = refl
pages_by-append test (u ∷ us) vs = ap (λ t. replicate (size_of u) (test u) ++ t) (pages_by-append test us vs) ∙ sym (append_assoc (replicate (size_of u) (test u)) (pages_by test us) (pages_by test vs))

-- one mark a page
pub length-pages_by : (test : Unit → Bool) (us : List Unit) → length (pages_by test us) ≡ total us
length-pages_by test [] = refl
length-pages_by test (u ∷ us) = omega (arith, length-append (replicate (size_of u) (test u)) (pages_by test us), length-replicate {A = Bool} (size_of u) (test u), length-pages_by test us)

pub mark_front : (test : Unit → Bool) (front rest : List Unit) (i : ℕ) → i < total front → get_or (pages_by test (front ++ rest)) i false ≡ get_or (pages_by test front) i false
mark_front test front rest i h = ap (λ t. get_or t i false) (pages_by-append test front rest) ∙ get_or_append_left (pages_by test front) (pages_by test rest) false i (omega (arith, length-pages_by test front))

pub mark_rest : (test : Unit → Bool) (front rest : List Unit) (i : ℕ) → total front ≤ i → get_or (pages_by test (front ++ rest)) i false ≡ get_or (pages_by test rest) (i - total front) false
mark_rest test front rest i h = ap (λ t. get_or t i false) (pages_by-append test front rest) ∙ get_or-append_right (pages_by test front) (pages_by test rest) (total front) i false (length-pages_by test front) h

-- each page of a unit has the mark of the unit
pub mark_unit : (test : Unit → Bool) (front rest : List Unit) (u : Unit) (i : ℕ) → i < size_of u → get_or (pages_by test (front ++ u ∷ rest)) (total front + i) false ≡ test u
mark_unit test front rest u i h =
    let back : total front + i - total front ≡ i = omega arith in
    mark_rest test front (u ∷ rest) (total front + i) (omega arith)
    ∙ ap (λ j. get_or (replicate (size_of u) (test u) ++ pages_by test rest) j false) back
    ∙ get_or_append_left (replicate (size_of u) (test u)) (pages_by test rest) false i (omega (arith, length-replicate {A = Bool} (size_of u) (test u)))
    ∙ get_or-replicate (size_of u) i (test u) false h

-- no page behind the last has a mark
pub mark_past : (test : Unit → Bool) (us : List Unit) (i : ℕ) → total us ≤ i → get_or (pages_by test us) i false ≡ false
mark_past test us i h = get_or_past (pages_by test us) i false (omega (arith, length-pages_by test us))

-- a run is inside, so many pages long
pub run_inside : (test : Unit → Bool) (us : List Unit) (page n : ℕ) → 1 ≤ n → IsRun (pages_by test us) page n → page + n ≤ total us
run_inside test us page n some run =
    ⊎_elim
    (λ (h : total us < page + n). absurd (false_true (sym (mark_past test us (page + n - 1) (omega arith)) ∙ run (page + n - 1) (omega arith) (omega arith))))
    (λ (h : page + n ≤ total us). h)
    (cases_lt (total us) (page + n))
  where
    false_true : false ≡ true → ⊥
    false_true e = cc
