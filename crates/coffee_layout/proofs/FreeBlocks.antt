-- A run of free pages is a block of free units.
use Rattle.std.proofs.Common.{◌≡◌, ℕ, zero, suc, ◌+◌, ◌-◌, ◌≤◌, ◌<◌, ⊎_elim, Bool, true, false, List, [], ◌∷◌, ◌++◌, replicate, get_or, refl, ap, sym, subst, ◌∙◌, arith}
use Rattle.std.proofs.lemmas.Bool.{cases_lt}
use Rattle.std.proofs.lemmas.List.{get_or_append_left, get_or-append_right, get_or-replicate, get_or_past, length-replicate}
use Rattle.coffee_layout.specs.Marks.{IsRun, free_pages}
use Rattle.coffee_layout.specs.Tiling.{KeepRules}
use Rattle.coffee_layout.specs.Units.{is_free, size_of, total}
use Rattle.coffee_layout.specs.declared.unit.Unit.{Unit}
use Rattle.coffee_layout.specs.declared.unit.Unit.TheVariants.{Free, Isolated, Extent}
use Rattle.coffee_layout.proofs.Tilings.{kept_some}

pub mark_front : (b : Bool) (marks : List Bool) (n i : ℕ) → i < n → get_or (replicate n b ++ marks) i false ≡ b
mark_front b marks n i h = get_or_append_left (replicate n b) marks false i (omega (arith, length-replicate {A = Bool} n b)) ∙ get_or-replicate n i b false h

pub mark_behind : (b : Bool) (marks : List Bool) (n i : ℕ) → get_or (replicate n b ++ marks) (n + i) false ≡ get_or marks i false
mark_behind b marks n i =
    let e : n + i - n ≡ i = omega arith in
    get_or-append_right (replicate n b) marks n (n + i) false (length-replicate {A = Bool} n b) (omega arith) ∙ ap (λ k. get_or marks k false) e

-- a run behind the first unit is one of the units behind it
run_behind : (u : Unit) (us : List Unit) (page n : ℕ) → IsRun (free_pages (u ∷ us)) (size_of u + page) n → IsRun (free_pages us) page n
run_behind u us page n run = λ i low high. sym (mark_behind (is_free u) (free_pages us) (size_of u) i) ∙ run (size_of u + i) (omega arith) (omega arith)

pub not_both : (b : Bool) → b ≡ true → b ≡ false → ⊥
not_both true e f = cc
not_both false e f = cc

-- so many free units in front
pub record FreeFront (us : List Unit) (n : ℕ) : Type 0 where
  pub rest : List Unit
  pub whole : us ≡ replicate n Free ++ rest

-- the unit whose page is free is a free page
first_free : (u : Unit) (us : List Unit) → 1 ≤ size_of u → get_or (free_pages (u ∷ us)) 0 false ≡ true → u ≡ Free
first_free Free us some m = refl
first_free Isolated us some m = cc
first_free (Extent h) us some m = absurd (not_both (get_or (free_pages (Extent h ∷ us)) 0 false) m (mark_front false (free_pages us) h.max_pages 0 some))

pub free_front : (building : ℕ → Bool) (image : List ℕ) (us : List Unit) (at : ℕ) (free : Bool) (n : ℕ) → KeepRules building image at free us → IsRun (free_pages us) 0 n → FreeFront us n
free_front building image us at free zero k run = record { rest = us; whole = refl }
free_front building image [] at free (suc n) k run = absurd (not_both (get_or [] 0 false) (run 0 (omega arith) (omega arith)) (get_or_past [] 0 false (omega arith)))
free_front building image (u ∷ us) at free (suc n) k run =
    let is : u ≡ Free = first_free u us (kept_some building image at free u k.0 k.1) (run 0 (omega arith) (omega arith)) in
    let one : size_of u ≡ 1 = ap size_of is in
    let more = free_front building image us (at + size_of u) (is_free u) n k.2 (run_behind u us 0 n (λ i low high. run i (omega arith) (omega arith))) in
    record { rest = more.rest; whole = ap (λ v. v ∷ us) is ∙ ap (λ t. Free ∷ t) more.whole }

-- the units before a run, and those behind it
pub record FreeBlock (us : List Unit) (page n : ℕ) : Type 0 where
  pub front : List Unit
  pub rest : List Unit
  pub whole : us ≡ front ++ (replicate n Free ++ rest)
  pub place : total front ≡ page

pub free_block : (building : ℕ → Bool) (image : List ℕ) (us : List Unit) (at : ℕ) (free : Bool) (page n : ℕ) → 1 ≤ n → KeepRules building image at free us → IsRun (free_pages us) page n → FreeBlock us page n
free_block building image [] at free page n some k run = absurd (not_both (get_or [] page false) (run page (omega arith) (omega arith)) (get_or_past [] page false (omega arith)))
free_block building image (u ∷ us) at free page n some k run =
    ⊎_elim
    (λ (here : page < size_of u).
    let used = kept_some building image at free u k.0 k.1 in
    let f : is_free u ≡ true = sym (mark_front (is_free u) (free_pages us) (size_of u) page here) ∙ run page (omega arith) (omega arith) in
    let is : u ≡ Free = first_free u us used (mark_front (is_free u) (free_pages us) (size_of u) 0 used ∙ f) in
    let one : size_of u ≡ 1 = ap size_of is in
    let at_front : 0 ≡ page = omega arith in
    let block = free_front building image (u ∷ us) at free n k (subst (λ p. IsRun (free_pages (u ∷ us)) p n) (sym at_front) run) in
    record { front = []; rest = block.rest; whole = block.whole; place = at_front })
    (λ (behind : size_of u ≤ page).
    let e : page ≡ size_of u + (page - size_of u) = omega arith in
    let more = free_block building image us (at + size_of u) (is_free u) (page - size_of u) n some k.2 (run_behind u us (page - size_of u) n (subst (λ p. IsRun (free_pages (u ∷ us)) p n) e run)) in
    record { front = u ∷ more.front; rest = more.rest; whole = ap (λ t. u ∷ t) more.whole; place = omega (arith, more.place) })
    (cases_lt page (size_of u))
