-- In a cramped image the sectors without an active page are few.
use Rattle.std.proofs.Common.{◌≡◌, ℕ, ◌+◌, ◌-◌, ◌*◌, ◌/◌, ◌≤◌, ◌<◌, ⊎_elim, Bool, true, false, not, ◌&&◌, List, [], ◌∷◌, replicate, get_or, if◌then◌else◌, refl, ap, sym, ◌∙◌, arith}
use Rattle.std.specs.List.{list_any}
use Rattle.std.proofs.lemmas.Bool.{cases_lt}
use Rattle.std.proofs.lemmas.List.{get_or-replicate, get_or_append_left, get_or-append_right, length-replicate}
use Rattle.coffee_layout.specs.Marks.{IsCramped, active_pages, free_pages, in_sector, pages_by, used_pages}
use Rattle.coffee_layout.specs.Units.{is_active, is_active_flags, is_free, size_of, total}
use Rattle.coffee_layout.specs.declared.unit.Unit.{Unit}
use Rattle.coffee_layout.specs.declared.unit.Unit.TheVariants.{Free, Isolated, Extent}
use Rattle.coffee_space.proofs.SectorMarks.{any_each, any_none}
use Rattle.coffee_merge.proofs.Begun.{HavePages}
use Rattle.afl_base.specs.Shares.{gap_for}
use Rattle.coffee_merge.proofs.ExtentShares.{reach, spread}
use Rattle.padded.proofs.Facts.{not_alone}

-- ---- pages

mark_here : (test : Unit → Bool) (u : Unit) (us : List Unit) (i : ℕ) → i < size_of u → get_or (pages_by test (u ∷ us)) i false ≡ test u
mark_here test u us i h =
    get_or_append_left (replicate (size_of u) (test u)) (pages_by test us) false i (omega (arith, length-replicate {A = Bool} (size_of u) (test u)))
    ∙ get_or-replicate (size_of u) i (test u) false h

mark_there : (test : Unit → Bool) (u : Unit) (us : List Unit) (i : ℕ) → get_or (pages_by test (u ∷ us)) (size_of u + i) false ≡ get_or (pages_by test us) i false
mark_there test u us i =
    let back : size_of u + i - size_of u ≡ i = omega arith in
    get_or-append_right (replicate (size_of u) (test u)) (pages_by test us) (size_of u) (size_of u + i) false (length-replicate {A = Bool} (size_of u) (test u)) (omega arith)
    ∙ ap (λ k. get_or (pages_by test us) k false) back

-- a page that is not in use is free
free_there : (us : List Unit) (i : ℕ) → i < total us → get_or (used_pages us) i false ≡ false → get_or (free_pages us) i false ≡ true
free_there [] i h e = absurd (omega arith)
free_there (u ∷ us) i h e = ⊎_elim
    (λ (here : i < size_of u). mark_here is_free u us i here ∙ turned (is_free u) (sym (mark_here (λ v. not (is_free v)) u us i here) ∙ e))
    (λ (there : size_of u ≤ i).
    let back : i ≡ size_of u + (i - size_of u) = omega arith in
    ap (λ k. get_or (free_pages (u ∷ us)) k false) back ∙ mark_there is_free u us (i - size_of u)
    ∙ free_there us (i - size_of u) (omega arith) (sym (mark_there (λ v. not (is_free v)) u us (i - size_of u)) ∙ ap (λ k. get_or (used_pages (u ∷ us)) k false) (sym back) ∙ e))
    (cases_lt i (size_of u))
  where
    turned : (b : Bool) → not b ≡ false → b ≡ true
    turned true e = refl
    turned false e = cc

-- ---- gaps

-- sectors without an active page, one behind the other, are free, and so few
pub gap_few : (us : List Unit) (n a b : ℕ) → IsCramped us n → 1 ≤ n → a ≤ b → 16 * b ≤ total us
    → ((q : ℕ) → 16 * a ≤ q → q < 16 * b → get_or (active_pages us) q false ≡ false) → b ≤ a + gap_for n
gap_few us n a b c some order within quiet = ⊎_elim
    (λ (far : a + gap_for n < b). absurd (c.full (16 * a) (λ i low high. free_in i low (omega arith))))
    (λ (near : b ≤ a + gap_for n). near)
    (cases_lt (a + gap_for n) b)
  where
    free_in : (i : ℕ) → 16 * a ≤ i → i < 16 * b → get_or (free_pages us) i false ≡ true
    free_in i low high =
        let s : ℕ = i / 16 in
        let idle = any_none (active_pages us) (16 * s) (16 * s + 16) (λ q l h. quiet q (omega arith) (omega arith)) in
        let unused = not_alone (list_any (λ m. m) (in_sector (used_pages us) s)) (list_any (λ m. m) (in_sector (active_pages us) s)) (c.kept s) idle in
        free_there us i (omega arith) (any_each (used_pages us) (16 * s) (16 * s + 16) i unused (omega arith) (omega arith))

-- ---- the walk over the units

-- where a walk stands: at a page of all the units, and no page before it is active from a sector on
record Stands (all : List Unit) (sectors : ℕ) (us : List Unit) (page from : ℕ) : Type 0 where
  have : HavePages us
  sum : page + total us ≡ total all
  same : (i : ℕ) → get_or (active_pages us) i false ≡ get_or (active_pages all) (page + i) false
  within : from ≤ sectors
  near : from ≤ (page + 15) / 16
  quiet : (q : ℕ) → 16 * from ≤ q → q < page → get_or (active_pages all) q false ≡ false

onward : (all : List Unit) (sectors : ℕ) (u : Unit) (us : List Unit) (page from : ℕ) → Stands all sectors (u ∷ us) page from
    → (i : ℕ) → get_or (active_pages us) i false ≡ get_or (active_pages all) (page + size_of u + i) false
onward all sectors u us page from s i =
    let e : page + (size_of u + i) ≡ page + size_of u + i = omega arith in
    sym (mark_there is_active u us i) ∙ s.same (size_of u + i) ∙ ap (λ k. get_or (active_pages all) k false) e

-- behind a unit that is not active
stands_idle : (all : List Unit) (sectors : ℕ) (u : Unit) (us : List Unit) (page from : ℕ) → is_active u ≡ false → Stands all sectors (u ∷ us) page from → Stands all sectors us (page + size_of u) from
stands_idle all sectors u us page from e s =
    let sum = s.sum in
    let near = s.near in
    record {
      have = s.have.1;
      sum = omega arith;
      same = onward all sectors u us page from s;
      within = s.within;
      near = omega arith;
      quiet = λ q l h. ⊎_elim
          (λ (before : q < page). s.quiet q l before)
          (λ (here : page ≤ q).
          let back : page + (q - page) ≡ q = omega arith in
          ap (λ k. get_or (active_pages all) k false) (sym back) ∙ sym (s.same (q - page)) ∙ mark_here is_active u us (q - page) (omega arith) ∙ e)
          (cases_lt q page);
    }

-- behind one that is
stands_active : (all : List Unit) (sectors : ℕ) (u : Unit) (us : List Unit) (page from : ℕ) → 16 * sectors ≡ total all → Stands all sectors (u ∷ us) page from → Stands all sectors us (page + size_of u) ((page + size_of u + 15) / 16)
stands_active all sectors u us page from whole s =
    let sum = s.sum in
    record {
      have = s.have.1;
      sum = omega arith;
      same = onward all sectors u us page from s;
      within = omega arith;
      near = omega arith;
      quiet = λ q l h. absurd (omega arith);
    }

-- the sector in which it begins
begins_near : (all : List Unit) (n sectors : ℕ) (u : Unit) (us : List Unit) (page from : ℕ) → IsCramped all n → 1 ≤ n → Stands all sectors (u ∷ us) page from → page / 16 ≤ from + gap_for n
begins_near all n sectors u us page from c some s = ⊎_elim
    (λ (inside : page / 16 < from). omega arith)
    (λ (gap : from ≤ page / 16). let sum = s.sum in gap_few all n from (page / 16) c some gap (omega arith) (λ q l h. s.quiet q l (omega arith)))
    (cases_lt (page / 16) from)

walk : (all : List Unit) (n sectors : ℕ) → IsCramped all n → 1 ≤ n → 16 * sectors ≡ total all
    → (us : List Unit) (page from : ℕ) → Stands all sectors us page from → sectors ≤ from + spread (gap_for n) us + gap_for n
walk all n sectors c some whole [] page from s =
    let sum = s.sum in
    let few = gap_few all n from sectors c some s.within (omega arith) (λ q l h. s.quiet q l (omega arith)) in
    omega (arith, few)
walk all n sectors c some whole (Free ∷ us) page from s = walk all n sectors c some whole us (page + 1) from (stands_idle all sectors Free us page from refl s)
walk all n sectors c some whole (Isolated ∷ us) page from s = walk all n sectors c some whole us (page + 1) from (stands_idle all sectors Isolated us page from refl s)
walk all n sectors c some whole (Extent h ∷ us) page from s =
    by_flags (is_active_flags h.flags) refl
    (λ e. walk all n sectors c some whole us (page + h.max_pages) from (stands_idle all sectors (Extent h) us page from e s))
    (walk all n sectors c some whole us (page + h.max_pages) ((page + h.max_pages + 15) / 16) (stands_active all sectors (Extent h) us page from whole s))
  where
    by_flags : (b : Bool) → is_active_flags h.flags ≡ b → (is_active_flags h.flags ≡ false → sectors ≤ from + spread (gap_for n) us + gap_for n)
        → sectors ≤ (page + h.max_pages + 15) / 16 + spread (gap_for n) us + gap_for n
        → sectors ≤ from + ((if b then reach h.max_pages + gap_for n else 0) + spread (gap_for n) us) + gap_for n
    by_flags true e idle active = let near = begins_near all n sectors (Extent h) us page from c some s in omega (arith, active, near)
    by_flags false e idle active = let few = idle e in omega (arith, few)

-- so many sectors suffice for a cramped image
pub cramped_spread : (us : List Unit) (n sectors : ℕ) → IsCramped us n → 1 ≤ n → 16 * sectors ≡ total us → HavePages us → sectors ≤ spread (gap_for n) us + gap_for n
cramped_spread us n sectors c some whole have =
    let start : Stands us sectors us 0 0 = record {
      have = have;
      sum = omega arith;
      same = λ i. let e : i ≡ 0 + i = omega arith in ap (λ k. get_or (active_pages us) k false) e;
      within = omega arith;
      near = omega arith;
      quiet = λ q l h. absurd (omega arith);
    } in
    let few = walk us n sectors c some whole us 0 0 start in omega (arith, few)
