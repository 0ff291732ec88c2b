-- What begins at a page, among the units of an image.
use Rattle.std.proofs.Common.{◌≡◌, ◌≢◌, ⊎_elim, ℕ, ◌+◌, ◌-◌, ◌≤◌, ◌<◌, Bool, true, false, ◌==◌, List, [], ◌∷◌, ◌++◌, get_or, Option, None, Some, if◌then◌else◌, refl, ap, sym, subst, ◌∙◌, arith}
use Rattle.std.specs.Prelude.{⊤}
use Rattle.std.specs.List.{filter}
use Rattle.std.proofs.lemmas.Bool.{cases_eq, cases_lt}
use Rattle.coffee_header.specs.declared.header.Header.{Header}
use Rattle.coffee_layout.specs.Files.{Placed, extents}
use Rattle.coffee_layout.specs.Marks.{pages_by}
use Rattle.coffee_layout.specs.Tiling.{IsTiled, KeepRules}
use Rattle.coffee_layout.specs.Units.{is_active_flags, size_of, total}
use Rattle.coffee_layout.specs.declared.unit.Unit.{Unit}
use Rattle.coffee_layout.specs.declared.unit.Unit.TheVariants.{Free, Isolated, Extent}
use Rattle.coffee_layout.proofs.Frames.{total-append}
use Rattle.coffee_layout.proofs.MarkLaws.{mark_unit}
use Rattle.coffee_layout.proofs.Tests.{eq_false}
use Rattle.coffee_layout.proofs.Tilings.{kept_some}
use Rattle.coffee_space.specs.Collection.{active_extents, is_active_extent}
use Rattle.coffee_merge.specs.Begun.{active_at, active_header, unit_begun}
use Rattle.padded.proofs.Facts.{eq_true}

-- PAGES

-- each of the units has a page
abbrev pub HavePages : List Unit → Type 0
HavePages [] = ⊤
HavePages (u ∷ us) = (1 ≤ size_of u) × HavePages us

pub pages_kept : (building : ℕ → Bool) (image : List ℕ) (us : List Unit) (page : ℕ) (free : Bool) → KeepRules building image page free us → HavePages us
pages_kept building image [] page free k = tt
pages_kept building image (u ∷ us) page free k =
    (kept_some building image page free u k.0 k.1, pages_kept building image us (page + size_of u) _ k.2)

-- as those of a tiling have
pub have_pages : (building : ℕ → Bool) (image : List ℕ) (us : List Unit) → IsTiled building image us → HavePages us
have_pages building image us t = pages_kept building image us 0 false t.keep

pub pages_front : (front rest : List Unit) → HavePages (front ++ rest) → HavePages front
pages_front [] rest h = tt
pages_front (u ∷ us) rest h = (h.0, pages_front us rest h.1)

pub pages_rest : (front rest : List Unit) → HavePages (front ++ rest) → HavePages rest
pages_rest [] rest h = h
pages_rest (u ∷ us) rest h = pages_rest us rest h.1

-- THE UNIT AT A PAGE

pub begun_here : (u : Unit) (us : List Unit) (from page : ℕ) → from ≡ page → unit_begun (u ∷ us) from page ≡ Some u
begun_here u us from page e = rw (eq_true from page e) refl

pub begun_there : (u : Unit) (us : List Unit) (from page : ℕ) → (from ≡ page → ⊥) → unit_begun (u ∷ us) from page ≡ unit_begun us (from + size_of u) page
begun_there u us from page e = rw (eq_false from page e) refl

-- no unit begins before the first
pub begun_before : (us : List Unit) (from page : ℕ) → HavePages us → page < from → unit_begun us from page ≡ None
begun_before [] from page h before = refl
begun_before (u ∷ us) from page h before = begun_there u us from page (λ e. omega arith) ∙ begun_before us (from + size_of u) page h.1 (omega arith)

-- a unit that begins among others does so at their first page or behind it
pub begun_from : (us : List Unit) (from page : ℕ) (u : Unit) → HavePages us → unit_begun us from page ≡ Some u → from ≤ page
begun_from us from page u h is =
    ⊎_elim
    (λ (a : page < from). let none : None ≡ Some u = sym (begun_before us from page h a) ∙ is in absurd (let e : ⊥ = cc in e))
    (λ (a : from ≤ page). a)
    (cases_lt page from)

-- of two lists the first says what begins at its pages, the second what begins behind
pub begun_front : (front rest : List Unit) (from page : ℕ) → HavePages rest → page < from + total front → unit_begun (front ++ rest) from page ≡ unit_begun front from page
begun_front [] rest from page h before = begun_before rest from page h (omega arith)
begun_front (u ∷ us) rest from page h before =
    ap (λ o. if from == page then Some u else o) (begun_front us rest (from + size_of u) page h (omega arith))

pub begun_rest : (front rest : List Unit) (from end page : ℕ) → HavePages front → end ≡ from + total front → end ≤ page → unit_begun (front ++ rest) from page ≡ unit_begun rest end page
begun_rest [] rest from end page h e behind = let s : from ≡ end = omega arith in ap (λ p. unit_begun rest p page) s
begun_rest (u ∷ us) rest from end page h e behind =
    let some = h.0 in
    begun_there u (us ++ rest) from page (λ s. omega arith) ∙ begun_rest us rest (from + size_of u) end page h.1 (omega arith) behind

-- SPLITS

-- a unit of a list, at a page
pub record Split (us : List Unit) (page : ℕ) (u : Unit) : Type 0 where
  pub front : List Unit
  pub rest : List Unit
  pub whole : us ≡ front ++ (u ∷ rest)
  pub place : total front ≡ page

record SplitFrom (us : List Unit) (from page : ℕ) (u : Unit) : Type 0 where
  front : List Unit
  rest : List Unit
  whole : us ≡ front ++ (u ∷ rest)
  place : from + total front ≡ page

split_here : (v u : Unit) (us : List Unit) (from page : ℕ) → from ≡ page → unit_begun (v ∷ us) from page ≡ Some u → SplitFrom (v ∷ us) from page u
split_here v u us from page e is =
    let same : Some v ≡ Some u = sym (begun_here v us from page e) ∙ is in
    let here : v ≡ u = cc in
    record { front = []; rest = us; whole = ap (λ w. w ∷ us) here; place = omega arith }

split_from : (us : List Unit) (from page : ℕ) (u : Unit) → unit_begun us from page ≡ Some u → SplitFrom us from page u
split_from [] from page u is = cc
split_from (v ∷ us) from page u is =
    ⊎_elim
    (λ (e : from ≡ page). split_here v u us from page e is)
    (λ (e : from ≢ page).
    let more = split_from us (from + size_of v) page u (sym (begun_there v us from page e) ∙ is) in
    record { front = v ∷ more.front; rest = more.rest; whole = ap (λ t. v ∷ t) more.whole; place = omega (arith, more.place) })
    (cases_eq from page)

pub begun_split : (us : List Unit) (page : ℕ) (u : Unit) → unit_begun us 0 page ≡ Some u → Split us page u
begun_split us page u is =
    let s = split_from us 0 page u is in
    record { front = s.front; rest = s.rest; whole = s.whole; place = omega (arith, s.place) }

pub split_begun : (us : List Unit) (page : ℕ) (u : Unit) → HavePages us → Split us page u → unit_begun us 0 page ≡ Some u
split_begun us page u h s =
    let place = s.place in
    let parts : HavePages (s.front ++ (u ∷ s.rest)) = subst HavePages s.whole h in
    ap (λ vs. unit_begun vs 0 page) s.whole
    ∙ begun_rest s.front (u ∷ s.rest) 0 page page (pages_front s.front (u ∷ s.rest) parts) (omega arith) (omega arith)
    ∙ begun_here u s.rest page page refl

-- ONE UNIT IN PLACE OF A BLOCK

-- a unit has taken the place of so many pages, and all others are as before
pub record IsReplaced (us vs : List Unit) (u : Unit) (at n : ℕ) : Type 0 where
  pub here : unit_begun vs 0 at ≡ Some u
  pub inside : (page : ℕ) → at < page → page < at + n → unit_begun vs 0 page ≡ None
  pub before : (page : ℕ) → page < at → unit_begun vs 0 page ≡ unit_begun us 0 page
  pub behind : (page : ℕ) → at + n ≤ page → unit_begun vs 0 page ≡ unit_begun us 0 page

pub begun_replaced : (front block rest : List Unit) (u : Unit) → HavePages (front ++ (block ++ rest)) → HavePages (front ++ (u ∷ rest)) → size_of u ≡ total block
    → IsReplaced (front ++ (block ++ rest)) (front ++ (u ∷ rest)) u (total front) (total block)
begun_replaced front block rest u h k size =
    let fronts = pages_front front (block ++ rest) h in
    let old = pages_rest front (block ++ rest) h in
    let new = pages_rest front (u ∷ rest) k in
    let past : (page : ℕ) → total front < page → unit_begun (front ++ (u ∷ rest)) 0 page ≡ unit_begun rest (total front + size_of u) page =
    λ page a. begun_rest front (u ∷ rest) 0 (total front) page fronts (omega arith) (omega arith) ∙ begun_there u rest (total front) page (λ e. omega arith) in
    record {
      here = begun_rest front (u ∷ rest) 0 (total front) (total front) fronts (omega arith) (omega arith) ∙ begun_here u rest (total front) (total front) refl;
      inside = λ page a b. past page a ∙ begun_before rest (total front + size_of u) page new.1 (omega arith);
      before = λ page a. begun_front front (u ∷ rest) 0 page new (omega arith) ∙ sym (begun_front front (block ++ rest) 0 page old (omega arith));
      behind = λ page a.
          let some = new.0 in
          past page (omega arith)
          ∙ ap (λ n. unit_begun rest (total front + n) page) size
          ∙ sym (begun_rest block rest (total front) (total front + total block) page (pages_front block rest old) refl a)
          ∙ sym (begun_rest front (block ++ rest) 0 (total front) page fronts (omega arith) (omega arith));
    }

-- what begins at the other pages, where one unit gives way to one of its size
pub begun_other : (front rest : List Unit) (u v : Unit) (from page : ℕ) → size_of u ≡ size_of v → page ≢ from + total front → unit_begun (front ++ (u ∷ rest)) from page ≡ unit_begun (front ++ (v ∷ rest)) from page
begun_other [] rest u v from page size other =
    begun_there u rest from page (λ e. other (omega arith)) ∙ ap (λ n. unit_begun rest (from + n) page) size ∙ sym (begun_there v rest from page (λ e. other (omega arith)))
begun_other (w ∷ ws) rest u v from page size other = ap (λ o. if from == page then Some w else o) (begun_other ws rest u v (from + size_of w) page size (λ e. other (omega arith)))

-- WHAT A UNIT SAYS OF ITS PAGES

pub begun_inside : (us : List Unit) (page : ℕ) (u : Unit) → HavePages us → unit_begun us 0 page ≡ Some u → (1 ≤ size_of u) × (page + size_of u ≤ total us)
begun_inside us page u h is =
    let s = begun_split us page u is in
    let place = s.place in
    let whole : total us ≡ total s.front + (size_of u + total s.rest) = ap total s.whole ∙ total-append s.front (u ∷ s.rest) in
    ((pages_rest s.front (u ∷ s.rest) (subst HavePages s.whole h)).0, omega arith)

pub begun_marks : (test : Unit → Bool) (us : List Unit) (page : ℕ) (u : Unit) (q : ℕ) → unit_begun us 0 page ≡ Some u → page ≤ q → q < page + size_of u → get_or (pages_by test us) q false ≡ test u
begun_marks test us page u q is low high =
    let s = begun_split us page u is in
    let place = s.place in
    let back : q ≡ total s.front + (q - page) = omega arith in
    ap (λ vs. get_or (pages_by test vs) q false) s.whole ∙ ap (λ k. get_or (pages_by test (s.front ++ (u ∷ s.rest))) k false) back ∙ mark_unit test s.front s.rest u (q - page) (omega arith)

-- a unit that begins later does so behind the pages of the first
pub begun_order : (us : List Unit) (page other : ℕ) (u v : Unit) → HavePages us → unit_begun us 0 page ≡ Some u → unit_begun us 0 other ≡ Some v → page < other → page + size_of u ≤ other
begun_order us page other u v h is second less =
    let s = begun_split us page u is in
    let place = s.place in
    let parts : HavePages (s.front ++ (u ∷ s.rest)) = subst HavePages s.whole h in
    begun_from s.rest (page + size_of u) other v (pages_rest s.front (u ∷ s.rest) parts).1
    (sym (begun_there u s.rest page other (λ e. omega arith))
    ∙ sym (begun_rest s.front (u ∷ s.rest) 0 page other (pages_front s.front (u ∷ s.rest) parts) (omega arith) (omega arith))
    ∙ ap (λ vs. unit_begun vs 0 other) (sym s.whole) ∙ second)

-- two units that begin at different pages have no page in common
pub begun_apart : (us : List Unit) (page other : ℕ) (u v : Unit) → HavePages us → unit_begun us 0 page ≡ Some u → unit_begun us 0 other ≡ Some v → page ≢ other
    → (q : ℕ) → page ≤ q → q < page + size_of u → other ≤ q → q < other + size_of v → ⊥
begun_apart us page other u v h is second apart q a b c d =
    ⊎_elim
    (λ (l : page < other). let o = begun_order us page other u v h is second l in omega arith)
    (λ (l : other ≤ page). let o = begun_order us other page v u h second is (omega arith) in omega arith)
    (cases_lt page other)

-- ACTIVE EXTENTS

-- what is active at a page is an extent that begins there
pub active_begun : (us : List Unit) (page : ℕ) (h : Header) → active_at us page ≡ Some h → (unit_begun us 0 page ≡ Some (Extent h)) × (is_active_flags h.flags ≡ true)
active_begun us page h is = of_unit (unit_begun us 0 page) h is
  where
    of_flags : (t : Bool) (g h : Header) → is_active_flags g.flags ≡ t → (if t then Some g else None) ≡ Some h → (Some (Extent g) ≡ Some (Extent h)) × (is_active_flags h.flags ≡ true)
    of_flags true g h e is = let same : g ≡ h = cc in (ap (λ x. Some (Extent x)) same, ap (λ x. is_active_flags x.flags) (sym same) ∙ e)
    of_flags false g h e is = cc

    of_unit : (o : Option Unit) (h : Header) → active_header o ≡ Some h → (o ≡ Some (Extent h)) × (is_active_flags h.flags ≡ true)
    of_unit None h is = cc
    of_unit (Some Free) h is = cc
    of_unit (Some Isolated) h is = cc
    of_unit (Some (Extent g)) h is = of_flags (is_active_flags g.flags) g h refl is

pub begun_active : (us : List Unit) (page : ℕ) (h : Header) → unit_begun us 0 page ≡ Some (Extent h) → is_active_flags h.flags ≡ true → active_at us page ≡ Some h
begun_active us page h is e = ap active_header is ∙ (rw e refl)

-- the header of the one of these extents that stands at a page
header_at : List Placed → ℕ → Option Header
header_at [] page = None
header_at (e ∷ es) page = if e.page == page then Some e.header else header_at es page

-- an extent that is active is the first, and one that is not is left out
extent_here : (t : Bool) (g : Header) (from page : ℕ) (es : List Placed) → from ≡ page → is_active_flags g.flags ≡ t → header_at (filter is_active_extent es) page ≡ None
    → active_header (Some (Extent g)) ≡ header_at (filter is_active_extent (record { page = from; header = g } ∷ es)) page
unfolding header_at
extent_here true g from page es e a none = rw (a, eq_true from page e) refl
extent_here false g from page es e a none = rw a (sym none)

extent_there : (t : Bool) (g : Header) (from page : ℕ) (es : List Placed) (o : Option Header) → (from ≡ page → ⊥) → is_active_flags g.flags ≡ t → o ≡ header_at (filter is_active_extent es) page
    → o ≡ header_at (filter is_active_extent (record { page = from; header = g } ∷ es)) page
unfolding header_at
extent_there true g from page es o e a same = rw (a, eq_false from page e) same
extent_there false g from page es o e a same = rw a same

active_from : (us : List Unit) (from page : ℕ) → HavePages us → active_header (unit_begun us from page) ≡ header_at (filter is_active_extent (extents from us)) page
unfolding header_at
active_from [] from page h = refl
active_from (Free ∷ us) from page h =
    let more = active_from us (from + 1) page h.1 in
    ⊎_elim
    (λ (e : from ≡ page). ap active_header (begun_here Free us from page e) ∙ sym (ap active_header (begun_before us (from + 1) page h.1 (omega arith))) ∙ more)
    (λ (e : from ≢ page). ap active_header (begun_there Free us from page e) ∙ more)
    (cases_eq from page)
active_from (Isolated ∷ us) from page h =
    let more = active_from us (from + 1) page h.1 in
    ⊎_elim
    (λ (e : from ≡ page). ap active_header (begun_here Isolated us from page e) ∙ sym (ap active_header (begun_before us (from + 1) page h.1 (omega arith))) ∙ more)
    (λ (e : from ≢ page). ap active_header (begun_there Isolated us from page e) ∙ more)
    (cases_eq from page)
active_from (Extent g ∷ us) from page h =
    let some = h.0 in
    let more = active_from us (from + g.max_pages) page h.1 in
    ⊎_elim
    (λ (e : from ≡ page).
    ap active_header (begun_here (Extent g) us from page e)
    ∙ extent_here (is_active_flags g.flags) g from page (extents (from + g.max_pages) us) e refl (sym more ∙ ap active_header (begun_before us (from + g.max_pages) page h.1 (omega arith))))
    (λ (e : from ≢ page).
    ap active_header (begun_there (Extent g) us from page e)
    ∙ extent_there (is_active_flags g.flags) g from page (extents (from + g.max_pages) us) (active_header (unit_begun us (from + g.max_pages) page)) e refl more)
    (cases_eq from page)

-- tilings with the same active extents have the same one at each page
pub active_same : (us vs : List Unit) (page : ℕ) → HavePages us → HavePages vs → active_extents us ≡ active_extents vs → active_at us page ≡ active_at vs page
active_same us vs page h k same =
    active_from us 0 page h ∙ ap (λ es. header_at es page) same ∙ sym (active_from vs 0 page k)
