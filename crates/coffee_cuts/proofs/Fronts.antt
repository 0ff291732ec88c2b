-- Units of two images that begin alike, and the active extents among units.
use Rattle.std.proofs.Common.{◌≡◌, ◌⊎◌, inl, inr, ⊎_elim, ℕ, zero, suc, ◌+◌, ◌-◌, ◌<◌, ◌≤◌, Bool, true, false, List, [], ◌∷◌, ◌++◌, get_or, Some, refl, ap, sym, subst, ◌∙◌, arith}
use Rattle.std.specs.Prelude.{cond}
use Rattle.std.specs.List.{filter}
use Rattle.std.proofs.lemmas.Bool.{cases_lt}
use Rattle.coffee_header.specs.declared.header.Header.{Header}
use Rattle.coffee_layout.specs.Files.{Placed, extents}
use Rattle.coffee_layout.specs.Marks.{active_pages}
use Rattle.coffee_layout.specs.Tiling.{KeepRules, StandFrom}
use Rattle.coffee_layout.specs.Units.{is_active, is_active_flags, is_free, size_of, total}
use Rattle.coffee_layout.specs.declared.unit.Unit.{Unit}
use Rattle.coffee_layout.specs.declared.unit.Unit.TheVariants.{Extent, Free, Isolated}
use Rattle.coffee_layout.proofs.FreeBlocks.{mark_behind, mark_front}
use Rattle.coffee_layout.proofs.Tilings.{kept_some}
use Rattle.coffee_merge.specs.Begun.{unit_begun}
use Rattle.coffee_merge.proofs.Begun.{HavePages, begun_from, begun_here, begun_there}
use Rattle.coffee_space.specs.Collection.{is_active_extent}
use Rattle.coffee_cuts.proofs.Reached.{same_unit}

-- UNITS THAT STAND IN AN IMAGE

pub stand_kept : (building : ℕ → Bool) (image : List ℕ) (us : List Unit) (page : ℕ) (free : Bool) → KeepRules building image page free us → StandFrom image page us
stand_kept building image [] page free k = tt
stand_kept building image (u ∷ us) page free k = (k.0, kept_some building image page free u k.0 k.1, stand_kept building image us (page + size_of u) (is_free u) k.2)

pub stand_append : (image : List ℕ) (us vs : List Unit) (page end : ℕ) → end ≡ page + total us → StandFrom image page us → StandFrom image end vs → StandFrom image page (us ++ vs)
stand_append image [] vs page end e s t = let same : end ≡ page = omega (arith, e) in subst (λ p. StandFrom image p vs) same t
stand_append image (u ∷ us) vs page end e s t = (s.0, s.1, stand_append image us vs (page + size_of u) end (omega (arith, e)) s.2 t)

-- a walk over an image begins with all units that stand there one behind the other
pub walk_front : (image : List ℕ) (us vs : List Unit) (page : ℕ) → StandFrom image page us → StandFrom image page vs → total us ≤ total vs → (rest : List Unit) × (vs ≡ us ++ rest)
walk_front image [] vs page s t few = (vs, refl)
walk_front image (u ∷ us) [] page s t few = let some = s.1 in absurd (omega (arith, some, few))
walk_front image (u ∷ us) (v ∷ vs) page s t few =
    let same : v ≡ u = same_unit v u (sym t.0 ∙ s.0) in
    let size : size_of v ≡ size_of u = ap size_of same in
    let r = walk_front image us vs (page + size_of u) s.2 (subst (λ n. StandFrom image (page + n) vs) size t.2) (omega (arith, few, size)) in
    (r.0, ap (λ w. w ∷ vs) same ∙ ap (λ ws. u ∷ ws) r.1)

-- a place is the first page of a unit, or inside of an extent
pub record Boundary (us : List Unit) (at : ℕ) : Type 0 where
  pub front : List Unit
  pub rest : List Unit
  pub whole : us ≡ front ++ rest
  pub place : total front ≡ at

pub record Spanned (us : List Unit) (at : ℕ) : Type 0 where
  pub front : List Unit
  pub header : Header
  pub rest : List Unit
  pub whole : us ≡ front ++ (Extent header ∷ rest)
  pub low : total front < at
  pub high : at < total front + header.max_pages

more_bound : (u : Unit) (us : List Unit) (at : ℕ) → size_of u ≤ at → Boundary us (at - size_of u) → Boundary (u ∷ us) at
more_bound u us at low b = let place = b.place in record { front = u ∷ b.front; rest = b.rest; whole = ap (λ vs. u ∷ vs) b.whole; place = omega (arith, place, low) }

more_spanned : (u : Unit) (us : List Unit) (at : ℕ) → size_of u ≤ at → Spanned us (at - size_of u) → Spanned (u ∷ us) at
more_spanned u us at low b =
    let first = b.low in
    let last = b.high in
    record { front = u ∷ b.front; header = b.header; rest = b.rest; whole = ap (λ vs. u ∷ vs) b.whole; low = omega (arith, first, low); high = omega (arith, last, low) }

pub bound_or_spanned : (us : List Unit) (at : ℕ) → at ≤ total us → Boundary us at ⊎ Spanned us at
bound_or_spanned us zero few = inl (record { front = []; rest = us; whole = refl; place = refl })
bound_or_spanned [] (suc n) few = absurd (omega (arith, few))
bound_or_spanned (u ∷ us) (suc n) few = ⊎_elim
    (λ (within : suc n < size_of u). inr (within_extent u within))
    (λ (behind : size_of u ≤ suc n). ⊎_elim
    (λ (b : Boundary us (suc n - size_of u)). inl (more_bound u us (suc n) behind b))
    (λ (s : Spanned us (suc n - size_of u)). inr (more_spanned u us (suc n) behind s))
    (bound_or_spanned us (suc n - size_of u) (omega (arith, few, behind))))
    (cases_lt (suc n) (size_of u))
  where
    within_extent : (v : Unit) → suc n < size_of v → Spanned (v ∷ us) (suc n)
    within_extent Free within = absurd (omega (arith, within))
    within_extent Isolated within = absurd (omega (arith, within))
    within_extent (Extent h) within = record { front = []; header = h; rest = us; whole = refl; low = omega arith; high = omega (arith, within) }

-- ACTIVE EXTENTS

-- the active ones among units from a page on
abbrev pub actives : ℕ → List Unit → List Placed
actives page us = filter is_active_extent (extents page us)

one_more : Bool → Placed → List Placed → List Placed
one_more b e es = cond b (e ∷ es) es

pub actives_append : (us vs : List Unit) (page end : ℕ) → end ≡ page + total us → actives page (us ++ vs) ≡ actives page us ++ actives end vs
unfolding one_more
actives_append [] vs page end e = let same : page ≡ end = omega (arith, e) in ap (λ p. actives p vs) same
actives_append (Free ∷ us) vs page end e = actives_append us vs (page + 1) end (omega (arith, e))
actives_append (Isolated ∷ us) vs page end e = actives_append us vs (page + 1) end (omega (arith, e))
actives_append (Extent h ∷ us) vs page end e =
    ap (one_more (is_active_flags h.flags) (record { page = page; header = h })) (actives_append us vs (page + h.max_pages) end (omega (arith, e)))
    ∙ turn (is_active_flags h.flags) (record { page = page; header = h }) (actives (page + h.max_pages) us) (actives end vs)
  where
    turn : (b : Bool) (x : Placed) (xs ys : List Placed) → one_more b x (xs ++ ys) ≡ one_more b x xs ++ ys
    turn true x xs ys = refl
    turn false x xs ys = refl

-- an extent that is not active is none of them
pub idle_extent : (h : Header) (us : List Unit) (page : ℕ) → is_active_flags h.flags ≡ false → actives page (Extent h ∷ us) ≡ actives (page + h.max_pages) us
idle_extent h us page idle = rw idle refl

-- an active page belongs to an active extent
pub record MarkedBy (us : List Unit) (from place : ℕ) : Type 0 where
  pub page : ℕ
  pub header : Header
  pub begun : unit_begun us from page ≡ Some (Extent header)
  pub active : is_active_flags header.flags ≡ true
  pub low : page ≤ place
  pub high : place < page + header.max_pages

pub marked_by : (us : List Unit) (from i : ℕ) → HavePages us → get_or (active_pages us) i false ≡ true → MarkedBy us from (from + i)
marked_by [] from i h m = cc
marked_by (u ∷ us) from i h m = ⊎_elim
    (λ (here : i < size_of u). first u here (sym (mark_front (is_active u) (active_pages us) (size_of u) i here) ∙ m))
    (λ (behind : size_of u ≤ i).
    let some = h.0 in
    let back : size_of u + (i - size_of u) ≡ i = omega (arith, behind) in
    let place : from + size_of u + (i - size_of u) ≡ from + i = omega (arith, behind) in
    let r = marked_by us (from + size_of u) (i - size_of u) h.1 (sym (mark_behind (is_active u) (active_pages us) (size_of u) (i - size_of u)) ∙ ap (λ k. get_or (active_pages (u ∷ us)) k false) back ∙ m) in
    let least = begun_from us (from + size_of u) r.page (Extent r.header) h.1 r.begun in
    let low = r.low in
    let high = r.high in
    record {
      page = r.page;
      header = r.header;
      begun = begun_there u us from r.page (λ e. absurd (omega (arith, e, least, some))) ∙ r.begun;
      active = r.active;
      low = omega (arith, low, place);
      high = omega (arith, high, place);
    })
    (cases_lt i (size_of u))
  where
    first : (v : Unit) → i < size_of v → is_active v ≡ true → MarkedBy (v ∷ us) from (from + i)
    first Free here e = cc
    first Isolated here e = cc
    first (Extent k) here e = record { page = from; header = k; begun = begun_here (Extent k) us from from refl; active = e; low = omega arith; high = omega (arith, here) }
