-- What is among the extents of a list of units, and where it stands.
use Rattle.std.proofs.Common.{◌≡◌, ◌⊎◌, inl, inr, ℕ, ◌+◌, ◌≤◌, Bool, true, false, cond, ◌||◌, ◌==◌, List, [], ◌∷◌, Some, None, if◌then◌else◌, refl, ap, sym, subst, ◌∙◌, ⊎_elim, arith}
use Rattle.std.specs.Prelude.{⊤}
use Rattle.std.specs.List.{filter, list_any}
use Rattle.std.proofs.lemmas.Bool.{or_cases, or_right}
use Rattle.coffee_header.specs.declared.header.Header.{Header}
use Rattle.coffee_layout.specs.Files.{Placed, extents}
use Rattle.coffee_layout.specs.Rules.{first_failing}
use Rattle.coffee_layout.specs.Tiling.{KeepRules}
use Rattle.coffee_layout.specs.Units.{size_of, total}
use Rattle.coffee_layout.specs.declared.unit.Unit.{Unit}
use Rattle.coffee_layout.specs.declared.unit.Unit.TheVariants.{Free, Isolated, Extent}
use Rattle.coffee_layout.proofs.Judging.{each_passes, each_map}
use Rattle.coffee_layout.proofs.Namings.{Each, each_filter}
use Rattle.coffee_layout.proofs.Tests.{eq_false}
use Rattle.coffee_layout.proofs.Tilings.{kept_some}
use Rattle.coffee_merge.specs.Begun.{unit_begun}
use Rattle.padded.proofs.Facts.{true_eq, eq_true}

-- LISTS OF EXTENTS

abbrev pub Among : Placed → List Placed → Type 0
Among e [] = ⊥
Among e (x ∷ xs) = (x ≡ e) ⊎ Among e xs

pub each_pick : (P : Placed → Type 0) (e : Placed) (es : List Placed) → Each P es → Among e es → P e
each_pick P e [] ps a = absurd a
each_pick P e (x ∷ xs) ps (inl s) = subst P s ps.0
each_pick P e (x ∷ xs) ps (inr a) = each_pick P e xs ps.1 a

pub each_all : (P : Placed → Type 0) (es : List Placed) → ((e : Placed) → Among e es → P e) → Each P es
each_all P [] f = tt
each_all P (x ∷ xs) f = (f x (inl refl), each_all P xs (λ e a. f e (inr a)))

kept_turn : (t : Bool) (e x : Placed) (xs : List Placed) → (x ≡ e) × (t ≡ true) ⊎ Among e xs → Among e (cond t (x ∷ xs) xs)
kept_turn true e x xs (inl s) = inl s.0
kept_turn true e x xs (inr a) = inr a
kept_turn false e x xs (inl s) = let f = s.1 in cc
kept_turn false e x xs (inr a) = a

pub among_filter : (test : Placed → Bool) (e : Placed) (es : List Placed) → Among e es → test e ≡ true → Among e (filter test es)
among_filter test e [] a t = a
among_filter test e (x ∷ xs) (inl s) t = kept_turn (test x) e x (filter test xs) (inl (s, ap test s ∙ t))
among_filter test e (x ∷ xs) (inr a) t = kept_turn (test x) e x (filter test xs) (inr (among_filter test e xs a t))

from_turn : (t : Bool) (e x : Placed) (xs : List Placed) → Among e (cond t (x ∷ xs) xs) → (x ≡ e) × (t ≡ true) ⊎ Among e xs
from_turn true e x xs (inl s) = inl (s, refl)
from_turn true e x xs (inr a) = inr a
from_turn false e x xs a = inr a

pub filter_among : (test : Placed → Bool) (e : Placed) (es : List Placed) → Among e (filter test es) → Among e es × (test e ≡ true)
filter_among test e [] a = absurd a
filter_among test e (x ∷ xs) a = ⊎_elim
    (λ (s : (x ≡ e) × (test x ≡ true)). let b : Among e (x ∷ xs) = inl s.0 in (b, ap test (sym s.0) ∙ s.1))
    (λ (b : Among e (filter test xs)). let c = filter_among test e xs b in let d : Among e (x ∷ xs) = inr c.0 in (d, c.1))
    (from_turn (test x) e x (filter test xs) a)

pub or_second : (a b : Bool) → a || b ≡ true → a ≡ false → b ≡ true
or_second true b e f = cc
or_second false b e f = e

-- one that passes a test
pub any_among : (test : Placed → Bool) (es : List Placed) → list_any test es ≡ true → (e : Placed) × Among e es × (test e ≡ true)
any_among test [] h = cc
any_among test (x ∷ xs) h = ⊎_elim
    (λ (t : test x ≡ true). let a : Among x (x ∷ xs) = inl refl in (x, a, t))
    (λ (t : list_any test xs ≡ true). let r = any_among test xs t in let a : Among (r.0) (x ∷ xs) = inr r.1 in (r.0, a, r.2))
    (or_cases (test x) (list_any test xs) h)

pub among_any : (test : Placed → Bool) (e : Placed) (es : List Placed) → Among e es → test e ≡ true → list_any test es ≡ true
among_any test e [] a t = absurd a
among_any test e (x ∷ xs) (inl s) t = rw (ap test s ∙ t) refl
among_any test e (x ∷ xs) (inr a) t = or_right (test x) (list_any test xs) (among_any test e xs a t)

-- where none fails a test, each passes
pub none_failing : (test : Placed → Bool) (e : Placed) (es : List Placed) → first_failing test es ≡ None → Among e es → test e ≡ true
none_failing test e es h a = each_pick (λ g. test g ≡ true) e es (each_passes test es h) a

pub failing_none : (test : Placed → Bool) (es : List Placed) → ((e : Placed) → Among e es → test e ≡ true) → first_failing test es ≡ None
failing_none test [] f = refl
failing_none test (x ∷ xs) f = rw (f x (inl refl)) (failing_none test xs (λ e a. f e (inr a)))

-- THE EXTENTS OF UNITS

-- an extent that is the unit at its page, with pages inside of the units
pub record IsPlacedIn (us : List Unit) (page : ℕ) (e : Placed) : Type 0 where
  pub behind : page ≤ e.page
  pub some : 1 ≤ e.header.max_pages
  pub inside : e.page + e.header.max_pages ≤ page + total us
  pub begun : unit_begun us page e.page ≡ Some (Extent e.header)

placed_behind : (u : Unit) (us : List Unit) (page next : ℕ) → 1 ≤ size_of u → next ≡ page + size_of u → (es : List Placed) → Each (IsPlacedIn us next) es → Each (IsPlacedIn (u ∷ us) page) es
placed_behind u us page next some is es ps = each_map (IsPlacedIn us next) (IsPlacedIn (u ∷ us) page) es
    (λ e p.
    let not_here : page == e.page ≡ false = eq_false page e.page (λ s. absurd (omega (arith, p.behind))) in
    let there : unit_begun (u ∷ us) page e.page ≡ unit_begun us (page + size_of u) e.page = rw not_here refl in
    record {
      behind = omega (arith, p.behind);
      some = p.some;
      inside = omega (arith, p.inside);
      begun = there ∙ ap (λ q. unit_begun us q e.page) (sym is) ∙ p.begun;
    })
    ps

pub extents_placed : (building : ℕ → Bool) (image : List ℕ) (us : List Unit) (page : ℕ) (free : Bool) → KeepRules building image page free us → Each (IsPlacedIn us page) (extents page us)
extents_placed building image [] page free k = tt
extents_placed building image (Free ∷ us) page free k = placed_behind Free us page (page + 1) (omega arith) refl (extents (page + 1) us) (extents_placed building image us (page + 1) true k.2)
extents_placed building image (Isolated ∷ us) page free k = placed_behind Isolated us page (page + 1) (omega arith) refl (extents (page + 1) us) (extents_placed building image us (page + 1) false k.2)
extents_placed building image (Extent h ∷ us) page free k =
    let some : 1 ≤ h.max_pages = kept_some building image page free (Extent h) k.0 k.1 in
    let here : page == page ≡ true = eq_true page page refl in (
      record { behind = omega arith; some = some; inside = omega arith; begun = rw here refl },
      placed_behind (Extent h) us page (page + h.max_pages) some refl (extents (page + h.max_pages) us) (extents_placed building image us (page + h.max_pages) false k.2),
    )

-- an extent that begins at a page is among the extents
begun_turn : (t : Bool) (u : Unit) (us : List Unit) (page p : ℕ) (h : Header) → page == p ≡ t → (if t then Some u else unit_begun us (page + size_of u) p) ≡ Some (Extent h)
    → (page ≡ p) × (u ≡ Extent h) ⊎ (unit_begun us (page + size_of u) p ≡ Some (Extent h))
begun_turn true u us page p h is e = inl (true_eq page p is, cc)
begun_turn false u us page p h is e = inr e

among_here : (u : Unit) (us : List Unit) (page p : ℕ) (h : Header) → (page ≡ p) × (u ≡ Extent h) → Among (record { page = p; header = h }) (extents page (u ∷ us))
among_here Free us page p h s = let e = s.1 in cc
among_here Isolated us page p h s = let e = s.1 in cc
among_here (Extent g) us page p h s =
    let e : g ≡ h = (let f = s.1 in cc) in
    inl (ap (λ q. record { page = q; header = g }) s.0 ∙ ap (λ k. record { page = p; header = k }) e)

among_there : (u : Unit) (us : List Unit) (page : ℕ) (e : Placed) → Among e (extents (page + size_of u) us) → Among e (extents page (u ∷ us))
among_there Free us page e a = a
among_there Isolated us page e a = a
among_there (Extent g) us page e a = inr a

pub begun_extent : (us : List Unit) (page p : ℕ) (h : Header) → unit_begun us page p ≡ Some (Extent h) → Among (record { page = p; header = h }) (extents page us)
begun_extent [] page p h e = cc
begun_extent (u ∷ us) page p h e = ⊎_elim
    (λ (s : (page ≡ p) × (u ≡ Extent h)). among_here u us page p h s)
    (λ (s : unit_begun us (page + size_of u) p ≡ Some (Extent h)). among_there u us page (record { page = p; header = h }) (begun_extent us (page + size_of u) p h s))
    (begun_turn (page == p) u us page p h refl e)

-- IN PAGE ORDER

-- each extent ends before the next begins
abbrev pub Rising : List Placed → Type 0
Rising [] = ⊤
Rising (e ∷ es) = Each (λ g. e.page + e.header.max_pages ≤ g.page) es × Rising es

pub extents_rising : (building : ℕ → Bool) (image : List ℕ) (us : List Unit) (page : ℕ) (free : Bool) → KeepRules building image page free us → Rising (extents page us)
extents_rising building image [] page free k = tt
extents_rising building image (Free ∷ us) page free k = extents_rising building image us (page + 1) true k.2
extents_rising building image (Isolated ∷ us) page free k = extents_rising building image us (page + 1) false k.2
extents_rising building image (Extent h ∷ us) page free k = (
  each_map (IsPlacedIn us (page + h.max_pages)) (λ g. page + h.max_pages ≤ g.page) (extents (page + h.max_pages) us) (λ e p. p.behind) (extents_placed building image us (page + h.max_pages) false k.2),
  extents_rising building image us (page + h.max_pages) false k.2,
)

rising_turn : (t : Bool) (e : Placed) (es : List Placed) → Each (λ g. e.page + e.header.max_pages ≤ g.page) es → Rising es → Rising (cond t (e ∷ es) es)
rising_turn true e es a r = (a, r)
rising_turn false e es a r = r

pub rising_filter : (test : Placed → Bool) (es : List Placed) → Rising es → Rising (filter test es)
rising_filter test [] r = tt
rising_filter test (e ∷ es) r = rising_turn (test e) e (filter test es) (each_filter (λ g. e.page + e.header.max_pages ≤ g.page) test es r.0) (rising_filter test es r.1)

-- two extents are the same, or have no page in common
pub two_among : (e g : Placed) (es : List Placed) → Rising es → Among e es → Among g es → (e ≡ g) ⊎ ((e.page + e.header.max_pages ≤ g.page) ⊎ (g.page + g.header.max_pages ≤ e.page))
two_among e g [] r a b = absurd a
two_among e g (x ∷ xs) r (inl s) (inl t) = inl (sym s ∙ t)
two_among e g (x ∷ xs) r (inl s) (inr b) = inr (inl (subst (λ y. y.page + y.header.max_pages ≤ g.page) s (each_pick (λ z. x.page + x.header.max_pages ≤ z.page) g xs r.0 b)))
two_among e g (x ∷ xs) r (inr a) (inl t) = inr (inr (subst (λ y. y.page + y.header.max_pages ≤ e.page) t (each_pick (λ z. x.page + x.header.max_pages ≤ z.page) e xs r.0 a)))
two_among e g (x ∷ xs) r (inr a) (inr b) = two_among e g xs r.1 a b
