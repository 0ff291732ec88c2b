-- Rule 8: a file names an active log.
use Rattle.std.proofs.Common.{◌≡◌, ℕ, ◌+◌, Bool, true, false, cond, not, ◌&&◌, ◌==◌, List, [], ◌∷◌, ◌++◌, Option, Some, None, if◌then◌else◌, refl, subst, arith}
use Rattle.std.specs.Prelude.{⊤}
use Rattle.std.specs.List.{filter, list_any}
use Rattle.coffee_layout.specs.Files.{Placed, extents, files_in, is_file, is_log, logs_in}
use Rattle.coffee_layout.specs.Rules.{first_failing, is_log_of, names_its_log}
use Rattle.coffee_layout.specs.Tiling.{IsTiled, KeepRules}
use Rattle.coffee_layout.specs.Units.{unit_at}
use Rattle.coffee_layout.specs.declared.unit.Unit.{Unit}
use Rattle.coffee_layout.specs.declared.unit.Unit.TheVariants.{Free, Isolated, Extent}
use Rattle.coffee_layout.proofs.Tests.{eq_false}

any_turn : (l p : Bool) (test : Placed → Bool) (e : Placed) (es : List Placed) (r : Option ℕ) (page : ℕ) → p ≡ test e
    → (r ≡ Some page → list_any test es ≡ true) → (if not (l && p) then r else Some e.page) ≡ Some page → list_any test (cond l (e ∷ es) es) ≡ true
any_turn true true test e es r page is ih h = rw (← is) refl
any_turn true false test e es r page is ih h = rw (← is) (ih h)
any_turn false p test e es r page is ih h = ih h

any_some : (test : Placed → Bool) (es : List Placed) (page : ℕ) → first_failing (λ e. not (is_log e && test e)) es ≡ Some page → list_any test (filter is_log es) ≡ true
any_some test [] page h = cc
any_some test (e ∷ es) page h = any_turn (is_log e) (test e) test e (filter is_log es) (first_failing (λ g. not (is_log g && test g)) es) page refl (any_some test es page) h

-- a log that passes a test was found
pub any_found : (test : Placed → Bool) (us : List Unit) (page : ℕ) → first_failing (λ e. not (is_log e && test e)) (extents 0 us) ≡ Some page → list_any test (logs_in us) ≡ true
any_found test us page h = any_some test (extents 0 us) page h

none_turn : (l p : Bool) (test : Placed → Bool) (e : Placed) (es : List Placed) (r : Option ℕ) → p ≡ test e
    → (r ≡ None → list_any test es ≡ false) → (if not (l && p) then r else Some e.page) ≡ None → list_any test (cond l (e ∷ es) es) ≡ false
none_turn true true test e es r is ih h = cc
none_turn true false test e es r is ih h = rw (← is) (ih h)
none_turn false p test e es r is ih h = ih h

any_nothing : (test : Placed → Bool) (es : List Placed) → first_failing (λ e. not (is_log e && test e)) es ≡ None → list_any test (filter is_log es) ≡ false
any_nothing test [] h = refl
any_nothing test (e ∷ es) h = none_turn (is_log e) (test e) test e (filter is_log es) (first_failing (λ g. not (is_log g && test g)) es) refl (any_nothing test es) h

-- no log passes the test
pub any_none : (test : Placed → Bool) (us : List Unit) → first_failing (λ e. not (is_log e && test e)) (extents 0 us) ≡ None → list_any test (logs_in us) ≡ false
any_none test us h = any_nothing test (extents 0 us) h

-- one that names none, and is said to have one
pub names_none : (f : Placed) (logs : List Placed) → f.header.log_page ≡ 0 → f.header.flags == 3 ≡ false → names_its_log logs f ≡ false
names_none f logs e flags = rw flags (all logs)
  where
    not_it : (l : Placed) → is_log_of f l ≡ false
    not_it l = rw (eq_false (l.page + 1) f.header.log_page (λ h. absurd (omega arith))) refl

    all : (ls : List Placed) → list_any (is_log_of f) ls ≡ false
    all [] = refl
    all (l ∷ ls) = rw (not_it l) (all ls)

-- each extent among the units is the unit at its page
abbrev pub Each : (Placed → Type 0) → List Placed → Type 0
Each P [] = ⊤
Each P (e ∷ es) = P e × Each P es

abbrev pub StandsAt : List ℕ → Placed → Type 0
StandsAt image e = unit_at image e.page ≡ Some (Extent e.header)

pub each_stands : (building : ℕ → Bool) (image : List ℕ) (page : ℕ) (after_free : Bool) (us : List Unit) → KeepRules building image page after_free us → Each (StandsAt image) (extents page us)
each_stands building image page after_free [] k = tt
each_stands building image page after_free (Free ∷ us) k = each_stands building image (page + 1) true us k.2
each_stands building image page after_free (Isolated ∷ us) k = each_stands building image (page + 1) false us k.2
each_stands building image page after_free (Extent h ∷ us) k = (k.0, each_stands building image (page + h.max_pages) false us k.2)

each_turn : (P : Placed → Type 0) (t : Bool) (e : Placed) (es : List Placed) → P e → Each P es → Each P (cond t (e ∷ es) es)
each_turn P true e es p ps = (p, ps)
each_turn P false e es p ps = ps

pub each_filter : (P : Placed → Type 0) (test : Placed → Bool) (es : List Placed) → Each P es → Each P (filter test es)
each_filter P test [] ps = tt
each_filter P test (e ∷ es) ps = each_turn P (test e) e (filter test es) ps.0 (each_filter P test es ps.1)

pub each_at : (P : Placed → Type 0) (front rest : List Placed) (e : Placed) → Each P (front ++ e ∷ rest) → P e
each_at P [] rest e ps = ps.0
each_at P (f ∷ front) rest e ps = each_at P front rest e ps.1

-- a file of the list stands at its page
pub file_stands : (building : ℕ → Bool) (image : List ℕ) (us : List Unit) (front rest : List Placed) (f : Placed) → IsTiled building image us → files_in us ≡ front ++ f ∷ rest → StandsAt image f
file_stands building image us front rest f t is =
    each_at (StandsAt image) front rest f (subst (λ fs. Each (StandsAt image) fs) is (each_filter (StandsAt image) is_file (extents 0 us) (each_stands building image 0 false us t.keep)))
