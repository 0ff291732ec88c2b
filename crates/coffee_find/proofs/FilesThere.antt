-- A unit that is an active file is one of the files of its image.
use Rattle.std.proofs.Common.{◌≡◌, ◌≢◌, inl, inr, ⊎_elim, ℕ, suc, ◌+◌, ◌≤◌, ◌<◌, List, [], ◌∷◌, Option, Some, None, ap, sym, ◌∙◌, arith}
use Rattle.std.proofs.lemmas.Bool.{cases_eq, cases_lt}
use Rattle.std.specs.List.{Contains}
use Rattle.coffee_header.specs.declared.header.Header.{Header}
use Rattle.coffee_layout.specs.Files.{Placed, extents, files_in, is_file}
use Rattle.coffee_layout.specs.Tiling.{units_of}
use Rattle.coffee_layout.specs.Units.{pages_of, size_of, unit_at}
use Rattle.coffee_layout.specs.declared.unit.Unit.{Unit}
use Rattle.coffee_layout.specs.declared.unit.Unit.TheVariants.{Extent}
use Rattle.coffee_merge.specs.Begun.{unit_begun}
use Rattle.coffee_merge.proofs.SoundUnits.{Among, among_filter, begun_extent}
use Rattle.coffee_find.specs.Found.{placed_of}
use Rattle.coffee_cuts.proofs.Reached.{no_unit, same_unit}
use Rattle.coffee_cuts.proofs.TwoMarks.{file_begins}
use Rattle.coffee_find.proofs.UnitWalks.{Walked, walk_ends, walk_passed, walk_stops, walk_stuck, walked_begun}
use Rattle.coffee_find.specs.Search.{HasNoFile, IsFileAt, IsFileIn, IsNoFile, IsWanted}
use Rattle.coffee_find.specs.declared.trouble.PlacedFile.{PlacedFile}

among_contains : (e : Placed) (es : List Placed) → Among e es → Contains es e
among_contains e [] a = absurd a
among_contains e (x ∷ xs) (inl s) = (0, omega arith, s)
among_contains e (x ∷ xs) (inr a) = let r = among_contains e xs a in (suc r.0, omega (arith, r.1), r.2)

pub file_there : (image : List ℕ) (page : ℕ) (u : Unit) (f : PlacedFile) → unit_begun (units_of image) 0 page ≡ Some u → IsFileAt u page f → IsFileIn image f
file_there image page u f begun is =
    let here : unit_begun (units_of image) 0 f.page.0 ≡ Some (Extent f.header) = ap (unit_begun (units_of image) 0) is.at ∙ begun ∙ ap Some is.is in
    among_contains (placed_of f) _ (among_filter is_file (placed_of f) (extents 0 (units_of image)) (begun_extent (units_of image) 0 f.page.0 f.header here) is.active)

-- ---- no file

pub one_extent : (h k : Header) → Extent h ≡ Extent k → h ≡ k
one_extent h k e = cc

-- a file begins at its page
no_begun : {A : Type 0} (image : List ℕ) (f : Placed) → Contains (files_in (units_of image)) f → unit_begun (units_of image) 0 f.page ≡ None → A
no_begun image f there none = no_unit (Extent f.header) (sym none ∙ (file_begins image f there).0)

-- a file that begins at the unit, or elsewhere
pub no_file_here : (image : List ℕ) (from at : ℕ) (wanted : Option (List ℕ)) (u : Unit) → at < pages_of image → unit_at image at ≡ Some u → IsNoFile u at from wanted → Walked image at
    → (f : Placed) → Contains (files_in (units_of image)) f → from ≤ f.page → at ≤ f.page → IsWanted wanted f.header.name → (f.page ≢ at → ⊥) → ⊥
no_file_here image from at wanted u before is none w f there low new want elsewhere = ⊎_elim
    (λ (here : f.page ≡ at).
    let begins = file_begins image f there in
    let same : u ≡ Extent f.header = same_unit u (Extent f.header) (sym (walked_begun image at u before is w) ∙ ap (unit_begun (units_of image) 0) (sym here) ∙ begins.0) in
    none f same here begins.1 (omega (arith, low, here)) want)
    (λ (other : f.page ≢ at). elsewhere other)
    (cases_eq f.page at)

-- a unit more that is no wanted file
pub no_file_step : (image : List ℕ) (from at next : ℕ) (wanted : Option (List ℕ)) (u : Unit) → at < pages_of image → unit_at image at ≡ Some u → next ≡ at + size_of u → IsNoFile u at from wanted
    → Walked image at → HasNoFile image from at wanted → HasNoFile image from next wanted
no_file_step image from at next wanted u before is behind none w passed f there low less want = ⊎_elim
    (λ (old : f.page < at). passed f there low old want)
    (λ (new : at ≤ f.page). no_file_here image from at wanted u before is none w f there low new want
    (λ other. no_begun image f there (walk_passed image at next f.page u before (omega (arith, new, other)) less behind is w)))
    (cases_lt f.page at)

-- where none is left behind, there is none
pub no_file_rest : (image : List ℕ) (from at : ℕ) (wanted : Option (List ℕ)) → HasNoFile image from at wanted
    → ((f : Placed) → Contains (files_in (units_of image)) f → from ≤ f.page → at ≤ f.page → IsWanted wanted f.header.name → ⊥) → (to : ℕ) → HasNoFile image from to wanted
no_file_rest image from at wanted passed rest to f there low less want = ⊎_elim
    (λ (old : f.page < at). passed f there low old want)
    (λ (new : at ≤ f.page). rest f there low new want)
    (cases_lt f.page at)

pub no_file_stops : (image : List ℕ) (from at : ℕ) (wanted : Option (List ℕ)) → unit_at image at ≡ None → Walked image at → HasNoFile image from at wanted → (to : ℕ) → HasNoFile image from to wanted
no_file_stops image from at wanted none w passed = no_file_rest image from at wanted passed (λ f there low new want. no_begun image f there (walk_stops image at f.page new none w))

pub no_file_ends : (image : List ℕ) (from at : ℕ) (wanted : Option (List ℕ)) → pages_of image ≤ at → Walked image at → HasNoFile image from at wanted → (to : ℕ) → HasNoFile image from to wanted
no_file_ends image from at wanted end w passed = no_file_rest image from at wanted passed (λ f there low new want. no_begun image f there (walk_ends image at f.page end new w))

pub no_file_stuck : (image : List ℕ) (from at : ℕ) (wanted : Option (List ℕ)) (u : Unit) → at < pages_of image → unit_at image at ≡ Some u → (1 ≤ size_of u → pages_of image < at + size_of u)
    → IsNoFile u at from wanted → Walked image at → HasNoFile image from at wanted → (to : ℕ) → HasNoFile image from to wanted
no_file_stuck image from at wanted u before is far none w passed = no_file_rest image from at wanted passed
    (λ f there low new want. no_file_here image from at wanted u before is none w f there low new want
    (λ other. no_begun image f there (walk_stuck image at f.page u before new (λ e. other (sym e)) is far w)))
