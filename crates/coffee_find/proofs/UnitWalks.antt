-- A walk over the units of an image that may break any rule.
use Rattle.std.proofs.Common.{◌≡◌, ⊎_elim, ℕ, zero, suc, ◌+◌, ◌*◌, ◌≤◌, ◌<◌, ◌≢◌, Option, None, false, List, [], ◌∷◌, ◌++◌, get_or, Some, refl, ap, sym, subst, ◌∙◌, arith, append_assoc}
use Rattle.std.proofs.lemmas.Bool.{cases_lt}
use Rattle.std.proofs.lemmas.List.{append-nil}
use Rattle.coffee_cuts.specs.Cuts.{IsIdle}
use Rattle.coffee_layout.specs.Marks.{active_pages}
use Rattle.coffee_layout.specs.Tiling.{IsTiled, nowhere, units_from, units_of}
use Rattle.coffee_layout.specs.Units.{is_active, pages_of, size_of, total, unit_at}
use Rattle.coffee_layout.specs.declared.unit.Unit.{Unit}
use Rattle.coffee_layout.proofs.Frames.{total-append}
use Rattle.coffee_layout.proofs.MarkLaws.{mark_past}
use Rattle.coffee_layout.proofs.Tilings.{units_end, units_step}
use Rattle.coffee_cuts.proofs.Reached.{begun_past, units_stop}
use Rattle.coffee_merge.specs.Begun.{unit_begun}
use Rattle.coffee_merge.proofs.Begun.{HavePages, begun_here, begun_inside, begun_marks, begun_rest, begun_there, have_pages}
use Rattle.coffee_space.proofs.SectorMarks.{any_each, any_none}
use Rattle.padded.proofs.Facts.{yes_no}
use Rattle.coffee_find.specs.Search.{AreIdle, HasActivePart}

-- the walk came to a page, and each unit before it has a page
pub record Walked (image : List ℕ) (at : ℕ) : Type 0 where
  pub front : List Unit
  pub turns : ℕ
  pub enough : pages_of image ≤ at + turns
  pub whole : units_of image ≡ front ++ units_from turns image at
  pub pages : HavePages front
  pub place : total front ≡ at

pub walked_start : (image : List ℕ) → Walked image 0
unfolding units_of
walked_start image = record { front = []; turns = pages_of image; enough = omega arith; whole = refl; pages = tt; place = refl }

begun_turn : (image : List ℕ) (at : ℕ) (u : Unit) (front : List Unit) (turns : ℕ) → at < pages_of image → unit_at image at ≡ Some u → pages_of image ≤ at + turns
    → units_of image ≡ front ++ units_from turns image at → HavePages front → total front ≡ at → unit_begun (units_of image) 0 at ≡ Some u
begun_turn image at u front zero before is enough whole pages place = absurd (omega (arith, before, enough))
begun_turn image at u front (suc turns) before is enough whole pages place =
    ap (λ us. unit_begun us 0 at) (whole ∙ ap (λ us. front ++ us) (units_step turns image at u before is))
    ∙ begun_rest front (u ∷ units_from turns image (at + size_of u)) 0 at at pages (omega (arith, place)) (omega arith)
    ∙ begun_here u (units_from turns image (at + size_of u)) at at refl

-- the unit that stands there begins there
pub walked_begun : (image : List ℕ) (at : ℕ) (u : Unit) → at < pages_of image → unit_at image at ≡ Some u → Walked image at → unit_begun (units_of image) 0 at ≡ Some u
walked_begun image at u before is w = begun_turn image at u w.front w.turns before is w.enough w.whole w.pages w.place

pages_push : (front : List Unit) (u : Unit) → HavePages front → 1 ≤ size_of u → HavePages (front ++ (u ∷ []))
pages_push [] u h some = (some, tt)
pages_push (v ∷ vs) u h some = (h.0, pages_push vs u h.1 some)

step_turn : (image : List ℕ) (at : ℕ) (u : Unit) (front : List Unit) (turns : ℕ) → at < pages_of image → unit_at image at ≡ Some u → 1 ≤ size_of u → pages_of image ≤ at + turns
    → units_of image ≡ front ++ units_from turns image at → HavePages front → total front ≡ at → Walked image (at + size_of u)
step_turn image at u front zero before is some enough whole pages place = absurd (omega (arith, before, enough))
step_turn image at u front (suc turns) before is some enough whole pages place = record {
  front = front ++ (u ∷ []);
  turns = turns;
  enough = omega (arith, enough, some);
  whole = whole ∙ ap (λ us. front ++ us) (units_step turns image at u before is) ∙ sym (append_assoc front (u ∷ []) (units_from turns image (at + size_of u)));
  pages = pages_push front u pages some;
  place = omega (arith, total-append front (u ∷ []), place);
}

-- and the walk goes on behind it
pub walked_step : (image : List ℕ) (at : ℕ) (u : Unit) → at < pages_of image → unit_at image at ≡ Some u → 1 ≤ size_of u → Walked image at → Walked image (at + size_of u)
walked_step image at u before is some w = step_turn image at u w.front w.turns before is some w.enough w.whole w.pages w.place

-- ---- a sector without active pages

-- no page before that is an active one of a sector
pub record Quiet (image : List ℕ) (sector at : ℕ) : Type 0 where
  pub walked : Walked image at
  pub quiet : (q : ℕ) → q < at → 16 * sector ≤ q → q < 16 * sector + 16 → get_or (active_pages (units_of image)) q false ≡ false

pub quiet_start : (image : List ℕ) (sector : ℕ) → Quiet image sector 0
quiet_start image sector = record { walked = walked_start image; quiet = λ q less a b. absurd (omega (arith, less)) }

pub quiet_step : (image : List ℕ) (sector at next : ℕ) (u : Unit) → at < pages_of image → unit_at image at ≡ Some u → next ≡ at + size_of u → at < next → AreIdle u at next sector
    → Quiet image sector at → Quiet image sector next
quiet_step image sector at next u before is behind onward idle w =
    let begun : unit_begun (units_of image) 0 at ≡ Some u = walked_begun image at u before is w.walked in
    record {
      walked = subst (Walked image) (sym behind) (walked_step image at u before is (omega (arith, behind, onward)) w.walked);
      quiet = λ q less a b. ⊎_elim
          (λ (old : q < at). w.quiet q old a b)
          (λ (new : at ≤ q). begun_marks is_active (units_of image) at u q begun new (omega (arith, less, behind)) ∙ idle q new less a b)
          (cases_lt q at);
    }

pub quiet_end : (image : List ℕ) (sector at : ℕ) → pages_of image ≤ at → Quiet image sector at → IsIdle (units_of image) sector
quiet_end image sector at behind w =
    let walked = w.walked in
    let all : units_of image ≡ walked.front = walked.whole ∙ ap (λ us. walked.front ++ us) (units_end walked.turns image at behind) ∙ append-nil walked.front in
    let pages : total (units_of image) ≡ at = ap total all ∙ walked.place in
    any_none (active_pages (units_of image)) (16 * sector) (16 * sector + 16) (λ q a b. ⊎_elim
    (λ (less : q < at). w.quiet q less a b)
    (λ (past : at ≤ q). mark_past is_active (units_of image) q (omega (arith, pages, past)))
    (cases_lt q at))

-- an active unit with a page in it
pub busy_unit : (image : List ℕ) (sector at next : ℕ) (u : Unit) → at < pages_of image → unit_at image at ≡ Some u → next ≡ at + size_of u → at < next → HasActivePart u at next sector
    → Walked image at → IsIdle (units_of image) sector → ⊥
busy_unit image sector at next u before is behind onward part w idle =
    let from = part.from in
    let to = part.to in
    let mark : (q : ℕ) → at ≤ q → q < next → 16 * sector ≤ q → q < 16 * sector + 16 → ⊥ = λ q low less a b. yes_no (is_active u) part.active
    (sym (begun_marks is_active (units_of image) at u q (walked_begun image at u before is w) low (omega (arith, less, behind)))
    ∙ any_each (active_pages (units_of image)) (16 * sector) (16 * sector + 16) q idle a b) in
    ⊎_elim
    (λ (front : at < 16 * sector). mark (16 * sector) (omega (arith, front)) from (omega arith) (omega arith))
    (λ (inner : 16 * sector ≤ at). mark at (omega arith) onward inner to)
    (cases_lt at (16 * sector))

-- ---- a walk over a tiled image comes to its end

stopped_total : (n : ℕ) (image : List ℕ) (at : ℕ) → unit_at image at ≡ None → units_from n image at ≡ []
stopped_total zero image at none = refl
stopped_total (suc n) image at none = ⊎_elim
    (λ (before : at < pages_of image). units_stop n image at before none)
    (λ (behind : pages_of image ≤ at). units_end (suc n) image at behind)
    (cases_lt at (pages_of image))

-- a unit stands before the end
pub tiled_stands : (image : List ℕ) (at : ℕ) → at < pages_of image → unit_at image at ≡ None → Walked image at → IsTiled nowhere image (units_of image) → ⊥
tiled_stands image at before none w tiled =
    let all : units_of image ≡ w.front = w.whole ∙ ap (λ us. w.front ++ us) (stopped_total w.turns image at none) ∙ append-nil w.front in
    let pages : total (units_of image) ≡ at = ap total all ∙ w.place in
    let whole = tiled.whole in
    absurd (omega (arith, pages, whole, before))

-- and it has pages, which lie inside
pub tiled_goes : (image : List ℕ) (at : ℕ) (u : Unit) → at < pages_of image → unit_at image at ≡ Some u → (1 ≤ size_of u → pages_of image < at + size_of u) → Walked image at → IsTiled nowhere image (units_of image) → ⊥
tiled_goes image at u before is far w tiled =
    let inside = begun_inside (units_of image) at u (have_pages nowhere image (units_of image) tiled) (walked_begun image at u before is w) in
    let past = far inside.0 in
    let low = inside.1 in
    let whole = tiled.whole in
    absurd (omega (arith, past, low, whole))

-- ---- pages to which the walk does not come

none_of : (o : Option Unit) → ((u : Unit) → o ≡ Some u → ⊥) → o ≡ None
none_of None f = refl
none_of (Some u) f = absurd (f u refl)

-- what begins at a page begins in what is left of the walk, where the page is not in front
pub walked_rest : (image : List ℕ) (at page : ℕ) → at ≤ page → (w : Walked image at) → unit_begun (units_of image) 0 page ≡ unit_begun (units_from w.turns image at) at page
walked_rest image at page low w =
    let place = w.place in
    ap (λ us. unit_begun us 0 page) w.whole ∙ begun_rest w.front (units_from w.turns image at) 0 at page w.pages (omega (arith, place)) low

-- a walk that stands where no unit begins comes no further
pub walk_stops : (image : List ℕ) (at page : ℕ) → at ≤ page → unit_at image at ≡ None → Walked image at → unit_begun (units_of image) 0 page ≡ None
walk_stops image at page low none w = walked_rest image at page low w ∙ by_turns w.turns
  where
    by_turns : (n : ℕ) → unit_begun (units_from n image at) at page ≡ None
    by_turns zero = refl
    by_turns (suc n) = ⊎_elim
        (λ (before : at < pages_of image). ap (λ us. unit_begun us at page) (units_stop n image at before none))
        (λ (behind : pages_of image ≤ at). ap (λ us. unit_begun us at page) (units_end (suc n) image at behind))
        (cases_lt at (pages_of image))

-- nor one that has come to the end
pub walk_ends : (image : List ℕ) (at page : ℕ) → pages_of image ≤ at → at ≤ page → Walked image at → unit_begun (units_of image) 0 page ≡ None
walk_ends image at page behind low w = walked_rest image at page low w ∙ ap (λ us. unit_begun us at page) (units_end w.turns image at behind)

-- nor one that stands at a unit which has no page, or ends behind the flash
stuck : (n : ℕ) (image : List ℕ) (at page : ℕ) (u : Unit) → at < pages_of image → at ≢ page → unit_at image at ≡ Some u → size_of u ≡ 0 → unit_begun (units_from n image at) at page ≡ None
stuck zero image at page u before other is none = refl
stuck (suc n) image at page u before other is none =
    let back : at + size_of u ≡ at = omega (arith, none) in
    ap (λ us. unit_begun us at page) (units_step n image at u before is) ∙ begun_there u (units_from n image (at + size_of u)) at page other
    ∙ ap (λ k. unit_begun (units_from n image k) k page) back ∙ stuck n image at page u before other is none

past : (n : ℕ) (image : List ℕ) (at page : ℕ) (u : Unit) → at < pages_of image → at ≢ page → unit_at image at ≡ Some u → pages_of image < at + size_of u → unit_begun (units_from n image at) at page ≡ None
past zero image at page u before other is far = refl
past (suc n) image at page u before other is far =
    ap (λ us. unit_begun us at page) (units_step n image at u before is) ∙ begun_there u (units_from n image (at + size_of u)) at page other
    ∙ ap (λ us. unit_begun us (at + size_of u) page) (units_end n image (at + size_of u) (omega (arith, far)))

pub walk_stuck : (image : List ℕ) (at page : ℕ) (u : Unit) → at < pages_of image → at ≤ page → at ≢ page → unit_at image at ≡ Some u → (1 ≤ size_of u → pages_of image < at + size_of u) → Walked image at
    → unit_begun (units_of image) 0 page ≡ None
walk_stuck image at page u before low other is far w = walked_rest image at page low w ∙ ⊎_elim
    (λ (none : size_of u < 1). stuck w.turns image at page u before other is (omega (arith, none)))
    (λ (some : 1 ≤ size_of u). past w.turns image at page u before other is (far some))
    (cases_lt (size_of u) 1)

-- a page that was passed begins no unit
pub walk_passed : (image : List ℕ) (at next page : ℕ) (u : Unit) → at < pages_of image → at < page → page < next → next ≡ at + size_of u → unit_at image at ≡ Some u → Walked image at → unit_begun (units_of image) 0 page ≡ None
walk_passed image at next page u before low less is_next is w = walked_rest image at page (omega (arith, low)) w ∙ by_turns w.turns
  where
    by_turns : (n : ℕ) → unit_begun (units_from n image at) at page ≡ None
    by_turns zero = refl
    by_turns (suc n) =
        ap (λ us. unit_begun us at page) (units_step n image at u before is) ∙ begun_there u (units_from n image (at + size_of u)) at page (λ e. absurd (omega (arith, e, low)))
        ∙ begun_past (units_from n image (at + size_of u)) (at + size_of u) page (omega (arith, less, is_next))
