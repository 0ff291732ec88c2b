-- Walks over two images whose heads agree up to a page.
use Rattle.std.proofs.Common.{◌≡◌, ◌≢◌, ⊎_elim, ℕ, zero, suc, ◌+◌, ◌<◌, ◌≤◌, Bool, List, [], ◌∷◌, Option, Some, None, refl, ap, sym, subst, ◌∙◌, arith}
use Rattle.std.proofs.lemmas.Bool.{cases_eq, cases_lt}
use Rattle.coffee_layout.specs.Tiling.{KeepRules, broken_at, nowhere, units_from}
use Rattle.coffee_layout.specs.Units.{is_free, pages_of, size_of, total, unit_at}
use Rattle.coffee_layout.specs.declared.unit.Unit.{Unit}
use Rattle.coffee_layout.proofs.Tilings.{units_end, units_step}
use Rattle.padded.proofs.Facts.{lt_true}
use Rattle.coffee_merge.specs.Begun.{unit_begun}
use Rattle.coffee_merge.proofs.Begun.{begun_here, begun_there}

pub no_unit : {A : Type 0} (u : Unit) → None ≡ Some u → A
no_unit u e = cc

pub same_unit : (u v : Unit) → Some u ≡ Some v → u ≡ v
same_unit u v e = cc

-- a walk ends where no unit begins
pub units_stop : (turns : ℕ) (image : List ℕ) (page : ℕ) → page < pages_of image → unit_at image page ≡ None → units_from (suc turns) image page ≡ []
units_stop turns image page before e = rw (lt_true page (pages_of image) before, e) refl

-- nothing begins before the first
pub begun_past : (us : List Unit) (from page : ℕ) → page < from → unit_begun us from page ≡ None
begun_past [] from page less = refl
begun_past (u ∷ us) from page less = begun_there u us from page (λ e. absurd (omega (arith, e, less))) ∙ begun_past us (from + size_of u) page (omega (arith, less))

-- what begins among the units of an image stands in it
pub begun_at : (turns : ℕ) (image : List ℕ) (from page : ℕ) (u : Unit) → unit_begun (units_from turns image from) from page ≡ Some u
    → (from ≤ page) × (page < pages_of image) × (unit_at image page ≡ Some u)
begun_at zero image from page u e = cc
begun_at (suc turns) image from page u e = ⊎_elim
    (λ (before : from < pages_of image). by_unit before (unit_at image from) refl (λ v. begun_at turns image (from + size_of v) page u))
    (λ (behind : pages_of image ≤ from). no_unit u (sym (ap (λ us. unit_begun us from page) (units_end (suc turns) image from behind)) ∙ e))
    (cases_lt from (pages_of image))
  where
    by_unit : from < pages_of image → (o : Option Unit) → unit_at image from ≡ o
        → ((v : Unit) → unit_begun (units_from turns image (from + size_of v)) (from + size_of v) page ≡ Some u → (from + size_of v ≤ page) × (page < pages_of image) × (unit_at image page ≡ Some u))
        → (from ≤ page) × (page < pages_of image) × (unit_at image page ≡ Some u)
    by_unit before None is rest = no_unit u (sym (ap (λ us. unit_begun us from page) (units_stop turns image from before is)) ∙ e)
    by_unit before (Some v) is rest =
        let step : unit_begun (v ∷ units_from turns image (from + size_of v)) from page ≡ Some u = ap (λ us. unit_begun us from page) (sym (units_step turns image from v before is)) ∙ e in
        ⊎_elim
        (λ (here : from ≡ page).
        let same : Some v ≡ Some u = sym (begun_here v (units_from turns image (from + size_of v)) from page here) ∙ step in
        (omega (arith, here), subst (λ p. p < pages_of image) here before, ap (unit_at image) (sym here) ∙ is ∙ same))
        (λ (there : from ≢ page).
        let r = rest v (sym (begun_there v (units_from turns image (from + size_of v)) from page there) ∙ step) in
        let low = r.0 in
        (omega (arith, low), r.1, r.2))
        (cases_eq from page)

-- a unit of a tiled image, and the rules that it keeps
pub record IsReached (image : List ℕ) (us : List Unit) (from page : ℕ) : Type 0 where
  pub unit : Unit
  pub free : Bool
  pub begun : unit_begun us from page ≡ Some unit
  pub there : unit_at image page ≡ Some unit
  pub kept : broken_at nowhere image page free ≡ None

-- what begins among units that keep the rules keeps them
pub kept_at : (image : List ℕ) (us : List Unit) (from page : ℕ) (free : Bool) (u : Unit) → KeepRules nowhere image from free us → unit_begun us from page ≡ Some u
    → (f : Bool) × (unit_at image page ≡ Some u) × (broken_at nowhere image page f ≡ None)
kept_at image [] from page free u k e = cc
kept_at image (v ∷ us) from page free u k e = ⊎_elim
    (λ (here : from ≡ page).
    let same : Some v ≡ Some u = sym (begun_here v us from page here) ∙ e in
    (free, ap (unit_at image) (sym here) ∙ k.0 ∙ same, ap (λ p. broken_at nowhere image p free) (sym here) ∙ k.1))
    (λ (there : from ≢ page). kept_at image us (from + size_of v) page (is_free v) u k.2 (sym (begun_there v us from page there) ∙ e))
    (cases_eq from page)

-- where the units at all pages before one have the same sizes, and a unit of the other image begins there, so does one of a tiled image
pub sizes_reach : (image other : List ℕ) (us : List Unit) (turns from page : ℕ) (free : Bool) (u : Unit) → page < pages_of other
    → ((p : ℕ) (v w : Unit) → p < page → unit_at other p ≡ Some v → unit_at image p ≡ Some w → size_of v ≡ size_of w) → KeepRules nowhere image from free us → from + total us ≡ pages_of image
    → page < pages_of image → from ≤ page → unit_begun (units_from turns other from) from page ≡ Some u → IsReached image us from page
sizes_reach image other [] turns from page free u size heads k whole within low e = absurd (omega (arith, whole, within, low))
sizes_reach image other (v ∷ us) turns from page free u size heads k whole within low e = ⊎_elim
    (λ (here : from ≡ page). record {
      unit = v;
      free = free;
      begun = begun_here v us from page here;
      there = ap (unit_at image) (sym here) ∙ k.0;
      kept = ap (λ p. broken_at nowhere image p free) (sym here) ∙ k.1;
    })
    (λ (there : from ≢ page). by_turns turns there e (λ n low f. sizes_reach image other us n (from + size_of v) page (is_free v) u size heads k.2 (omega (arith, whole)) within low f))
    (cases_eq from page)
  where
    by_unit : (m : ℕ) → from ≢ page → (o : Option Unit) → unit_at other from ≡ o → unit_begun (units_from (suc m) other from) from page ≡ Some u
        → ((n : ℕ) → from + size_of v ≤ page → unit_begun (units_from n other (from + size_of v)) (from + size_of v) page ≡ Some u → IsReached image us (from + size_of v) page)
        → IsReached image (v ∷ us) from page
    by_unit m there None is f rest = no_unit u (sym (ap (λ vs. unit_begun vs from page) (units_stop m other from (omega (arith, low, there, size)) is)) ∙ f)
    by_unit m there (Some w) is f rest =
        let less : from < page = omega (arith, low, there) in
        let same : size_of w ≡ size_of v = heads from w v less is k.0 in
        let step = units_step m other from w (omega (arith, size, less)) is in
        let on : unit_begun (units_from m other (from + size_of w)) (from + size_of w) page ≡ Some u =
        sym (begun_there w (units_from m other (from + size_of w)) from page there) ∙ ap (λ vs. unit_begun vs from page) (sym step) ∙ f in
        let moved : unit_begun (units_from m other (from + size_of v)) (from + size_of v) page ≡ Some u = subst (λ n. unit_begun (units_from m other (from + n)) (from + n) page ≡ Some u) same on in
        let next : from + size_of v ≤ page = ⊎_elim
        (λ (past : page < from + size_of v). no_unit u (sym (begun_past (units_from m other (from + size_of v)) (from + size_of v) page past) ∙ moved))
        (λ (good : from + size_of v ≤ page). good)
        (cases_lt page (from + size_of v)) in
        let r = rest m next moved in
        record { unit = r.unit; free = r.free; begun = begun_there v us from page there ∙ r.begun; there = r.there; kept = r.kept }

    by_turns : (n : ℕ) → from ≢ page → unit_begun (units_from n other from) from page ≡ Some u
        → ((m : ℕ) → from + size_of v ≤ page → unit_begun (units_from m other (from + size_of v)) (from + size_of v) page ≡ Some u → IsReached image us (from + size_of v) page)
        → IsReached image (v ∷ us) from page
    by_turns zero there f rest = no_unit u f
    by_turns (suc m) there f rest = by_unit m there (unit_at other from) refl f rest

-- where all heads before a page agree, and a unit of the other image begins there, so does one of a tiled image
pub reach : (image other : List ℕ) (us : List Unit) (turns from page : ℕ) (free : Bool) (u : Unit) → pages_of other ≡ pages_of image
    → ((p : ℕ) → p < page → unit_at other p ≡ unit_at image p) → KeepRules nowhere image from free us → from + total us ≡ pages_of image
    → page < pages_of image → from ≤ page → unit_begun (units_from turns other from) from page ≡ Some u → IsReached image us from page
reach image other us turns from page free u size heads k whole within low e =
    sizes_reach image other us turns from page free u (omega (arith, size, within))
    (λ p v w less is there. ap size_of (same_unit v w (sym is ∙ heads p less ∙ there))) k whole within low e
