-- The first index of a list that gives a plan.
use Rattle.std.proofs.Common.{◌≡◌, ◌<◌, ◌≤◌, ◌+◌, ℕ, zero, suc, List, [], ◌∷◌, length, get_or, drop, Bool, true, false, ◌||◌, Option, Some, None, refl, arith, ap, ◌∙◌, sym}
use Rattle.std.specs.Prelude.{is_some, option_map}
use Rattle.std.specs.List.{list_any}
use Rattle.std.specs.Option.{option_or}
use Rattle.db_model.specs.declared.schemas.IndexKind.{IndexKind}
use Rattle.db_model.specs.Plan as model
use Rattle.db_model.specs.Plan.{first_plan}
use Rattle.index_set.specs.declared.choices.Plan.{Plan}
use Rattle.index_set.specs.declared.info.IndexInfo.{IndexInfo}
use Rattle.index_set.specs.Plans.{access_kind, kinds, plan_in}

abbrev pub kind_at : IndexInfo → IndexKind × ℕ
kind_at info = (access_kind info.access, info.attribute)

-- the rest of a list of indexes begins with the one at its place
pub rest_of : (xs : List IndexInfo) (n : ℕ) (y : IndexInfo) → n < length xs → y ≡ get_or xs n y → drop n (kinds xs) ≡ kind_at y ∷ drop (n + 1) (kinds xs)
rest_of [] n y h e = absurd (omega (arith, h))
rest_of (x ∷ xs) zero y h e = ap (λ (i : IndexInfo). kind_at i ∷ kinds xs) (sym e)
rest_of (x ∷ xs) (suc n) y h e = let more : suc n + 1 ≡ suc (n + 1) = omega arith in rw more (rest_of xs n y (omega (arith, h)) e)

module _ (usable : ℕ → IndexKind × ℕ → Option model.Plan) (xs : List IndexInfo) (n : ℕ) (y : IndexInfo) (h : n < length xs) (e : y ≡ get_or xs n y) where
  pub found_plan : (p : model.Plan) → first_plan usable 0 (kinds xs) ≡ first_plan usable n (drop n (kinds xs)) → usable n (kind_at y) ≡ Some p → first_plan usable 0 (kinds xs) ≡ Some p
  found_plan p same is = same ∙ ap (first_plan usable n) (rest_of xs n y h e) ∙ ap (λ (o : Option model.Plan). option_or o (first_plan usable (n + 1) (drop (n + 1) (kinds xs)))) is

  pub passed_plan : first_plan usable 0 (kinds xs) ≡ first_plan usable n (drop n (kinds xs)) → usable n (kind_at y) ≡ None → first_plan usable 0 (kinds xs) ≡ first_plan usable (n + 1) (drop (n + 1) (kinds xs))
  passed_plan same is = same ∙ ap (first_plan usable n) (rest_of xs n y h e) ∙ ap (λ (o : Option model.Plan). option_or o (first_plan usable (n + 1) (drop (n + 1) (kinds xs)))) is

module _ (test : IndexKind × ℕ → Bool) (xs : List IndexInfo) (n : ℕ) (y : IndexInfo) (h : n < length xs) (e : y ≡ get_or xs n y) where
  pub found_any : list_any test (kinds xs) ≡ list_any test (drop n (kinds xs)) → test (kind_at y) ≡ true → list_any test (kinds xs) ≡ true
  found_any same is = same ∙ ap (list_any test) (rest_of xs n y h e) ∙ ap (λ (b : Bool). b || list_any test (drop (n + 1) (kinds xs))) is

  pub passed_any : list_any test (kinds xs) ≡ list_any test (drop n (kinds xs)) → test (kind_at y) ≡ false → list_any test (kinds xs) ≡ list_any test (drop (n + 1) (kinds xs))
  passed_any same is = same ∙ ap (list_any test) (rest_of xs n y h e) ∙ ap (λ (b : Bool). b || list_any test (drop (n + 1) (kinds xs))) is

pub none_any : (test : IndexKind × ℕ → Bool) (xs : List IndexInfo) (n : ℕ) → length xs ≤ n → list_any test (drop n (kinds xs)) ≡ false
none_any test [] zero h = refl
none_any test [] (suc n) h = refl
none_any test (x ∷ xs) zero h = absurd (omega (arith, h))
none_any test (x ∷ xs) (suc n) h = none_any test xs n (omega (arith, h))

-- ---- over what an index has given

module _ (usable : ℕ → IndexKind × ℕ → Option model.Plan) (xs : List IndexInfo) (n : ℕ) (y : IndexInfo) (h : n < length xs) (e : y ≡ get_or xs n y) (same : first_plan usable 0 (kinds xs) ≡ first_plan usable n (drop n (kinds xs))) where
  pub given_plan : (r : Option Plan) → is_some r ≡ true → option_map plan_in r ≡ usable n (kind_at y) → option_map plan_in r ≡ first_plan usable 0 (kinds xs)
  given_plan None some is = cc
  given_plan (Some p) some is = sym (found_plan usable xs n y h e (plan_in p) same (sym is))

  pub no_given : (r : Option Plan) → is_some r ≡ false → option_map plan_in r ≡ usable n (kind_at y) → first_plan usable 0 (kinds xs) ≡ first_plan usable (n + 1) (drop (n + 1) (kinds xs))
  no_given None none is = passed_plan usable xs n y h e same (sym is)
  no_given (Some p) none is = cc
