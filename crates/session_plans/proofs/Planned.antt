-- A SELECT of names, planned.
use Rattle.std.proofs.Common.{◌≡◌, ℕ, true, List, [], ◌∷◌, length, map, Option, Some, None, Result, Ok, Err, refl, ap, ◌∙◌}
use Rattle.std.proofs.lemmas.List.{length-map}
use Rattle.db_model.specs.declared.refusals.Refusal.{Refusal}
use Rattle.db_model.specs.declared.refusals.Refusal.TheVariants as no
use Rattle.db_model.specs.declared.values.Value.{Value}
use Rattle.db_model.specs.Answers.{projected, select, selected}
use Rattle.db_model.specs.Cond.{Cond}
use Rattle.db_model.specs.Database.{Relation}
use Rattle.db_model.specs.Refusing.{◌>>◌, refuse_found}
use Rattle.db_model.specs.Step.{select_from}
use Rattle.db_model.specs.Typing as db
use Rattle.db_model.specs.Typing.{first_false, is_attribute}
use Rattle.lvm.specs.Code.{first_refusal, first_ill_typed, first_missing_name, refusal}
use Rattle.lvm.proofs.Counting.{ill_typed-behind, missing_name-behind, missing_name-in_front}
use Rattle.session_model.specs.View.{project}
use Rattle.session_plans.specs.Places.{places_named}
use Rattle.session_plans.proofs.Places.{all_true, projects}

-- a missing name comes before what is ill typed
pub refusing : {A : Type 0} (missing typed : Option ℕ) (rest : Result A Refusal) (nope : Refusal) → first_refusal missing typed ≡ Some nope
    → ◌>>◌ (refuse_found missing no.NoAttribute) (◌>>◌ (refuse_found typed no.IllTyped) rest) ≡ Err nope
refusing (Some n) typed rest nope e = cc
refusing None (Some n) rest nope e = cc
refusing None None rest nope e = cc

pub none_missing : (missing typed : Option ℕ) → first_refusal missing typed ≡ None → missing ≡ None
none_missing None typed e = refl
none_missing (Some n) typed e = cc

pub none_typed : (missing typed : Option ℕ) → first_refusal missing typed ≡ None → typed ≡ None
none_typed None None e = refl
none_typed None (Some n) e = cc
none_typed (Some n) typed e = cc

pub mapped_same : {A B : Type 0} (f g : A → B) → ((a : A) → f a ≡ g a) → (xs : List A) → map f xs ≡ map g xs
mapped_same f g same [] = refl
mapped_same f g same (x ∷ xs) = ap (λ y. y ∷ map f xs) (same x) ∙ ap (λ ys. g x ∷ ys) (mapped_same f g same xs)

module _ (list : List (List ℕ)) (condition : Option Cond) (r : Relation) where
  pub select_unnamed : (nth : ℕ) → first_false 0 (map (is_attribute r.schema.attributes) list) ≡ Some nth → select_from list condition r ≡ Err (no.NoAttribute nth)
  select_unnamed nth e = rw (missing_name-in_front r.schema.attributes list condition nth e) refl

  missing_is : first_false 0 (map (is_attribute r.schema.attributes) list) ≡ None → db.missing_name r.schema.attributes list condition ≡ first_missing_name (length list) r.schema.attributes condition
  missing_is e = missing_name-behind r.schema.attributes list condition e

  typed_is : db.ill_typed r.schema.attributes (map (λ _. true) list) condition ≡ first_ill_typed (length list) r.schema.attributes condition
  typed_is =
      ill_typed-behind r.schema.attributes (map (λ _. true) list) condition (all_true list 0)
      ∙ ap (λ (n : ℕ). first_ill_typed n r.schema.attributes condition) (length-map list (λ _. true))

  pub select_refused : (nope : Refusal) → first_false 0 (map (is_attribute r.schema.attributes) list) ≡ None → refusal (length list) r.schema.attributes condition ≡ Some nope → select_from list condition r ≡ Err nope
  select_refused nope e f = rw (missing_is e, typed_is) (refusing _ _ (Ok (select r.schema.attributes list condition r.rows)) nope f)

  pub select_answers : (places : List ℕ) → places_named r.schema.attributes list ≡ Some places → first_false 0 (map (is_attribute r.schema.attributes) list) ≡ None
      → refusal (length list) r.schema.attributes condition ≡ None → select_from list condition r ≡ Ok (map (project places) (selected r.schema.attributes condition r.rows))
  select_answers places p e f =
      let answer : List (List Value) → Result (List (List Value)) Refusal = λ ts. Ok ts in
      rw (missing_is e ∙ none_missing _ _ f, typed_is ∙ none_typed _ _ f)
      (ap answer (mapped_same (projected r.schema.attributes list) (project places) (λ tuple. projects r.schema.attributes tuple list places p) (selected r.schema.attributes condition r.rows)))
