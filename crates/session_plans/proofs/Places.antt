-- What is found by place is what is found by name.
use Rattle.std.proofs.Common.{◌≡◌, ℕ, ◌+◌, true, List, [], ◌∷◌, get_or, map, Option, Some, None, refl, ap, sym, ◌∙◌, option_map, option_and_then}
use Rattle.std.proofs.lemmas.Option.{unwrap_or-slice_get}
use Rattle.std.specs.Prelude.{unwrap_or, slice_get, pos}
use Rattle.db_model.specs.declared.schemas.Attribute.{Attribute}
use Rattle.db_model.specs.declared.values.Value.{Value}
use Rattle.db_model.specs.declared.values.Value.TheVariants.{Number}
use Rattle.db_model.specs.Answers.{projected}
use Rattle.db_model.specs.Item.{place_of, value_of}
use Rattle.db_model.specs.Typing.{first_false}
use Rattle.session_model.specs.View.{project}
use Rattle.session_plans.specs.Places.{places_named}

-- the parts of what was found part by part
pub record Parts {A B C : Type 0} (f : A → B → C) (first : Option A) (rest : Option B) (all : C) : Type 0 where
  pub one : A
  pub others : B
  pub first_is : first ≡ Some one
  pub rest_is : rest ≡ Some others
  pub all_is : all ≡ f one others

pub parts : {A B C : Type 0} (f : A → B → C) (first : Option A) (rest : Option B) (all : C)
    → option_and_then (λ a. option_map (f a) rest) first ≡ Some all → Parts f first rest all
parts f None rest all e = cc
parts f (Some a) None all e = cc
parts f (Some a) (Some b) all e = record { one = a; others = b; first_is = refl; rest_is = refl; all_is = cc }

-- nothing is false in a list of what is true
pub all_true : {A : Type 0} (xs : List A) (n : ℕ) → first_false n (map (λ _. true) xs) ≡ None
all_true [] n = refl
all_true (x ∷ xs) n = all_true xs (n + 1)

pub value_by_place : (attributes : List Attribute) (tuple : List Value) (name : List ℕ) (k : ℕ) → place_of name attributes ≡ Some k
    → value_of attributes tuple name ≡ slice_get tuple k
value_by_place attributes tuple name k e = ap (option_and_then (slice_get tuple)) e

pub projects : (attributes : List Attribute) (tuple : List Value) (list : List (List ℕ)) (places : List ℕ) → places_named attributes list ≡ Some places
    → projected attributes list tuple ≡ project places tuple
projects attributes tuple [] places e = let f : places ≡ [] = cc in ap (λ (ps : List ℕ). project ps tuple) (sym f)
projects attributes tuple (name ∷ list) places e =
    let p = parts (λ (k : ℕ) (ks : List ℕ). k ∷ ks) (place_of name attributes) (places_named attributes list) places e in
    let first = ap (λ (v : Option Value). unwrap_or v (Number (pos 0))) (value_by_place attributes tuple name p.one p.first_is) ∙ unwrap_or-slice_get tuple p.one (Number (pos 0)) in
    ap (λ (v : Value). v ∷ projected attributes list tuple) first
    ∙ ap (λ (vs : List Value). get_or tuple p.one (Number (pos 0)) ∷ vs) (projects attributes tuple list p.others p.rest_is)
    ∙ ap (λ (ps : List ℕ). project ps tuple) (sym p.all_is)
