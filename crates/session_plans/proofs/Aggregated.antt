-- A SELECT of aggregates, planned.
use Rattle.std.proofs.Common.{◌≡◌, ℕ, ℤ, ◌+◌, Bool, true, false, ◌||◌, List, [], ◌∷◌, length, map, Option, Some, None, Result, Ok, Err, refl, ap, sym, ◌∙◌, IsTrue, option_map, option_and_then}
use Rattle.std.specs.Prelude.{unwrap_or, slice_get, pos}
use Rattle.std.specs.List.{AllByRecursion, list_any}
use Rattle.std.specs.Option.{option_map_or}
use Rattle.std.proofs.lemmas.List.{length-map}
use Rattle.std.proofs.lemmas.Option.{unwrap_or-slice_get}
use Rattle.db_model.specs.declared.commands.Agg.{Agg}
use Rattle.db_model.specs.declared.refusals.Refusal.{Refusal}
use Rattle.db_model.specs.declared.refusals.Refusal.TheVariants as no
use Rattle.db_model.specs.declared.schemas.Attribute.{Attribute}
use Rattle.db_model.specs.declared.values.Value.{Value}
use Rattle.db_model.specs.declared.values.Value.TheVariants.{Number}
use Rattle.db_model.specs.Answers as named
use Rattle.db_model.specs.Answers.{aggregate, aggregated, selected}
use Rattle.db_model.specs.Cond.{Cond}
use Rattle.db_model.specs.Cost.{is_median}
use Rattle.db_model.specs.Database.{Relation}
use Rattle.db_model.specs.Item.{place_of, value_of}
use Rattle.db_model.specs.Refusing.{◌>>◌, refuse_found}
use Rattle.db_model.specs.Step.{Numbers, Reply, aggregate_of}
use Rattle.db_model.specs.Typing as db
use Rattle.db_model.specs.Typing.{aggregates, first_false, is_aggregable, is_attribute}
use Rattle.lvm.specs.Code.{first_refusal, first_ill_typed, first_missing_name, refusal}
use Rattle.lvm.proofs.Counting.{ill_typed-behind, ill_typed-in_front, missing_name-behind, missing_name-in_front}
use Rattle.session_model.specs.View.{value_at}
use Rattle.session_plans.specs.Aggregates.{answers, column_values, medians, suits_fold}
use Rattle.session_plans.specs.Places.{first_of, is_named, aggregates_at}
use Rattle.session_plans.proofs.Places.{parts, value_by_place}
use Rattle.session_plans.proofs.Planned.{mapped_same, none_missing, none_typed}

-- the aggregates of a list come before the comparisons of a condition
pub all_typed : Option ℕ → Option ℕ → Option ℕ
all_typed (Some n) typed = Some n
all_typed None typed = typed

pub refusing_all : {A : Type 0} (missing unsuited typed : Option ℕ) (rest : Result A Refusal) (nope : Refusal) → first_refusal missing typed ≡ Some nope
    → ◌>>◌ (refuse_found missing no.NoAttribute) (◌>>◌ (refuse_found (all_typed unsuited typed) no.IllTyped) rest) ≡ Err (first_of unsuited nope)
unfolding all_typed
refusing_all (Some n) (Some u) typed rest (no.NoAttribute m) e = cc
refusing_all (Some n) None typed rest nope e = cc
refusing_all None (Some u) (Some n) rest (no.IllTyped m) e = refl
refusing_all None None (Some n) rest nope e = cc
refusing_all None unsuited None rest nope e = absurd (cc)
refusing_all missing unsuited typed rest nope e = absurd (cc)

-- none is false, so each is true
pub each_true : {A : Type 0} (f : A → Bool) (xs : List A) (n : ℕ) → first_false n (map f xs) ≡ None → AllByRecursion (λ x. IsTrue (f x)) xs
each_true f [] n e = tt
each_true f (x ∷ xs) n e = step (f x) refl e (each_true f xs (n + 1))
  where
    step : (b : Bool) → f x ≡ b → first_false n (b ∷ map f xs) ≡ None → (first_false (n + 1) (map f xs) ≡ None → AllByRecursion (λ y. IsTrue (f y)) xs) → AllByRecursion (λ y. IsTrue (f y)) (x ∷ xs)
    step true is h rest = (is, rest h)
    step false is h rest = absurd (cc)

module _ (attributes : List Attribute) where
  suited_at : (agg : Agg) (a : Option Attribute) → option_map_or (aggregates agg) (option_map (λ (x : Attribute). x.domain) a) false ≡ option_map_or (λ (x : Attribute). aggregates agg x.domain) a false
  suited_at agg (Some a) = refl
  suited_at agg None = refl

  suited_by_place : (item : Agg × List ℕ) (k : ℕ) → place_of item.1 attributes ≡ Some k → is_aggregable attributes item ≡ suits_fold attributes (item.0, k)
  suited_by_place item k e =
      ap (λ (p : Option ℕ). option_map_or (aggregates item.0) (option_map (λ (a : Attribute). a.domain) (option_and_then (slice_get attributes) p)) false) e
      ∙ suited_at item.0 (slice_get attributes k)

  column_by_place : (tuples : List (List Value)) (name : List ℕ) (k : ℕ) → place_of name attributes ≡ Some k → named.column attributes name tuples ≡ column_values k tuples
  column_by_place tuples name k e =
      mapped_same (λ tuple. unwrap_or (value_of attributes tuple name) (Number (pos 0))) (λ tuple. value_at tuple k)
      (λ tuple. ap (λ (v : Option Value). unwrap_or v (Number (pos 0))) (value_by_place attributes tuple name k e) ∙ unwrap_or-slice_get tuple k (Number (pos 0))) tuples

  pub suited_same : (list : List (Agg × List ℕ)) (items : List (Agg × ℕ)) → aggregates_at attributes list ≡ Some items → map (is_aggregable attributes) list ≡ map (suits_fold attributes) items
  suited_same [] items e = let f : items ≡ [] = cc in ap (λ (xs : List (Agg × ℕ)). map (suits_fold attributes) xs) (sym f)
  suited_same (item ∷ list) items e =
      let p = parts (λ (k : ℕ) (xs : List (Agg × ℕ)). (item.0, k) ∷ xs) (place_of item.1 attributes) (aggregates_at attributes list) items e in
      ap (λ (b : Bool). b ∷ map (is_aggregable attributes) list) (suited_by_place item p.one p.first_is)
      ∙ ap (λ (bs : List Bool). suits_fold attributes (item.0, p.one) ∷ bs) (suited_same list p.others p.rest_is)
      ∙ ap (λ (xs : List (Agg × ℕ)). map (suits_fold attributes) xs) (sym p.all_is)

  pub medians_same : (list : List (Agg × List ℕ)) (items : List (Agg × ℕ)) → aggregates_at attributes list ≡ Some items → medians items ≡ list_any is_median list
  medians_same [] items e = let f : items ≡ [] = cc in ap (λ (xs : List (Agg × ℕ)). medians xs) f
  medians_same (item ∷ list) items e =
      let p = parts (λ (k : ℕ) (xs : List (Agg × ℕ)). (item.0, k) ∷ xs) (place_of item.1 attributes) (aggregates_at attributes list) items e in
      ap (λ (xs : List (Agg × ℕ)). medians xs) p.all_is ∙ ap (λ (b : Bool). is_median item || b) (medians_same list p.others p.rest_is)

  pub answers_same : (tuples : List (List Value)) (list : List (Agg × List ℕ)) (items : List (Agg × ℕ)) → aggregates_at attributes list ≡ Some items
      → map (λ (item : Agg × List ℕ). aggregate item.0 (named.column attributes item.1 tuples)) list ≡ answers items tuples
  answers_same tuples [] items e = let f : items ≡ [] = cc in ap (λ (xs : List (Agg × ℕ)). answers xs tuples) (sym f)
  answers_same tuples (item ∷ list) items e =
      let p = parts (λ (k : ℕ) (xs : List (Agg × ℕ)). (item.0, k) ∷ xs) (place_of item.1 attributes) (aggregates_at attributes list) items e in
      ap (λ (vs : List Value). aggregate item.0 vs ∷ map (λ (i : Agg × List ℕ). aggregate i.0 (named.column attributes i.1 tuples)) list) (column_by_place tuples item.1 p.one p.first_is)
      ∙ ap (λ (zs : List (Option ℤ)). aggregate item.0 (column_values p.one tuples) ∷ zs) (answers_same tuples list p.others p.rest_is)
      ∙ ap (λ (xs : List (Agg × ℕ)). answers xs tuples) (sym p.all_is)

  named_same : (list : List (Agg × List ℕ)) → map (is_attribute attributes) (map (λ (item : Agg × List ℕ). item.1) list) ≡ map (is_named attributes) list
  named_same [] = refl
  named_same (item ∷ list) = ap (λ (bs : List Bool). is_named attributes item ∷ bs) (named_same list)

module _ (list : List (Agg × List ℕ)) (condition : Option Cond) (r : Relation) where
  pub aggregate_unnamed : (nth : ℕ) → first_false 0 (map (is_named r.schema.attributes) list) ≡ Some nth → aggregate_of list condition r ≡ Err (no.NoAttribute nth)
  aggregate_unnamed nth e =
      rw (missing_name-in_front r.schema.attributes (map (λ (item : Agg × List ℕ). item.1) list) condition nth (ap (first_false 0) (named_same r.schema.attributes list) ∙ e)) refl

  module _ (items : List (Agg × ℕ)) (i : aggregates_at r.schema.attributes list ≡ Some items) (known : first_false 0 (map (is_named r.schema.attributes) list) ≡ None) where
    missing_is : db.missing_name r.schema.attributes (map (λ (item : Agg × List ℕ). item.1) list) condition ≡ first_missing_name (length list) r.schema.attributes condition
    missing_is =
        missing_name-behind r.schema.attributes (map (λ (item : Agg × List ℕ). item.1) list) condition (ap (first_false 0) (named_same r.schema.attributes list) ∙ known)
        ∙ ap (λ (n : ℕ). first_missing_name n r.schema.attributes condition) (length-map list (λ (item : Agg × List ℕ). item.1))

    typed_is : (unsuited : Option ℕ) → first_false 0 (map (suits_fold r.schema.attributes) items) ≡ unsuited
        → db.ill_typed r.schema.attributes (map (is_aggregable r.schema.attributes) list) condition ≡ all_typed unsuited (first_ill_typed (length list) r.schema.attributes condition)
    unfolding all_typed
    typed_is None e =
        ill_typed-behind r.schema.attributes (map (is_aggregable r.schema.attributes) list) condition (ap (first_false 0) (suited_same r.schema.attributes list items i) ∙ e)
        ∙ ap (λ (n : ℕ). first_ill_typed n r.schema.attributes condition) (length-map list (is_aggregable r.schema.attributes))
    typed_is (Some n) e =
        ill_typed-in_front r.schema.attributes (map (is_aggregable r.schema.attributes) list) condition n (ap (first_false 0) (suited_same r.schema.attributes list items i) ∙ e)

    pub aggregate_refused : (unsuited : Option ℕ) (nope : Refusal) → first_false 0 (map (suits_fold r.schema.attributes) items) ≡ unsuited
        → refusal (length list) r.schema.attributes condition ≡ Some nope → aggregate_of list condition r ≡ Err (first_of unsuited nope)
    aggregate_refused unsuited nope e f =
        rw (missing_is, typed_is unsuited e) (refusing_all _ unsuited _ (Ok (Numbers (aggregated r.schema.attributes list condition r.rows))) nope f)

    pub aggregate_untyped : (nth : ℕ) → first_false 0 (map (suits_fold r.schema.attributes) items) ≡ Some nth
        → refusal (length list) r.schema.attributes condition ≡ None → aggregate_of list condition r ≡ Err (no.IllTyped nth)
    unfolding all_typed
    aggregate_untyped nth e f = rw (missing_is ∙ none_missing _ _ f, typed_is (Some nth) e) refl

    pub aggregate_answers : first_false 0 (map (suits_fold r.schema.attributes) items) ≡ None → refusal (length list) r.schema.attributes condition ≡ None
        → aggregate_of list condition r ≡ Ok (Numbers (answers items (selected r.schema.attributes condition r.rows)))
    unfolding all_typed
    aggregate_answers e f =
        let reply : List (Option ℤ) → Result Reply Refusal = λ zs. Ok (Numbers zs) in
        rw (missing_is ∙ none_missing _ _ f, typed_is None e ∙ none_typed _ _ f)
        (ap reply (answers_same r.schema.attributes (selected r.schema.attributes condition r.rows) list items i))
