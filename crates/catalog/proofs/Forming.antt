-- What is read slot by slot is formed, whatever files hold.
use Rattle.std.proofs.Common.{◌≡◌, ℕ, zero, suc, ◌+◌, ◌-◌, ◌<◌, ◌≤◌, true, List, [], ◌∷◌, ◌++◌, length, set, take, get_or, refl, sym, ap, ◌∙◌, subst, arith, Option, Some, None}
use Rattle.std.specs.Prelude.{IfOk, IfSome, OnOk, Result, Ok, Err, not, option_map}
use Rattle.std.proofs.lemmas.List.{map-append, get_or-append-add, get_or_append_left, take-append-le, take_all, take_more_set}
use Rattle.std.proofs.Math.Logic.{⊎_elim}
use Rattle.std.proofs.lemmas.Bool.{cases_lt}
use Rattle.db_model.specs.declared.schemas.Schema.{Schema}
use Rattle.db_model.specs.Catalog.{Index, relation_slot_bytes, relation_slot_of, index_slot_of}
use Rattle.std.specs.Str.{bytes_eq}
use Rattle.afl_base.specs.Files.{IsNamed, Table, size_at}
use Rattle.space_model.specs.FileNames.{catalog_file}
use Rattle.catalog.specs.declared.types.IndexEntry.{IndexEntry}
use Rattle.catalog.specs.CatalogFile.{IsCatalogSize, index_in, indexes_in}
use Rattle.catalog.specs.Formed.{AreBehind, AreSchemas, HasCatalogSize, is_schema_slot}
use Rattle.catalog.specs.Rules.{is_behind, is_index_form, is_named_among, is_relation_slot, is_schema, sound_index, sound_relation}
use Rattle.padded.proofs.Facts.{first_part, second_part}
use Rattle.catalog.proofs.Choices.{some_if}

-- ---- relations

form_of_slot : (version : ℕ) (slot : List ℕ) (o : Option Schema) → is_relation_slot version slot o ≡ true → is_schema_slot version o ≡ true
form_of_slot version slot None e = refl
form_of_slot version slot (Some schema) e = first_part (is_schema version schema) (bytes_eq slot (relation_slot_bytes (Some schema))) e

pub relation_formed : (version : ℕ) (slot : List ℕ) (before : List (Option Schema)) (o : Option (Option Schema)) → o ≡ sound_relation version slot before → IfSome o (λ r. is_schema_slot version r ≡ true)
unfolding sound_relation
relation_formed version slot before None e = tt
relation_formed version slot before (Some r) e =
    let found = some_if _ r (relation_slot_of slot) e in
    let form = first_part (is_relation_slot version slot (relation_slot_of slot)) (not (is_named_among (relation_slot_of slot) before)) found.0 in
    subst (λ (o : Option Schema). is_schema_slot version o ≡ true) (sym found.1) (form_of_slot version slot (relation_slot_of slot) form)

schemas_behind : (version : ℕ) (xs : List (Option Schema)) (x : Option Schema) → AreSchemas version xs → is_schema_slot version x ≡ true → AreSchemas version (xs ++ x ∷ [])
schemas_behind version [] x all one zero = one
schemas_behind version [] x all one (suc k) = refl
schemas_behind version (y ∷ ys) x all one zero = all zero
schemas_behind version (y ∷ ys) x all one (suc k) = schemas_behind version ys x (λ j. all (suc j)) one k

pub schemas_more : (version : ℕ) (xs : List (Option Schema)) (k : ℕ) (x : Option Schema) → k < length xs → AreSchemas version (take k xs) → is_schema_slot version x ≡ true → AreSchemas version (take (k + 1) (set xs k x))
schemas_more version xs k x h all one = subst (AreSchemas version) (sym (take_more_set xs k x h)) (schemas_behind version (take k xs) x all one)

pub schemas_all : (version : ℕ) (xs : List (Option Schema)) (k : ℕ) → length xs ≤ k → AreSchemas version (take k xs) → AreSchemas version xs
schemas_all version xs k h all = subst (AreSchemas version) (take_all k xs h) all

-- ---- indexes

pub index_behind : (slot : List ℕ) (relations : List (Option Schema)) (before : List (Option Index)) (o : Option (Option IndexEntry)) → option_map (option_map index_in) o ≡ sound_index slot relations before
    → IfSome o (λ x. is_behind relations before (option_map index_in x) ≡ true)
unfolding sound_index
index_behind slot relations before None e = tt
index_behind slot relations before (Some x) e =
    let found = some_if _ (option_map index_in x) (index_slot_of slot) e in
    subst (λ (o : Option Index). is_behind relations before o ≡ true) (sym found.1)
    (second_part (is_index_form slot (index_slot_of slot)) (is_behind relations before (index_slot_of slot)) found.0)

behind_next : (relations : List (Option Schema)) (xs : List (Option Index)) (x : Option Index) → AreBehind relations xs → is_behind relations xs x ≡ true → AreBehind relations (xs ++ x ∷ [])
behind_next relations xs x all one i = ⊎_elim before from (cases_lt i (length xs))
  where
    before : i < length xs → is_behind relations (take i (xs ++ x ∷ [])) (get_or (xs ++ x ∷ []) i None) ≡ true
    before less =
        ap (λ (o : Option Index). is_behind relations (take i (xs ++ x ∷ [])) o) (get_or_append_left xs (x ∷ []) None i less)
        ∙ ap (λ (b : List (Option Index)). is_behind relations b (get_or xs i None)) (take-append-le i xs (x ∷ []) (omega (arith, less)))
        ∙ all i

    from : length xs ≤ i → is_behind relations (take i (xs ++ x ∷ [])) (get_or (xs ++ x ∷ []) i None) ≡ true
    from more = by_rest (i - length xs) (omega (arith, more))
      where
        by_rest : (n : ℕ) → i ≡ length xs + n → is_behind relations (take i (xs ++ x ∷ [])) (get_or (xs ++ x ∷ []) i None) ≡ true
        by_rest zero e =
            let same : i ≡ length xs = omega (arith, e) in
            let here : take i (xs ++ x ∷ []) ≡ xs = ap (λ (k : ℕ). take k (xs ++ x ∷ [])) same ∙ take-append-le (length xs) xs (x ∷ []) (omega arith) ∙ take_all (length xs) xs (omega arith) in
            ap (λ (o : Option Index). is_behind relations (take i (xs ++ x ∷ [])) o) (ap (λ (k : ℕ). get_or (xs ++ x ∷ []) k None) e ∙ get_or-append-add xs (x ∷ []) 0 None)
            ∙ ap (λ (b : List (Option Index)). is_behind relations b x) here ∙ one
        by_rest (suc n) e =
            ap (λ (o : Option Index). is_behind relations (take i (xs ++ x ∷ [])) o) (ap (λ (k : ℕ). get_or (xs ++ x ∷ []) k None) e ∙ get_or-append-add xs (x ∷ []) (suc n) None)

pub behind_more : (relations : List (Option Schema)) (xs : List (Option IndexEntry)) (k : ℕ) (x : Option IndexEntry) → k < length xs → AreBehind relations (indexes_in (take k xs))
    → is_behind relations (indexes_in (take k xs)) (option_map index_in x) ≡ true → AreBehind relations (indexes_in (take (k + 1) (set xs k x)))
behind_more relations xs k x h all one =
    subst (AreBehind relations) (sym (ap indexes_in (take_more_set xs k x h) ∙ map-append (option_map index_in) (take k xs) (x ∷ [])))
    (behind_next relations (indexes_in (take k xs)) (option_map index_in x) all one)

pub behind_all : (relations : List (Option Schema)) (xs : List (Option IndexEntry)) (k : ℕ) → length xs ≤ k → AreBehind relations (indexes_in (take k xs)) → AreBehind relations (indexes_in xs)
behind_all relations xs k h all = subst (λ (ys : List (Option IndexEntry)). AreBehind relations (indexes_in ys)) (take_all k xs h) all

-- ---- the size of the catalog's file

sizes : {T E : Type 0} (files : Table) (cat : ℕ) → ((k : ℕ) → IsNamed files k catalog_file → k ≡ cat) → (r : Result T E) → OnOk r (IsCatalogSize (size_at files cat)) → OnOk r (HasCatalogSize files)
sizes files cat only (Ok done) h = λ id named. subst (λ (k : ℕ). IsCatalogSize (size_at files k)) (sym (only id named)) h
sizes files cat only (Err bad) h = tt

pub read_sizes : {T E F : Type 0} (files : Table) (cat : ℕ) → ((k : ℕ) → IsNamed files k catalog_file → k ≡ cat) → (r : Result (Result T E) F) → IfOk r (λ inner. OnOk inner (IsCatalogSize (size_at files cat)))
    → IfOk r (λ inner. OnOk inner (HasCatalogSize files))
read_sizes files cat only (Ok inner) h = sizes files cat only inner h
read_sizes files cat only (Err e) h = tt
