-- What the rules 16 and 17 say of each slot of a sound catalog.
use Rattle.std.proofs.Common.{◌≡◌, ℕ, zero, suc, ◌+◌, ◌*◌, ◌<◌, ◌≤◌, ⊎_elim, Bool, true, false, not, ◌&&◌, ◌||◌, ◌==◌, nat_le, List, [], ◌∷◌, length, map, take, get_or, Option, Some, None, if◌then◌else◌, refl, ap, sym, subst, ◌∙◌, arith}
use Rattle.std.specs.Prelude.{replicate, slice_range}
use Rattle.std.specs.List.{AllByRecursion, list_all, list_any, range_with_len}
use Rattle.std.specs.Str.{bytes_eq}
use Rattle.std.proofs.lemmas.Bool.{cases_lt}
use Rattle.std.proofs.lemmas.List.{get_or_past}
use Rattle.std.proofs.lemmas.List.FromFn.{get_or-map-range_with_len, length-map-range_with_len}
use Rattle.catalog.specs.Rules.{breaks_index, breaks_relation, broken_slot, broken_catalog, first, first_slot, has_form, has_name, is_attribute_slot, is_behind, is_domain, is_index_form, is_named_among, is_relation_slot, is_row, is_same_place, is_schema, is_sound_index, is_sound_relation, is_surplus_table, stands_on}
use Rattle.db_model.specs.declared.schemas.Attribute.{Attribute}
use Rattle.db_model.specs.declared.schemas.Domain.{Domain}
use Rattle.db_model.specs.declared.schemas.Domain.TheVariants.{Int, Long, Time, Str}
use Rattle.db_model.specs.declared.schemas.Schema.{Schema}
use Rattle.db_model.specs.Catalog.{Index, IsDomain, catalog_of, index_at, relation_at, version_of}
use Rattle.db_model.specs.Names.{is_name}
use Rattle.db_model.specs.Row.{row_length}
use Rattle.db_model.specs.Sound.{IsSoundAttribute, IsSoundSchema, StandsIn, are_distinct, attribute_names}
use Rattle.stored.proofs.FilesOf.{earliest_none, first_false, nothing_broken}
use Rattle.padded.proofs.Facts.{none_there, true_le, true_eq, none_some, not_not, both_parts, untrue}

-- ---- slots of a list that a function gives

pub record IsBelow {X : Type 0} (f : ℕ → Option X) (n k : ℕ) (x : X) : Type 0 where
  pub below : k < n
  pub is : f k ≡ Some x

pub slot_below : {X : Type 0} (f : ℕ → Option X) (n k : ℕ) (x : X) → StandsIn (map f (range_with_len 0 n)) k x → IsBelow f n k x
slot_below f n k x e = ⊎_elim
    (λ (less : k < n). record { below = less; is = sym (get_or-map-range_with_len f 0 n k k None less (omega arith)) ∙ e })
    (λ (past : n ≤ k).
    let size = length-map-range_with_len f 0 n in
    let none : get_or (map f (range_with_len 0 n)) k None ≡ None = get_or_past (map f (range_with_len 0 n)) k None (omega (arith, size, past)) in
    absurd (none_some x (sym none ∙ e)))
    (cases_lt k n)

-- a slot before a place is among the first
pub among_first : {X : Type 0} (test : Option X → Bool) (slots : List (Option X)) (j k : ℕ) (x : X) → j < k → StandsIn slots j x → test (Some x) ≡ true → list_any test (take k slots) ≡ true
among_first test [] j k x less e t = absurd (none_some x e)
among_first test (o ∷ slots) j zero x less e t = absurd (omega (arith, less))
among_first test (o ∷ slots) zero (suc k) x less e t = rw (ap test e ∙ t) refl
among_first test (o ∷ slots) (suc j) (suc k) x less e t = by_test (test o) (among_first test slots j k x (omega (arith, less)) e t)
  where
    by_test : (b : Bool) → list_any test (take k slots) ≡ true → (b || list_any test (take k slots)) ≡ true
    by_test true rest = refl
    by_test false rest = rest

-- ---- what is unbroken in a catalog

pub record IsUnbroken (bytes : List ℕ) : Type 0 where
  pub relations : first_slot bytes (breaks_relation bytes) ≡ None
  pub indexes : first_slot bytes (breaks_index bytes) ≡ None

pub unbroken_slots : (bytes : List ℕ) → broken_catalog bytes ≡ None → IsUnbroken bytes
unfolding broken_catalog
unbroken_slots bytes e =
    let fifteen : Option (ℕ × ℕ) = broken_slot 15 (if has_form bytes then None else Some 0) in
    let sixteen : Option (ℕ × ℕ) = broken_slot 16 (first_slot bytes (breaks_relation bytes)) in
    let seventeen : Option (ℕ × ℕ) = broken_slot 17 (first_slot bytes (breaks_index bytes)) in
    let a = earliest_none fifteen (sixteen ∷ seventeen ∷ []) e in
    let b = earliest_none sixteen (seventeen ∷ []) a.1 in
    let c = earliest_none seventeen [] b.1 in
    record { relations = nothing_broken 16 (first_slot bytes (breaks_relation bytes)) b.0; indexes = nothing_broken 17 (first_slot bytes (breaks_index bytes)) c.0 }

pub nothing : (bytes : List ℕ) → length bytes ≡ 0 → bytes ≡ []
nothing [] e = refl
nothing (b ∷ bytes) e = absurd (omega (arith, e))

-- a slot of a catalog that is not empty keeps the rule
pub kept : (bytes : List ℕ) (test : ℕ → Bool) (k : ℕ) → k < 8 → (length bytes ≡ 0 → ⊥) → first_slot bytes test ≡ None → test k ≡ false
kept bytes test k below some e = by_test (length bytes == 0) refl e
  where
    by_test : (b : Bool) → (length bytes == 0) ≡ b → (if b then None else first 8 test) ≡ None → test k ≡ false
    by_test true t f = absurd (some (true_eq (length bytes) 0 t))
    by_test false t f = first_false test 8 k below f

-- ---- rule 16

no_relations : map (relation_at []) (range_with_len 0 8) ≡ replicate 8 None
no_relations = refl

pub none_at : (k : ℕ) (schema : Schema) → k < 8 → relation_at [] k ≡ Some schema → ⊥
none_at k schema below e =
    let here : get_or (map (relation_at []) (range_with_len 0 8)) k None ≡ relation_at [] k = get_or-map-range_with_len (relation_at []) 0 8 k k None below (omega arith) in
    none_some schema (sym (ap (λ slots. get_or slots k None) no_relations ∙ none_there 8 k) ∙ here ∙ e)

pub record IsSoundSlot (bytes : List ℕ) (k : ℕ) (schema : Schema) : Type 0 where
  pub schema_is : is_schema (version_of bytes) schema ≡ true
  pub new : list_any (has_name schema.name) (take k (catalog_of bytes).relations) ≡ false

pub sound_slot : (bytes : List ℕ) (k : ℕ) (schema : Schema) → IsUnbroken bytes → k < 8 → relation_at bytes k ≡ Some schema → IsSoundSlot bytes k schema
unfolding breaks_relation
sound_slot bytes k schema u below e =
    let slot : List ℕ = slice_range bytes (176 * k) (176 * k + 176) in
    let some : length bytes ≡ 0 → ⊥ = λ z. none_at k schema below (ap (λ b. relation_at b k) (sym (nothing bytes z)) ∙ e) in
    let fine : is_sound_relation (version_of bytes) slot (take k (catalog_of bytes).relations) ≡ true =
    not_not (is_sound_relation (version_of bytes) slot (take k (catalog_of bytes).relations)) (kept bytes (breaks_relation bytes) k below some u.relations) in
    let at : (is_relation_slot (version_of bytes) slot (Some schema) && not (is_named_among (Some schema) (take k (catalog_of bytes).relations))) ≡ true =
    subst (λ (o : Option Schema). (is_relation_slot (version_of bytes) slot o && not (is_named_among o (take k (catalog_of bytes).relations))) ≡ true) e fine in
    let parts = both_parts (is_relation_slot (version_of bytes) slot (Some schema)) (not (is_named_among (Some schema) (take k (catalog_of bytes).relations))) at in
    record {
      schema_is = (both_parts (is_schema (version_of bytes) schema) (bytes_eq slot _) parts.0).0;
      new = untrue (list_any (has_name schema.name) (take k (catalog_of bytes).relations)) parts.1;
    }

sound_domain : (version : ℕ) (d : Domain) → is_domain version d ≡ true → IsDomain d × (d ≡ Time → version ≡ 2)
sound_domain version Int e = (tt, λ t. absurd (let n : ⊥ = cc in n))
sound_domain version Long e = (tt, λ t. absurd (let n : ⊥ = cc in n))
sound_domain version Time e = (tt, λ t. true_eq version 2 e)
sound_domain version (Str n) e = let parts = both_parts (nat_le 1 n) (nat_le n 32) e in ((true_le 1 n parts.0, true_le n 32 parts.1), λ t. absurd (let m : ⊥ = cc in m))

sound_attributes : (version : ℕ) (attributes : List Attribute) → list_all (is_attribute_slot version) attributes ≡ true → AllByRecursion (IsSoundAttribute version) attributes
sound_attributes version [] e = tt
sound_attributes version (a ∷ attributes) e =
    let parts = both_parts (is_attribute_slot version a) (list_all (is_attribute_slot version) attributes) e in
    let here = both_parts (is_name a.name) (is_domain version a.domain) parts.0 in
    let domain = sound_domain version a.domain here.1 in
    (record { name = here.0; domain = domain.0; time = domain.1 }, sound_attributes version attributes parts.1)

pub sound_schema : (version : ℕ) (schema : Schema) → is_schema version schema ≡ true → IsSoundSchema version schema
sound_schema version schema e =
    let few : Bool = nat_le (length schema.attributes) 8 in
    let each : Bool = list_all (is_attribute_slot version) schema.attributes in
    let row : Bool = is_row schema.attributes in
    let a = both_parts (is_name schema.name && (few && each)) row e in
    let b = both_parts (is_name schema.name) (few && each) a.0 in
    let c = both_parts few each b.1 in
    let d = both_parts (nat_le (row_length schema.attributes) 128) (are_distinct (attribute_names schema.attributes)) a.1 in
    record {
      name = b.0;
      few = true_le (length schema.attributes) 8 c.0;
      attributes = sound_attributes version schema.attributes c.1;
      distinct = d.1;
      short = true_le (row_length schema.attributes) 128 d.0;
    }

-- ---- rule 17

no_indexes : map (index_at []) (range_with_len 0 8) ≡ replicate 8 None
no_indexes = refl

no_index_at : (k : ℕ) (index : Index) → k < 8 → index_at [] k ≡ Some index → ⊥
no_index_at k index below e =
    let here : get_or (map (index_at []) (range_with_len 0 8)) k None ≡ index_at [] k = get_or-map-range_with_len (index_at []) 0 8 k k None below (omega arith) in
    none_some index (sym (ap (λ slots. get_or slots k None) no_indexes ∙ none_there 8 k) ∙ here ∙ e)

pub record IsSoundIndexSlot (bytes : List ℕ) (k : ℕ) (index : Index) : Type 0 where
  pub stands : stands_on index (get_or (catalog_of bytes).relations index.relation None) ≡ true
  pub alone : list_any (is_same_place index) (take k (catalog_of bytes).indexes) ≡ false
  pub few : is_surplus_table (take k (catalog_of bytes).indexes) index ≡ false

pub sound_index_slot : (bytes : List ℕ) (k : ℕ) (index : Index) → IsUnbroken bytes → k < 8 → index_at bytes k ≡ Some index → IsSoundIndexSlot bytes k index
unfolding breaks_index
sound_index_slot bytes k index u below e =
    let slot : List ℕ = slice_range bytes (1408 + 8 * k) (1408 + 8 * k + 8) in
    let relations : List (Option Schema) = (catalog_of bytes).relations in
    let before : List (Option Index) = take k (catalog_of bytes).indexes in
    let some : length bytes ≡ 0 → ⊥ = λ z. no_index_at k index below (ap (λ b. index_at b k) (sym (nothing bytes z)) ∙ e) in
    let fine : is_sound_index slot relations before ≡ true = not_not (is_sound_index slot relations before) (kept bytes (breaks_index bytes) k below some u.indexes) in
    let at : (is_index_form slot (Some index) && is_behind relations before (Some index)) ≡ true =
    subst (λ (o : Option Index). (is_index_form slot o && is_behind relations before o) ≡ true) e fine in
    let behind = (both_parts (is_index_form slot (Some index)) (is_behind relations before (Some index)) at).1 in
    let here : Bool = stands_on index (get_or relations index.relation None) in
    let same : Bool = list_any (is_same_place index) before in
    let third : Bool = is_surplus_table before index in
    let a = both_parts (here && not same) (not third) behind in
    let b = both_parts here (not same) a.0 in
    record { stands = b.0; alone = untrue same b.1; few = untrue third a.1 }
