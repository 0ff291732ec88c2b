-- The parts of a relation's slot.
use Rattle.std.proofs.Common.{◌≡◌, ℕ, suc, ◌+◌, ◌-◌, ◌*◌, ◌≤◌, true, ◌&&◌, List, [], ◌∷◌, ◌++◌, length, take, drop, replicate, Some, refl, sym, ap, ◌∙◌, arith, append_assoc, length-append}
use Rattle.std.specs.Prelude.{flat_map, is_some, nat_le, not, slice_range}
use Rattle.std.specs.Char.{is_ascii_alphabetic}
use Rattle.std.specs.List.{AllByRecursion, list_all}
use Rattle.std.proofs.Math.Nat.{mul-suc, mul-zero}
use Rattle.std.proofs.lemmas.List.{drop_at, length-replicate, take_at}
use Rattle.std.proofs.lemmas.List.Concat.{flat_map-cons}
use Rattle.catalog.specs.Rules.{is_attribute_slot, is_domain, is_row, is_schema}
use Rattle.db_model.specs.declared.schemas.Attribute.{Attribute}
use Rattle.db_model.specs.declared.schemas.Domain.{Domain}
use Rattle.db_model.specs.declared.schemas.Domain.TheVariants.{Int, Long, Time, Str}
use Rattle.db_model.specs.declared.schemas.Schema.{Schema}
use Rattle.db_model.specs.Catalog.{IsAttribute, IsDomain, IsRelation, attribute_bytes, domain_code, domain_length, relation_slot_bytes}
use Rattle.db_model.specs.Keywords.{keyword_of}
use Rattle.db_model.specs.Names.{is_name, is_word, is_word_byte}
use Rattle.db_model.proofs.Rows.{length-padded}
use Rattle.padded.specs.Padded.{padded}
use Rattle.padded.proofs.Facts.{both_parts, both_true, true_le}

-- ---- attributes

name_short : (name : List ℕ) → is_name name ≡ true → length name ≤ 15
name_short [] e = cc
name_short (b ∷ bytes) e =
    let word = both_parts (is_word (b ∷ bytes)) (not (is_some (keyword_of (b ∷ bytes)))) e in
    let front = both_parts (nat_le (length bytes) 14 && is_ascii_alphabetic b) (list_all is_word_byte bytes) word.0 in
    omega (arith, true_le (length bytes) 14 (both_parts (nat_le (length bytes) 14) (is_ascii_alphabetic b) front.0).0)

pub length-name : (name : List ℕ) → is_name name ≡ true → length (padded 16 name) ≡ 16
length-name name e = length-padded 16 name (omega (arith, name_short name e))

pub length-attribute : (a : Attribute) → IsAttribute a → length (attribute_bytes a) ≡ 18
length-attribute a e = length-append (padded 16 a.name) (domain_code a.domain ∷ domain_length a.domain ∷ []) ∙ omega (arith, length-name a.name e.0)

pub length-flat : (attributes : List Attribute) → AllByRecursion IsAttribute attributes → length (flat_map attribute_bytes attributes) ≡ 18 * length attributes
length-flat [] all = sym (mul-zero 18)
length-flat (a ∷ attributes) all =
    let first = length-attribute a all.0 in
    let rest = length-flat attributes all.1 in
    let more : 18 * suc (length attributes) ≡ 18 * length attributes + 18 = mul-suc 18 (length attributes) in
    ap length (flat_map-cons attribute_bytes a attributes) ∙ length-append (attribute_bytes a) (flat_map attribute_bytes attributes) ∙ omega (arith, first, rest, more)

-- ---- what a sound schema is

domain_of : (version : ℕ) (d : Domain) → is_domain version d ≡ true → IsDomain d
domain_of version Int e = tt
domain_of version Long e = tt
domain_of version Time e = tt
domain_of version (Str n) e = let parts = both_parts (nat_le 1 n) (nat_le n 32) e in (true_le 1 n parts.0, true_le n 32 parts.1)

pub attribute_of_slot : (version : ℕ) (a : Attribute) → is_attribute_slot version a ≡ true → IsAttribute a
attribute_of_slot version a e = let parts = both_parts (is_name a.name) (is_domain version a.domain) e in (parts.0, domain_of version a.domain parts.1)

attributes_are : (version : ℕ) (attributes : List Attribute) → list_all (is_attribute_slot version) attributes ≡ true → AllByRecursion IsAttribute attributes
attributes_are version [] e = tt
attributes_are version (a ∷ attributes) e =
    let parts = both_parts (is_attribute_slot version a) (list_all (is_attribute_slot version) attributes) e in
    (attribute_of_slot version a parts.0, attributes_are version attributes parts.1)

-- the three tests of a schema
pub record IsSound (version : ℕ) (schema : Schema) : Type 0 where
  pub name : is_name schema.name ≡ true
  pub few : length schema.attributes ≤ 8
  pub all : list_all (is_attribute_slot version) schema.attributes ≡ true
  pub row : is_row schema.attributes ≡ true

pub sound_of : (version : ℕ) (schema : Schema) → is_schema version schema ≡ true → IsSound version schema
sound_of version schema e =
    let outer = both_parts (is_name schema.name && (nat_le (length schema.attributes) 8 && list_all (is_attribute_slot version) schema.attributes)) (is_row schema.attributes) e in
    let front = both_parts (is_name schema.name) (nat_le (length schema.attributes) 8 && list_all (is_attribute_slot version) schema.attributes) outer.0 in
    let inner = both_parts (nat_le (length schema.attributes) 8) (list_all (is_attribute_slot version) schema.attributes) front.1 in
    record { name = front.0; few = true_le (length schema.attributes) 8 inner.0; all = inner.1; row = outer.1 }

pub relation_of : (version : ℕ) (schema : Schema) → is_schema version schema ≡ true → IsRelation (Some schema)
relation_of version schema e = let s = sound_of version schema e in (s.name, s.few, attributes_are version schema.attributes s.all)

-- what version 1 has, version 2 has too
domain_in_2 : (version : ℕ) (d : Domain) → is_domain version d ≡ true → is_domain 2 d ≡ true
domain_in_2 version Int e = refl
domain_in_2 version Long e = refl
domain_in_2 version Time e = refl
domain_in_2 version (Str n) e = e

attributes_in_2 : (version : ℕ) (attributes : List Attribute) → list_all (is_attribute_slot version) attributes ≡ true → list_all (is_attribute_slot 2) attributes ≡ true
attributes_in_2 version [] e = refl
attributes_in_2 version (a ∷ attributes) e =
    let parts = both_parts (is_attribute_slot version a) (list_all (is_attribute_slot version) attributes) e in
    let first = both_parts (is_name a.name) (is_domain version a.domain) parts.0 in
    both_true (is_attribute_slot 2 a) (list_all (is_attribute_slot 2) attributes) (both_true (is_name a.name) (is_domain 2 a.domain) first.0 (domain_in_2 version a.domain first.1)) (attributes_in_2 version attributes parts.1)

pub schema_in_2 : (version : ℕ) (schema : Schema) → is_schema version schema ≡ true → is_schema 2 schema ≡ true
schema_in_2 version schema e =
    let outer = both_parts (is_name schema.name && (nat_le (length schema.attributes) 8 && list_all (is_attribute_slot version) schema.attributes)) (is_row schema.attributes) e in
    let front = both_parts (is_name schema.name) (nat_le (length schema.attributes) 8 && list_all (is_attribute_slot version) schema.attributes) outer.0 in
    let inner = both_parts (nat_le (length schema.attributes) 8) (list_all (is_attribute_slot version) schema.attributes) front.1 in
    both_true (is_name schema.name && (nat_le (length schema.attributes) 8 && list_all (is_attribute_slot 2) schema.attributes)) (is_row schema.attributes)
    (both_true (is_name schema.name) (nat_le (length schema.attributes) 8 && list_all (is_attribute_slot 2) schema.attributes) front.0
    (both_true (nat_le (length schema.attributes) 8) (list_all (is_attribute_slot 2) schema.attributes) inner.0 (attributes_in_2 version schema.attributes inner.1)))
    outer.1

-- ---- the slot

-- the number of attributes, and the byte at the end
abbrev pub slot_end : ℕ → List ℕ
slot_end n = padded 15 (n ∷ []) ++ 1 ∷ []

-- the name and the attributes
abbrev pub slot_front : Schema → List ℕ
slot_front schema = padded 16 schema.name ++ flat_map attribute_bytes schema.attributes

-- behind them zeros, up to their number
abbrev pub slot_rest : ℕ → List ℕ
slot_rest n = replicate (144 - 18 * n) 0 ++ slot_end n

pub slot_shape : (schema : Schema) → IsRelation (Some schema) → relation_slot_bytes (Some schema) ≡ slot_front schema ++ slot_rest (length schema.attributes)
slot_shape schema e =
    let name : List ℕ = padded 16 schema.name in
    let flat : List ℕ = flat_map attribute_bytes schema.attributes in
    let zeros : List ℕ = replicate (144 - length flat) 0 in
    let count : List ℕ = padded 15 (length schema.attributes ∷ []) in
    append_assoc (name ++ (flat ++ zeros)) count (1 ∷ [])
    ∙ ap (λ (xs : List ℕ). xs ++ slot_end (length schema.attributes)) (sym (append_assoc name flat zeros))
    ∙ append_assoc (name ++ flat) zeros (slot_end (length schema.attributes))
    ∙ ap (λ (n : ℕ). (name ++ flat) ++ (replicate (144 - n) 0 ++ slot_end (length schema.attributes))) (length-flat schema.attributes e.2)

pub length-front : (schema : Schema) → IsRelation (Some schema) → length (slot_front schema) ≡ 16 + 18 * length schema.attributes
length-front schema e =
    length-append (padded 16 schema.name) (flat_map attribute_bytes schema.attributes) ∙ omega (arith, length-name schema.name e.0, length-flat schema.attributes e.2)

-- zeros stand behind the attributes
pub slot_zeros : (schema : Schema) → IsRelation (Some schema)
    → slice_range (relation_slot_bytes (Some schema)) (16 + 18 * length schema.attributes) 160 ≡ replicate (144 - 18 * length schema.attributes) 0
slot_zeros schema e =
    let n : ℕ = length schema.attributes in
    let few : length schema.attributes ≤ 8 = e.1 in
    let width : 160 - (16 + 18 * n) ≡ 144 - 18 * n = omega (arith, few) in
    ap (λ (xs : List ℕ). take (160 - (16 + 18 * n)) (drop (16 + 18 * n) xs)) (slot_shape schema e)
    ∙ ap (take (160 - (16 + 18 * n))) (drop_at (slot_front schema) (slot_rest n) (16 + 18 * n) (length-front schema e))
    ∙ take_at (replicate (144 - 18 * n) 0) (slot_end n) (160 - (16 + 18 * n)) (length-replicate {A = ℕ} (144 - 18 * n) 0 ∙ sym width)
