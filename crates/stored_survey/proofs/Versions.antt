-- A schema is one of the version that a catalog mends to.
use Rattle.std.proofs.Common.{◌≡◌, ℕ, Bool, true, false, ◌&&◌, ◌||◌, ◌==◌, nat_le, List, [], ◌∷◌, length, get_or, zero, suc, Option, Some, None, if◌then◌else◌, refl, ap, sym, ◌∙◌}
use Rattle.std.specs.List.{list_all, list_any}
use Rattle.afl_base.specs.Files.{Table}
use Rattle.catalog.specs.Rules.{is_attribute_slot, is_domain, is_row, is_schema}
use Rattle.db_model.specs.declared.schemas.Attribute.{Attribute}
use Rattle.db_model.specs.declared.schemas.Domain.{Domain}
use Rattle.db_model.specs.declared.schemas.Domain.TheVariants.{Int, Long, Time, Str}
use Rattle.db_model.specs.declared.schemas.Schema.{Schema}
use Rattle.db_model.specs.Catalog.{catalog_of, version_of}
use Rattle.db_model.specs.Names.{is_name}
use Rattle.padded.proofs.Facts.{either_right}
use Rattle.stored.specs.CutTables.{relation}
use Rattle.stored.specs.Mended.{has_time, is_time_domain, mended_catalog, whole_catalog}
use Rattle.stored_survey.proofs.Slots.{relations_read}

either_left : (a b : Bool) → a ≡ true → (a || b) ≡ true
either_left true b e = refl
either_left false b e = cc

domain_as : (v : ℕ) (d : Domain) → (is_time_domain d ≡ true → v ≡ 2) → is_domain v d ≡ is_domain 2 d
domain_as v Int t = refl
domain_as v Long t = refl
domain_as v Time t = ap (λ (n : ℕ). n == 2) (t refl)
domain_as v (Str n) t = refl

attributes_as : (v : ℕ) (attributes : List Attribute) → (list_any (λ (a : Attribute). is_time_domain a.domain) attributes ≡ true → v ≡ 2)
    → list_all (is_attribute_slot v) attributes ≡ list_all (is_attribute_slot 2) attributes
attributes_as v [] t = refl
attributes_as v (a ∷ attributes) t =
    let rest : Bool = list_any (λ (x : Attribute). is_time_domain x.domain) attributes in
    ap (λ (b : Bool). (is_name a.name && b) && list_all (is_attribute_slot v) attributes) (domain_as v a.domain (λ e. t (either_left (is_time_domain a.domain) rest e)))
    ∙ ap (λ (b : Bool). (is_name a.name && is_domain 2 a.domain) && b) (attributes_as v attributes (λ e. t (either_right (is_time_domain a.domain) rest e)))

-- of version 1 too, where it has no TIME
schema_as : (v : ℕ) (schema : Schema) → (has_time (Some schema) ≡ true → v ≡ 2) → is_schema v schema ≡ is_schema 2 schema
schema_as v schema t =
    ap (λ (b : Bool). is_name schema.name && (nat_le (length schema.attributes) 8 && b) && is_row schema.attributes) (attributes_as v schema.attributes t)

any_there : (test : Option Schema → Bool) (os : List (Option Schema)) (k : ℕ) (schema : Schema) → get_or os k None ≡ Some schema → test (Some schema) ≡ true → list_any test os ≡ true
any_there test [] k schema e t = cc
any_there test (o ∷ os) zero schema e t = either_left (test o) (list_any test os) (ap test e ∙ t)
any_there test (o ∷ os) (suc k) schema e t = either_right (test o) (list_any test os) (any_there test os k schema e t)

timed : (files : Table) → list_any has_time (catalog_of (whole_catalog files)).relations ≡ true → (mended_catalog files).version ≡ 2
unfolding mended_catalog
timed files e = ap (λ (b : Bool). if b then 2 else version_of (whole_catalog files)) e

pub schema_fits : (files : Table) (k : ℕ) (schema : Schema) → relation files k ≡ Some schema → is_schema 2 schema ≡ true → is_schema (mended_catalog files).version schema ≡ true
schema_fits files k schema is valid =
    let here : get_or (catalog_of (whole_catalog files)).relations k None ≡ Some schema = sym (ap (λ (os : List (Option Schema)). get_or os k None) (relations_read files)) ∙ is in
    schema_as (mended_catalog files).version schema (λ t. timed files (any_there has_time (catalog_of (whole_catalog files)).relations k schema here t)) ∙ valid
