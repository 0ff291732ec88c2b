-- Of files that a cut can have left no two relations have one name, and no two indexes stand on one attribute.
use Rattle.std.proofs.Common.{◌≡◌, ◌⊎◌, ⊎_elim, ℕ, suc, zero, ◌+◌, ◌*◌, ◌<◌, Bool, true, false, not, ◌&&◌, List, [], ◌∷◌, get_or, length, map, replicate, take, Option, Some, None, refl, ap, sym, subst, ◌∙◌, arith}
use Rattle.std.specs.Prelude.{◌||◌, nat_le, slice_get, slice_range}
use Rattle.std.specs.List.{list_all, list_any, range_with_len}
use Rattle.std.specs.Str.{bytes_eq}
use Rattle.std.proofs.lemmas.List.FromFn.{get_or-map-range_with_len}
use Rattle.afl_base.specs.Files.{Table}
use Rattle.catalog.specs.Rules.{breaks_index, catalog_bytes_in, has_name, is_attribute_slot, is_behind, is_index_form, is_named_among, is_relation_slot, is_row, is_same_place, is_schema, is_sound_index, is_surplus_table, stands_on}
use Rattle.db_model.specs.declared.schemas.Attribute.{Attribute}
use Rattle.db_model.specs.declared.schemas.Schema.{Schema}
use Rattle.db_model.specs.Catalog.{Index, catalog_of, index_at, relation_at, relation_slot_bytes}
use Rattle.db_model.specs.Database.{is_among}
use Rattle.db_model.specs.Names.{is_name}
use Rattle.db_model.specs.Row.{row_length}
use Rattle.db_model.specs.Sound.{are_distinct, attribute_names}
use Rattle.padded.proofs.Facts.{both_parts, bytes_eq_same, eq_true, false_true, neither_less, not_not, some_same, untrue}
use Rattle.stored.specs.CutTables.{IsBegun, IsCutTable, IsHalfDone, IsSlot, relation, slot_bytes}
use Rattle.stored.specs.Mended.{mended_catalog, whole_catalog}
use Rattle.stored.specs.declared.half.Half.{Half}
use Rattle.stored.proofs.MendedBase.{whole_short}
use Rattle.stored.proofs.SoundSlots.{among_first, none_at as no_relation_at}
use Rattle.stored_mend.specs.Reported.{HasNamesApart, IsIndexOn, IsOn, IsSlotOf, relation_seen}
use Rattle.stored_mend.proofs.HalfKept.{relation_at_slot}
use Rattle.stored_mend.proofs.ReportNames.{nothing_at}

-- ---- the attributes of a relation

is_among_at : (attributes : List Attribute) (p : ℕ) (a : Attribute) → slice_get attributes p ≡ Some a → is_among a.name (attribute_names attributes) ≡ true
is_among_at [] p a h = cc
is_among_at (b ∷ attributes) zero a h =
    let same : b ≡ a = some_same b a h in
    rw (bytes_eq_same b.name a.name (ap (λ (x : Attribute). x.name) same)) refl
is_among_at (b ∷ attributes) (suc p) a h = by_test (bytes_eq b.name a.name) (is_among_at attributes p a h)
  where
    by_test : (t : Bool) → is_among a.name (attribute_names attributes) ≡ true → (t || is_among a.name (attribute_names attributes)) ≡ true
    by_test true e = refl
    by_test false e = e

-- a name is not that of two
first_alone : (x : Attribute) (attributes : List Attribute) (q : ℕ) (a b : Attribute) → are_distinct (attribute_names (x ∷ attributes)) ≡ true → x ≡ a → slice_get attributes q ≡ Some b → a.name ≡ b.name → ⊥
first_alone x attributes q a b distinct first there same =
    let parts = both_parts (not (is_among x.name (attribute_names attributes))) (are_distinct (attribute_names attributes)) distinct in
    let name : b.name ≡ x.name = sym same ∙ ap (λ (y : Attribute). y.name) (sym first) in
    false_true (is_among x.name (attribute_names attributes)) (untrue (is_among x.name (attribute_names attributes)) parts.0)
    (subst (λ (n : List ℕ). is_among n (attribute_names attributes) ≡ true) name (is_among_at attributes q b there))

one_place : (attributes : List Attribute) (p q : ℕ) (a b : Attribute) → are_distinct (attribute_names attributes) ≡ true → slice_get attributes p ≡ Some a → slice_get attributes q ≡ Some b → a.name ≡ b.name → p ≡ q
one_place [] p q a b distinct f g same = cc
one_place (x ∷ attributes) zero zero a b distinct f g same = refl
one_place (x ∷ attributes) zero (suc q) a b distinct f g same = absurd (first_alone x attributes q a b distinct (some_same x a f) g same)
one_place (x ∷ attributes) (suc p) zero a b distinct f g same = absurd (first_alone x attributes p b a distinct (some_same x b g) f (sym same))
one_place (x ∷ attributes) (suc p) (suc q) a b distinct f g same =
    ap suc (one_place attributes p q a b (both_parts (not (is_among x.name (attribute_names attributes))) (are_distinct (attribute_names attributes)) distinct).1 f g same)

schema_distinct : (version : ℕ) (schema : Schema) → is_schema version schema ≡ true → are_distinct (attribute_names schema.attributes) ≡ true
schema_distinct version schema e =
    let front : Bool = is_name schema.name && (nat_le (length schema.attributes) 8 && list_all (is_attribute_slot version) schema.attributes) in
    let row = (both_parts front (is_row schema.attributes) e).1 in
    (both_parts (nat_le (row_length schema.attributes) 128) (are_distinct (attribute_names schema.attributes)) row).1

slot_distinct : (half : Half) (version k : ℕ) (slot : List ℕ) (schema : Schema) → IsSlot half version k slot (Some schema) → are_distinct (attribute_names schema.attributes) ≡ true
slot_distinct half version k slot schema s = ⊎_elim
    (λ (whole : is_relation_slot version slot (Some schema) ≡ true).
    schema_distinct version schema (both_parts (is_schema version schema) (bytes_eq slot (relation_slot_bytes (Some schema))) whole).0)
    (λ grows. schema_distinct version schema grows.1)
    s

-- ---- files in which one thing is half done

-- no index before one stands on its attribute
alone_slot : (bytes : List ℕ) (j : ℕ) (index : Index) → breaks_index bytes j ≡ false → index_at bytes j ≡ Some index → list_any (is_same_place index) (take j (catalog_of bytes).indexes) ≡ false
unfolding breaks_index
alone_slot bytes j index fine is =
    let here : List ℕ = slice_range bytes (1408 + 8 * j) (1408 + 8 * j + 8) in
    let relations : List (Option Schema) = (catalog_of bytes).relations in
    let before : List (Option Index) = take j (catalog_of bytes).indexes in
    let at : (is_index_form here (Some index) && is_behind relations before (Some index)) ≡ true =
    subst (λ (o : Option Index). (is_index_form here o && is_behind relations before o) ≡ true) is (not_not (is_sound_index here relations before) fine) in
    let parts = both_parts (is_index_form here (Some index)) (is_behind relations before (Some index)) at in
    let stands : Bool = stands_on index (get_or relations index.relation None) in
    let same : Bool = list_any (is_same_place index) before in
    let a = both_parts (stands && not same) (not (is_surplus_table before index)) parts.1 in
    untrue same (both_parts stands (not same) a.0).1

module _ (files : Table) (half : Half) (h : IsHalfDone files half) where
  earlier_name : (k j : ℕ) (name : List ℕ) → k < j → IsSlotOf files k name → IsSlotOf files j name → ⊥
  earlier_name k j name less s t =
      let before : List (Option Schema) = (mended_catalog files).relations in
      let first : relation files k ≡ Some s.schema = relation_at_slot files k s.below ∙ s.stands in
      let second : relation files j ≡ Some t.schema = relation_at_slot files j t.below ∙ t.stands in
      false_true (list_any (has_name t.schema.name) (take j before)) (subst (λ (o : Option Schema). is_named_among o (take j before) ≡ false) second (h.named_once j t.below))
      (among_first (has_name t.schema.name) before k j s.schema less first (bytes_eq_same s.schema.name t.schema.name (s.named ∙ sym t.named)))

  one_name : (k j : ℕ) (name : List ℕ) → IsSlotOf files k name → IsSlotOf files j name → k ≡ j
  one_name k j name s t = neither_less k j (λ less. earlier_name k j name less s t) (λ less. earlier_name j k name less t s)

  -- two indexes that stand on attributes of the same names stand on one
  same_place : (index other : Index) (name attribute : List ℕ) → IsOn files index name attribute → IsOn files other name attribute → is_same_place other (Some index) ≡ true
  same_place index other name attribute s t =
      let slot : IsSlotOf files index.relation name = record { below = s.below; schema = s.schema; stands = s.stands; named = s.named } in
      let relation_same : index.relation ≡ other.relation =
      one_name index.relation other.relation name slot (record { below = t.below; schema = t.schema; stands = t.stands; named = t.named }) in
      let schema : t.schema ≡ s.schema = some_same t.schema s.schema (sym t.stands ∙ ap (relation_seen files) (sym relation_same) ∙ s.stands) in
      let here : relation files index.relation ≡ Some s.schema = relation_at_slot files index.relation s.below ∙ s.stands in
      let distinct : are_distinct (attribute_names s.schema.attributes) ≡ true =
      slot_distinct half (mended_catalog files).version index.relation (slot_bytes files index.relation) s.schema
      (subst (λ (o : Option Schema). IsSlot half (mended_catalog files).version index.relation (slot_bytes files index.relation) o) here (h.slots index.relation s.below)) in
      let attribute_same : index.attribute ≡ other.attribute =
      one_place s.schema.attributes index.attribute other.attribute s.place t.place distinct s.placed
      (ap (λ (x : Schema). slice_get x.attributes other.attribute) (sym schema) ∙ t.placed) (s.called ∙ sym t.called) in
      rw (eq_true index.relation other.relation relation_same, eq_true index.attribute other.attribute attribute_same) refl

  earlier_index : (i j : ℕ) (index other : Index) (name attribute : List ℕ) → i < j → IsIndexOn files i index name attribute → IsIndexOn files j other name attribute → ⊥
  earlier_index i j index other name attribute less s t =
      let bytes : List ℕ = whole_catalog files in
      let first : get_or (catalog_of bytes).indexes i None ≡ Some index = get_or-map-range_with_len (index_at bytes) 0 8 i i None s.below (omega arith) ∙ s.stands in
      false_true (list_any (is_same_place other) (take j (catalog_of bytes).indexes)) (alone_slot bytes j other (h.indexes j t.below) t.stands)
      (among_first (is_same_place other) (catalog_of bytes).indexes i j index less first (same_place index other name attribute s.on t.on))

  half_apart : HasNamesApart files
  half_apart = record {
    relations = one_name;
    indexes = λ i j index other name attribute s t.
        neither_less i j (λ less. earlier_index i j index other name attribute less s t) (λ less. earlier_index j i other index name attribute less t s);
  }

-- ---- all of it

no_relations : map (relation_at []) (range_with_len 0 8) ≡ replicate 8 None
no_relations = refl

-- nothing stands in a catalog that was being begun
begun_apart : (files : Table) → IsBegun files → HasNamesApart files
begun_apart files b =
    let empty : whole_catalog files ≡ [] = whole_short (catalog_bytes_in files) b.short in
    record {
      relations = λ k j name s t. absurd (no_relation_at k s.schema s.below (ap (λ (xs : List ℕ). relation_at xs k) (sym empty) ∙ s.stands));
      indexes = λ i j index other name attribute s t. absurd (nothing_at i index s.below (ap (λ (xs : List ℕ). index_at xs i) (sym empty) ∙ s.stands));
    }

pub cut_apart : (files : Table) → IsCutTable files → HasNamesApart files
cut_apart files cut = ⊎_elim (begun_apart files) (λ half. half_apart files half.0 half.1) cut.done
