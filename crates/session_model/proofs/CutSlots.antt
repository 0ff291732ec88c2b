-- Files whose catalog has the slots of a sound database, but for one thing that is half done.
use Rattle.std.proofs.Common.{◌≡◌, ◌⊎◌, inl, inr, ⊎_elim, ℕ, zero, suc, ◌+◌, ◌-◌, ◌*◌, ◌<◌, ◌≤◌, Bool, true, false, ◌&&◌, ◌||◌, ◌==◌, List, [], ◌∷◌, length, map, take, get_or, Option, Some, None, if◌then◌else◌, refl, ap, sym, subst, ◌∙◌, arith}
use Rattle.std.specs.Prelude.{is_some, option_map, slice_get, slice_range}
use Rattle.std.specs.List.{AllByRecursion, list_any}
use Rattle.std.specs.Str.{bytes_eq}
use Rattle.std.proofs.lemmas.List.FromFn.{get_or-map-range_with_len}
use Rattle.std.proofs.lemmas.Slice.Eq.{bytes_eq-Decides}
use Rattle.afl_base.specs.Files.{Table}
use Rattle.catalog.specs.Rules.{breaks_index, catalog_bytes_in, has_name, is_behind, is_index_form, is_named_among, is_same_place, is_schema, is_sound_index, is_surplus_table, is_tree, stands_on}
use Rattle.db_model.specs.declared.schemas.Attribute.{Attribute}
use Rattle.db_model.specs.declared.schemas.Domain.TheVariants.{Time}
use Rattle.db_model.specs.declared.schemas.Schema.{Schema}
use Rattle.db_model.specs.Catalog.{Index, catalog_of, index_at, index_slot_bytes, relation_slot_bytes, version_of}
use Rattle.db_model.specs.Database.{Database, Relation, is_on}
use Rattle.db_model.specs.Sound.{IsSoundAttribute, IsSoundDatabase, IsSoundSchema}
use Rattle.db_model.specs.Step.{allows, keys}
use Rattle.padded.proofs.Facts.{both_parts, both_true, bytes_eq_same, either_right, false_by, some_inside, true_eq}
use Rattle.session_model.proofs.Running.{or_left as first_true}
use Rattle.space_model.specs.Enough.{rows_in}
use Rattle.space_model.specs.FileNames.{bytes_named, is_there, rows_file, tree_file}
use Rattle.stored.specs.CutTables.{HasMark, HoldsRowsOr, IsEmptiedInPart, IsGrownInPart, IsHalfDone, IsIndexWhile, IsSlot, index_read, relation, slot_bytes}
use Rattle.stored.specs.Mended.{has_time, is_time_domain, mended_base, mended_catalog, whole_catalog}
use Rattle.stored.specs.declared.half.Half.{Half}
use Rattle.stored.specs.declared.half.Half.TheVariants.{Emptying, Growing, LoneRows, LoneTree, Treeless}
use Rattle.session_model.proofs.Rules.{index_slot_true, no_surplus_table, none_any, not_true, schema_true}
use Rattle.session_model.proofs.Sound.{seen, seen_back}

-- ---- what of the catalog is so

abbrev pub schema_of : Relation → Schema
schema_of r = r.schema

-- a slot of a relation is in part
abbrev pub IsInPart : Half → ℕ → List ℕ → Option Schema → Type 0
IsInPart half k slot None = (half ≡ Emptying k) × IsEmptiedInPart k slot
IsInPart half k slot (Some schema) = (half ≡ Growing k) × IsGrownInPart k slot schema

-- the slots are those of a sound database, as they are written for it, but for one that is in part
pub record HoldsSlots (files : Table) (half : Half) (db : Database) : Type 0 where
  pub sound : IsSoundDatabase db
  pub whole : 1472 ≤ length (catalog_bytes_in files)
  pub mark : HasMark files half
  pub relations : (catalog_of (whole_catalog files)).relations ≡ map (option_map schema_of) db.relations
  pub indexes : (catalog_of (whole_catalog files)).indexes ≡ db.indexes
  pub slots : (k : ℕ) → k < 8 → (slot_bytes files k ≡ relation_slot_bytes (relation files k)) ⊎ IsInPart half k (slot_bytes files k) (relation files k)
  pub index_slots : (i : ℕ) → i < 8 → slice_range (whole_catalog files) (1408 + 8 * i) (1408 + 8 * i + 8) ≡ index_slot_bytes (index_at (whole_catalog files) i)

-- and its files are there, with rows and trees
pub record HoldsFiles (files : Table) (half : Half) : Type 0 where
  pub rows_there : (k : ℕ) → k < 8 → (is_some (relation files k) ≡ true) ⊎ (half ≡ Emptying k) → is_there (rows_file k) files ≡ true
  pub rows_lone : (k : ℕ) → k < 8 → is_there (rows_file k) files ≡ true → (is_some (relation files k) ≡ true) ⊎ ((half ≡ LoneRows k) ⊎ (half ≡ Emptying k))
  pub tree_there : (i : ℕ) → i < 8 → is_tree (index_read files i) ≡ true → (is_there (tree_file i) files ≡ true) ⊎ (half ≡ Treeless i)
  pub tree_lone : (i : ℕ) → i < 8 → is_there (tree_file i) files ≡ true → (is_tree (index_read files i) ≡ true) ⊎ ((half ≡ LoneTree i) × (index_read files i ≡ None))
  pub grown : (k : ℕ) → half ≡ Growing k → bytes_named (rows_file k) files ≡ []
  pub rows : (k : ℕ) (schema : Schema) → relation files k ≡ Some schema → HoldsRowsOr half (mended_catalog files).version k schema.attributes (bytes_named (rows_file k) files)
  pub keys : (i : ℕ) (index : Index) → get_or (mended_catalog files).indexes i None ≡ Some index
      → IsIndexWhile half index (bytes_named (tree_file i) files) (keys index.attribute (rows_in (mended_base files) index.relation))

-- ---- a TIME wants version 2

all_at : (v w : ℕ) (attributes : List Attribute) → AllByRecursion (IsSoundAttribute v) attributes → (list_any (λ (a : Attribute). is_time_domain a.domain) attributes ≡ true → w ≡ 2)
    → AllByRecursion (IsSoundAttribute w) attributes
all_at v w [] h timed = tt
all_at v w (a ∷ attributes) h timed =
    let rest : Bool = list_any (λ (x : Attribute). is_time_domain x.domain) attributes in (
      record { name = h.0.name; domain = h.0.domain; time = λ (e : a.domain ≡ Time). timed (first_true (is_time_domain a.domain) rest (ap is_time_domain e)) },
      all_at v w attributes h.1 (λ t. timed (either_right (is_time_domain a.domain) rest t)),
    )

pub schema_at : (v w : ℕ) (schema : Schema) → IsSoundSchema v schema → (has_time (Some schema) ≡ true → w ≡ 2) → IsSoundSchema w schema
schema_at v w schema s timed = record {
  name = s.name;
  few = s.few;
  attributes = all_at v w schema.attributes s.attributes timed;
  distinct = s.distinct;
  short = s.short;
}

pub any_there : (test : Option Schema → Bool) (os : List (Option Schema)) (k : ℕ) (schema : Schema) → get_or os k None ≡ Some schema → test (Some schema) ≡ true → list_any test os ≡ true
any_there test [] k schema e t = cc
any_there test (o ∷ os) zero schema e t = first_true (test o) (list_any test os) (ap test e ∙ t)
any_there test (o ∷ os) (suc k) schema e t = either_right (test o) (list_any test os) (any_there test os k schema e t)

-- ---- they are half done

module _ (files : Table) (half : Half) (db : Database) (h : HoldsSlots files half db) where
  abbrev read : List (Option Schema)
  read = (catalog_of (whole_catalog files)).relations

  abbrev indexes_read : List (Option Index)
  indexes_read = (catalog_of (whole_catalog files)).indexes

  relations_are : (mended_catalog files).relations ≡ read
  unfolding mended_catalog
  relations_are = refl

  timed : list_any has_time read ≡ true → (mended_catalog files).version ≡ 2
  unfolding mended_catalog
  timed e = ap (λ (b : Bool). if b then 2 else version_of (whole_catalog files)) e

  relation_is : (k : ℕ) → relation files k ≡ get_or read k None
  relation_is k = ap (λ os. get_or os k None) relations_are

  in_slot : (k : ℕ) (schema : Schema) → get_or read k None ≡ Some schema → get_or (map (option_map schema_of) db.relations) k None ≡ Some schema
  in_slot k schema e = sym (ap (λ os. get_or os k None) h.relations) ∙ e

  good : (k : ℕ) (schema : Schema) → relation files k ≡ Some schema → is_schema (mended_catalog files).version schema ≡ true
  good k schema e =
      let here : get_or read k None ≡ Some schema = sym (relation_is k) ∙ e in
      let from = seen_back schema_of db.relations k schema (in_slot k schema here) in
      let sound = subst (IsSoundSchema db.version) from.is (h.sound.relations k from.from from.there).schema in
      schema_true (mended_catalog files).version schema (schema_at db.version (mended_catalog files).version schema sound (λ t. timed (any_there has_time read k schema here t)))

  slot_fits : (k : ℕ) → k < 8 → IsSlot half (mended_catalog files).version k (slot_bytes files k) (relation files k)
  slot_fits k below = by_slot (relation files k) refl (h.slots k below)
    where
      by_slot : (o : Option Schema) → relation files k ≡ o → (slot_bytes files k ≡ relation_slot_bytes o) ⊎ IsInPart half k (slot_bytes files k) o → IsSlot half (mended_catalog files).version k (slot_bytes files k) o
      by_slot None e (inl same) = inl (bytes_eq_same (slot_bytes files k) (relation_slot_bytes None) same)
      by_slot None e (inr part) = inr part
      by_slot (Some schema) e (inl same) =
          inl (both_true (is_schema (mended_catalog files).version schema) (bytes_eq (slot_bytes files k) (relation_slot_bytes (Some schema))) (good k schema e) (bytes_eq_same (slot_bytes files k) (relation_slot_bytes (Some schema)) same))
      by_slot (Some schema) e (inr part) = inr (part.0, good k schema e, part.1)

  same_slot : (j k : ℕ) (q s : Schema) → get_or read j None ≡ Some q → get_or read k None ≡ Some s → q.name ≡ s.name → j ≡ k
  same_slot j k q s a b e =
      let x = seen_back schema_of db.relations j q (in_slot j q a) in
      let y = seen_back schema_of db.relations k s (in_slot k s b) in
      h.sound.names j k x.from y.from x.there y.there (ap (λ (z : Schema). z.name) x.is ∙ e ∙ sym (ap (λ (z : Schema). z.name) y.is))

  named_once : (k : ℕ) → is_named_among (get_or read k None) (take k read) ≡ false
  named_once k = by_slot (get_or read k None) refl
    where
      by_slot : (o : Option Schema) → get_or read k None ≡ o → is_named_among o (take k read) ≡ false
      by_slot None e = refl
      by_slot (Some schema) e =
          none_any (has_name schema.name) read k refl
          (λ j q below at. false_by (bytes_eq q.name schema.name)
          (λ same. let is : j ≡ k = same_slot j k q schema at e ((bytes_eq-Decides q.name schema.name).0 same) in omega (arith, below, is)))

  stands_true : (x : Index) (schema : Schema) (a : Attribute) → slice_get schema.attributes x.attribute ≡ Some a → allows x.kind a.domain ≡ true → stands_on x (Some schema) ≡ true
  stands_true x schema a placed allowed =
      subst (λ (o : Option Attribute). elim o [ None ↦ false | Some b ↦ allows x.kind b.domain ] ≡ true) (sym placed) allowed

  alone : (i : ℕ) (x : Index) → get_or db.indexes i None ≡ Some x → list_any (is_same_place x) (take i db.indexes) ≡ false
  alone i x there =
      none_any (is_same_place x) db.indexes i refl
      (λ j other below at. false_by (is_on x.relation x.attribute other)
      (λ same.
      let parts = both_parts (other.relation == x.relation) (other.attribute == x.attribute) same in
      let e : j ≡ i = h.sound.places j i other x at there (true_eq other.relation x.relation parts.0) (true_eq other.attribute x.attribute parts.1) in
      omega (arith, below, e)))

  index_fits : (i : ℕ) → i < 8 → breaks_index (whole_catalog files) i ≡ false
  unfolding breaks_index
  index_fits i below =
      let slot : List ℕ = slice_range (whole_catalog files) (1408 + 8 * i) (1408 + 8 * i + 8) in
      let x : Option Index = index_at (whole_catalog files) i in
      let now : (is_index_form slot x && is_behind read (take i indexes_read) x) ≡ true =
      index_slot_true slot read (take i indexes_read) x (h.index_slots i below)
      (λ index is.
      let at : get_or db.indexes i None ≡ Some index = sym (ap (λ xs. get_or xs i None) h.indexes) ∙ get_or-map-range_with_len (index_at (whole_catalog files)) 0 8 i i None below (omega arith) ∙ is in
      let sound = h.sound.indexes i index at in
      let inside : index.relation < length db.relations = some_inside db.relations index.relation sound.relation sound.stands in
      let stands : get_or read index.relation None ≡ Some sound.relation.schema =
      ap (λ os. get_or os index.relation None) h.relations ∙ seen schema_of db.relations index.relation sound.relation sound.stands in (
        omega (arith, inside, h.sound.eight_relations),
        ap (stands_on index) stands ∙ stands_true index sound.relation.schema sound.suits.attribute sound.suits.placed sound.suits.allowed,
        subst (λ xs. list_any (is_same_place index) (take i xs) ≡ false) (sym h.indexes) (alone i index at),
        subst (λ xs. is_surplus_table (take i xs) index ≡ false) (sym h.indexes) (no_surplus_table db.indexes i index at h.sound.few_tables),
      )) in
      not_true (is_sound_index slot read (take i indexes_read)) now

  pub half_by : HoldsFiles files half → IsHalfDone files half
  half_by f = record {
    whole = h.whole;
    mark = h.mark;
    slots = slot_fits;
    named_once = λ k below. subst (λ os. is_named_among (get_or os k None) (take k os) ≡ false) (sym relations_are) (named_once k);
    indexes = index_fits;
    rows_there = f.rows_there;
    rows_lone = f.rows_lone;
    tree_there = f.tree_there;
    tree_lone = f.tree_lone;
    grown = f.grown;
    rows = f.rows;
    keys = f.keys;
  }
