-- A sound table of files stands for a sound database.
use Rattle.std.proofs.Common.{◌≡◌, ℕ, ℤ, zero, suc, ◌+◌, ◌<◌, ◌≤◌, ◌⊎◌, inl, inr, Bool, true, false, ◌&&◌, ◌==◌, nat_le, List, [], ◌∷◌, length, take, get_or, filter, replicate, Option, Some, None, if◌then◌else◌, refl, ap, sym, subst, ◌∙◌, arith}
use Rattle.std.specs.Prelude.{option_map, slice_get}
use Rattle.std.specs.List.{list_any}
use Rattle.std.specs.Option.{option_map_or}
use Rattle.std.proofs.lemmas.Bool.Decides.{nat_tests}
use Rattle.std.proofs.lemmas.List.FromFn.{get_or-map-range_with_len, length-map-range_with_len}
use Rattle.std.proofs.lemmas.Slice.Eq.{bytes_eq-Decides}
use Rattle.afl_base.specs.Files.{Table}
use Rattle.catalog.specs.Rules.{catalog_bytes_in, catalog_in, has_name, how_many, is_same_place, is_table, stands_on}
use Rattle.db_model.specs.declared.schemas.Attribute.{Attribute}
use Rattle.db_model.specs.declared.schemas.IndexKind.{IndexKind}
use Rattle.db_model.specs.declared.schemas.IndexKind.TheVariants.{Inline, MaxHeap, MemHash}
use Rattle.db_model.specs.declared.schemas.Schema.{Schema}
use Rattle.db_model.specs.Catalog.{Index, catalog_of, index_at, relation_at, version_of}
use Rattle.db_model.specs.Database.{Cursor, Relation, is_hash_table, used_things, most_tables}
use Rattle.db_model.specs.Row.{Row, rows_of}
use Rattle.db_model.specs.Sound.{IsIndexOf, IsSoundDatabase, IsSoundIndex, IsSoundRelation, StandsIn, SuitKind}
use Rattle.db_model.specs.Step.{allows, keys}
use Rattle.space_model.specs.Enough.{rows_in}
use Rattle.space_model.specs.FileNames.{bytes_named, rows_file, tree_file}
use Rattle.stored.specs.Base.{base_of, relation_stored}
use Rattle.stored.specs.Sound.{IsIndexComplete, IsSoundTable, keys_stored}
use Rattle.stored.proofs.FilesOf.{unbroken}
use Rattle.stored.proofs.SoundSlots.{IsUnbroken, among_first, slot_below, sound_index_slot, sound_schema, sound_slot, unbroken_slots}
use Rattle.stored.proofs.WrittenBytes.{rows_count, rows_suit}
use Rattle.padded.proofs.Facts.{some_same, eq_true, none_some, false_true, neither_less}

module _ (files : Table) (s : IsSoundTable files) where
  abbrev bytes : List ℕ
  bytes = catalog_bytes_in files

  slots_are : IsUnbroken bytes
  slots_are = unbroken_slots bytes (unbroken files s.catalog).inner

  -- ---- relations

  pub record IsUsed (k : ℕ) (r : Relation) : Type 0 where
    pub below : k < 8
    pub schema : Schema
    pub there : StandsIn (catalog_in files).relations k schema
    pub is : relation_at bytes k ≡ Some schema
    pub relation_is : record { schema = schema; rows = rows_of schema.attributes (bytes_named (rows_file k) files) } ≡ r

  pub used_slot : (k : ℕ) (r : Relation) → StandsIn (base_of files).relations k r → IsUsed k r
  used_slot k r e =
      let at = slot_below (relation_stored files (catalog_in files).relations) 8 k r e in
      by_schema at.below (get_or (catalog_in files).relations k None) refl at.is
    where
      by_schema : k < 8 → (o : Option Schema) → get_or (catalog_in files).relations k None ≡ o
          → option_map (λ (x : Schema). record { schema = x; rows = rows_of x.attributes (bytes_named (rows_file k) files) }) o ≡ Some r → IsUsed k r
      by_schema below None e f = absurd (none_some r f)
      by_schema below (Some schema) e f =
          let at = slot_below (relation_at bytes) 8 k schema e in
          record { below = below; schema = schema; there = e; is = at.is; relation_is = some_same _ r f }

  pub sound_relation : (k : ℕ) (r : Relation) → StandsIn (base_of files).relations k r → IsSoundRelation (base_of files).version r
  sound_relation k r e =
      let u = used_slot k r e in
      let schema : Schema = u.schema in
      let here : List ℕ = bytes_named (rows_file k) files in
      let rows = s.rows k u.below schema u.there in
      let slot = sound_slot bytes k schema slots_are u.below u.is in
      let count = rows_count (catalog_in files).version schema.attributes here rows in
      let few = rows.few in
      subst (λ (x : Relation). IsSoundRelation (base_of files).version x) u.relation_is (record {
        schema = sound_schema (version_of bytes) schema slot.schema_is;
        rows = rows_suit (catalog_in files).version schema.attributes here rows;
        slots = omega (arith, few, count);
        filled = λ none. no_rows schema.attributes here none (rows.some none);
      })
    where
      no_rows : (attributes : List Attribute) (bs : List ℕ) → attributes ≡ [] → bs ≡ [] → rows_of attributes bs ≡ []
      no_rows [] [] e f = refl
      no_rows [] (b ∷ bs) e f = absurd (let n : ⊥ = cc in n)
      no_rows (a ∷ attributes) bs e f = absurd (let n : ⊥ = cc in n)

  earlier_name : (j k : ℕ) (q r : Relation) → j < k → StandsIn (base_of files).relations j q → StandsIn (base_of files).relations k r → q.schema.name ≡ r.schema.name → ⊥
  earlier_name j k q r less a b same =
      let u = used_slot j q a in
      let v = used_slot k r b in
      let slot = sound_slot bytes k v.schema slots_are v.below v.is in
      let one : u.schema.name ≡ q.schema.name = ap (λ (x : Relation). x.schema.name) u.relation_is in
      let other : v.schema.name ≡ r.schema.name = ap (λ (x : Relation). x.schema.name) v.relation_is in
      let named : has_name v.schema.name (Some u.schema) ≡ true = (bytes_eq-Decides u.schema.name v.schema.name).1 (one ∙ same ∙ sym other) in
      false_true (list_any (has_name v.schema.name) (take k (catalog_of bytes).relations)) slot.new
      (among_first (has_name v.schema.name) (catalog_of bytes).relations j k u.schema less u.there named)

  -- ---- indexes

  pub record IsUsedIndex (k : ℕ) (index : Index) : Type 0 where
    pub below : k < 8
    pub is : index_at bytes k ≡ Some index

  pub used_index : (k : ℕ) (index : Index) → StandsIn (base_of files).indexes k index → IsUsedIndex k index
  used_index k index e = let at = slot_below (index_at bytes) 8 k index e in record { below = at.below; is = at.is }

  suit_kind : (kind : IndexKind) (bs : List ℕ) (ks : List ℤ) → IsIndexComplete kind bs ks → SuitKind kind ks
  suit_kind Inline bs ks c = c
  suit_kind MaxHeap bs ks c = tt
  suit_kind MemHash bs ks c = c

  sound_index : (k : ℕ) (index : Index) → StandsIn (base_of files).indexes k index → IsSoundIndex (base_of files).relations index
  sound_index k index e =
      let u = used_index k index e in
      let slot = sound_index_slot bytes k index slots_are u.below u.is in
      by_schema (get_or (catalog_in files).relations index.relation None) refl slot.stands
      (suit_kind index.kind (bytes_named (tree_file k) files) (keys_stored files index) (s.indexes k u.below index e))
    where
      by_attribute : (schema : Schema) (rows : List Row) (o : Option Attribute) → slice_get schema.attributes index.attribute ≡ o
          → elim o [ None ↦ false | Some a ↦ allows index.kind a.domain ] ≡ true → SuitKind index.kind (keys index.attribute rows)
          → IsIndexOf (record { schema = schema; rows = rows }) index
      by_attribute schema rows None p allowed suits = absurd (let n : ⊥ = cc in n)
      by_attribute schema rows (Some a) p allowed suits = record { attribute = a; placed = p; allowed = allowed; keys = suits }

      by_schema : (o : Option Schema) → get_or (catalog_in files).relations index.relation None ≡ o → stands_on index o ≡ true
          → SuitKind index.kind (keys_stored files index) → IsSoundIndex (base_of files).relations index
      by_schema None p stands suits = absurd (let n : ⊥ = cc in n)
      by_schema (Some schema) p stands suits =
          let at = slot_below (relation_at bytes) 8 index.relation schema p in
          let rows : List Row = rows_of schema.attributes (bytes_named (rows_file index.relation) files) in
          let relation : Relation = record { schema = schema; rows = rows } in
          let there : StandsIn (base_of files).relations index.relation relation =
          get_or-map-range_with_len (relation_stored files (catalog_in files).relations) 0 8 index.relation index.relation None at.below (omega arith)
          ∙ ap (option_map (λ (x : Schema). record { schema = x; rows = rows_of x.attributes (bytes_named (rows_file index.relation) files) })) p in
          let same : rows_in (base_of files) index.relation ≡ rows = ap (λ (o : Option Relation). option_map_or (λ (x : Relation). x.rows) o []) there in
          record {
            relation = relation;
            stands = there;
            suits = by_attribute schema rows (slice_get schema.attributes index.attribute) refl stands (subst (λ (rs : List Row). SuitKind index.kind (keys index.attribute rs)) same suits);
          }

  same_place : (a b : Index) → a.relation ≡ b.relation → a.attribute ≡ b.attribute → is_same_place b (Some a) ≡ true
  same_place a b e f = rw (eq_true a.relation b.relation e, eq_true a.attribute b.attribute f) refl

  earlier_place : (j k : ℕ) (a b : Index) → j < k → StandsIn (base_of files).indexes j a → StandsIn (base_of files).indexes k b → a.relation ≡ b.relation → a.attribute ≡ b.attribute → ⊥
  earlier_place j k a b less p q e f =
      let v = used_index k b q in
      let slot = sound_index_slot bytes k b slots_are v.below v.is in
      false_true (list_any (is_same_place b) (take k (catalog_of bytes).indexes)) slot.alone
      (among_first (is_same_place b) (catalog_of bytes).indexes j k a less p (same_place a b e f))

  -- ---- hash tables

  tables_used : (slots : List (Option Index)) → length (filter is_hash_table (used_things slots)) ≡ how_many is_table slots
  tables_used [] = refl
  tables_used (None ∷ slots) = tables_used slots
  tables_used (Some i ∷ slots) = by_test (is_hash_table i) (tables_used slots)
    where
      by_test : (b : Bool) → length (filter is_hash_table (used_things slots)) ≡ how_many is_table slots
          → length (if b then i ∷ filter is_hash_table (used_things slots) else filter is_hash_table (used_things slots)) ≡ (if b then how_many is_table slots + 1 else how_many is_table slots)
      by_test true e = omega (arith, e)
      by_test false e = e

  -- the tables among the first slots, by the last of them
  more_tables : (slots : List (Option Index)) (k : ℕ) → how_many is_table (take (suc k) slots) ≤ how_many is_table (take k slots) + (if is_table (get_or slots k None) then 1 else 0)
  more_tables [] k = omega arith
  more_tables (o ∷ slots) zero = by_test (is_table o)
    where
      by_test : (b : Bool) → (if b then 0 + 1 else 0) ≤ 0 + (if b then 1 else 0)
      by_test true = omega arith
      by_test false = omega arith
  more_tables (o ∷ slots) (suc k) = by_test (is_table o) (more_tables slots k)
    where
      by_test : (b : Bool) → how_many is_table (take (suc k) slots) ≤ how_many is_table (take k slots) + (if is_table (get_or slots k None) then 1 else 0)
          → (if b then how_many is_table (take (suc k) slots) + 1 else how_many is_table (take (suc k) slots)) ≤ (if b then how_many is_table (take k slots) + 1 else how_many is_table (take k slots)) + (if is_table (get_or slots k None) then 1 else 0)
      by_test true e = omega (arith, e)
      by_test false e = e

  few_first : (k : ℕ) → k ≤ 8 → how_many is_table (take k (catalog_of bytes).indexes) ≤ most_tables
  few_first zero h = omega arith
  few_first (suc k) h = by_slot (get_or (catalog_of bytes).indexes k None) refl (few_first k (omega (arith, h))) (more_tables (catalog_of bytes).indexes k)
    where
      third : (b : Bool) (n : ℕ) → (b && nat_le most_tables n) ≡ false → n ≤ most_tables → n + (if b then 1 else 0) ≤ most_tables
      third true n e few = let less : n < most_tables = le_false n e in omega (arith, less)
        where
          le_false : (n : ℕ) → nat_le most_tables n ≡ false → n < most_tables
          le_false n h = grind (arith, nat_tests)
      third false n e few = omega (arith, few)

      by_slot : (o : Option Index) → get_or (catalog_of bytes).indexes k None ≡ o → how_many is_table (take k (catalog_of bytes).indexes) ≤ most_tables
          → how_many is_table (take (suc k) (catalog_of bytes).indexes) ≤ how_many is_table (take k (catalog_of bytes).indexes) + (if is_table (get_or (catalog_of bytes).indexes k None) then 1 else 0)
          → how_many is_table (take (suc k) (catalog_of bytes).indexes) ≤ most_tables
      by_slot None e few more = let now = (rw e at more) in omega (arith, few, now)
      by_slot (Some i) e few more =
          let now = (rw e at more) in
          let u = used_index k i e in
          let slot = sound_index_slot bytes k i slots_are u.below u.is in
          let most = third (is_hash_table i) (how_many is_table (take k (catalog_of bytes).indexes)) slot.few few in
          omega (arith, now, most)

  all_indexes : take 8 (catalog_of bytes).indexes ≡ (catalog_of bytes).indexes
  all_indexes = refl

  few_tables : length (filter is_hash_table (used_things (base_of files).indexes)) ≤ most_tables
  few_tables =
      let sum = tables_used (catalog_of bytes).indexes in
      let few = few_first 8 (omega arith) in
      let same = ap (how_many is_table) all_indexes in
      omega (arith, sum, few, same)

  -- ---- all of it

  version_is : ((base_of files).version ≡ 1) ⊎ ((base_of files).version ≡ 2)
  version_is = by_test (length bytes == 1472)
    where
      by_test : (b : Bool) → (◌≡◌ {A = ℕ} (if b then 1 else 2) 1) ⊎ (◌≡◌ {A = ℕ} (if b then 1 else 2) 2)
      by_test true = inl refl
      by_test false = inr refl

  no_cursor : (k : ℕ) (cursor : Cursor) → StandsIn (replicate {A = Option Cursor} 4 None) k cursor → ⊥
  no_cursor k cursor e = none_some cursor (sym (none_in 4 k) ∙ e)
    where
      none_in : (n k : ℕ) → get_or (replicate {A = Option Cursor} n None) k None ≡ None
      none_in zero k = refl
      none_in (suc n) zero = refl
      none_in (suc n) (suc k) = none_in n k

  pub sound_base : IsSoundDatabase (base_of files)
  sound_base = record {
    version = version_is;
    eight_relations = length-map-range_with_len (relation_stored files (catalog_in files).relations) 0 8;
    eight_indexes = length-map-range_with_len (index_at bytes) 0 8;
    four_cursors = refl;
    relations = sound_relation;
    names = λ j k q r a b same. neither_less j k (λ less. earlier_name j k q r less a b same) (λ less. earlier_name k j r q less b a (sym same));
    indexes = sound_index;
    places = λ j k a b p q e f. neither_less j k (λ less. earlier_place j k a b less p q e f) (λ less. earlier_place k j b a less q p (sym e) (sym f));
    few_tables = few_tables;
    cursors = λ k cursor e. absurd (no_cursor k cursor e);
  }
