-- The files of a session that runs over a sound database are sound, and stand for it without its cursors.
use Rattle.std.proofs.Common.{◌≡◌, ℕ, zero, suc, ◌+◌, ◌*◌, ◌<◌, ◌⊎◌, inl, inr, true, false, not, ◌&&◌, ◌==◌, List, [], ◌∷◌, length, map, take, get_or, replicate, Option, Some, None, refl, ap, sym, subst, ◌∙◌, arith, IsTrue, ℤ}
use Rattle.std.specs.Prelude.{is_some, option_map, slice_get, slice_range}
use Rattle.std.specs.List.{list_any, range_with_len}
use Rattle.std.specs.Option.{option_map_or}
use Rattle.std.specs.Str.{bytes_eq}
use Rattle.std.proofs.Math.Logic.{⊎_elim}
use Rattle.std.proofs.lemmas.List.{ext_get_or, get_or-map}
use Rattle.std.proofs.lemmas.List.FromFn.{get_or-map-range_with_len, length-map-range_with_len}
use Rattle.std.proofs.lemmas.Slice.Eq.{bytes_eq-Decides}
use Rattle.afl_base.specs.Files.{IsNamed, IsUnnamed, State, Table, bytes_at}
use Rattle.catalog.specs.CatalogFile.{IsCatalogSize}
use Rattle.catalog.specs.Rules.{breaks_files, breaks_index, breaks_relation, broken_catalog, catalog_bytes_in, catalog_in, first, first_broken, has_name, is_behind, is_index_form, is_named_among, is_relation_slot, is_same_place, is_schema, is_sound_index, is_sound_relation, is_surplus_table, is_tree, stands_on}
use Rattle.catalog.proofs.Breaks.{breaks_none, breaks_nothing, empty_breaks_none}
use Rattle.catalog.proofs.Named.{named_none}
use Rattle.db_model.specs.declared.schemas.Attribute.{Attribute}
use Rattle.db_model.specs.declared.schemas.Schema.{Schema}
use Rattle.db_model.specs.Catalog.{Catalog as Slots, Index, catalog_of, index_at, relation_at, version_of}
use Rattle.db_model.specs.Database.{Database, Relation, bare, is_on}
use Rattle.db_model.specs.Row.{Row, rows_of}
use Rattle.db_model.specs.Sound.{IsSoundDatabase, SuitKind}
use Rattle.db_model.specs.Step.{allows, keys}
use Rattle.index_set.specs.declared.info.Access.{Access}
use Rattle.index_set.specs.declared.info.Access.TheVariants.{Order, Tree, Table as InTable}
use Rattle.index_set.specs.Complete.{IsComplete as IsKept}
use Rattle.index_set.specs.Plans.{access_kind}
use Rattle.index_set.specs.Tables.{Tables}
use Rattle.index_tree.specs.Trees.{IsTreeOf}
use Rattle.space_model.specs.Enough.{rows_in}
use Rattle.space_model.specs.FileNames.{bytes_named, bytes_in_file, catalog_file, is_there, rows_file, tree_file}
use Rattle.stored.specs.Base as stored
use Rattle.stored.specs.Base.{base_of}
use Rattle.stored.specs.Sound.{IsIndexComplete, IsSoundTable, KeepsIndex, KeepsRows, keys_stored}
use Rattle.tuple_file.specs.declared.tuples.Tuples.{Tuples}
use Rattle.tuple_file.specs.Tuples.{AreRows, rows}
use Rattle.session_model.specs.declared.held.Held.{Held}
use Rattle.session_model.specs.declared.held.Indexed.{Indexed}
use Rattle.session_model.specs.declared.held.Open.{Open}
use Rattle.session_model.specs.Frames.{schema_in}
use Rattle.session_model.specs.Indexed.{index_known}
use Rattle.session_model.specs.Running.{HasCatalogFile, HasFile, IsIndexSlot, IsRelationSlot, IsRunning, IsWritten, bytes_of_catalog}
use Rattle.session_model.specs.View.{relation_of_rows, view}
use Rattle.session_model.proofs.Grown.{no_bytes}
use Rattle.padded.proofs.Facts.{both_parts, false_by, some_same, true_eq, some_inside}
use Rattle.session_model.proofs.Rules.{files_used, formed, index_slot_true, no_strangers, no_surplus_table, none_any, not_true, relation_slot_true, schema_true}
use Rattle.session_model.proofs.Running.{index_there, relation_there}
use Rattle.session_model.proofs.Wanted.{by_name, bytes_by_name}
use Rattle.stored.proofs.SameBase.{first_nothing}

-- ---- slots

-- what stands in a slot of what is seen
pub seen : {A B : Type 0} (f : A → B) (xs : List (Option A)) (i : ℕ) (x : A) → get_or xs i None ≡ Some x → get_or (map (option_map f) xs) i None ≡ Some (f x)
seen f [] i x e = absurd (cc)
seen f (o ∷ xs) zero x e = ap (option_map f) e
seen f (o ∷ xs) (suc i) x e = seen f xs i x e

pub record Seen {A B : Type 0} (f : A → B) (xs : List (Option A)) (i : ℕ) (y : B) : Type 0 where
  pub from : A
  pub there : get_or xs i None ≡ Some from
  pub is : f from ≡ y

pub seen_back : {A B : Type 0} (f : A → B) (xs : List (Option A)) (i : ℕ) (y : B) → get_or (map (option_map f) xs) i None ≡ Some y → Seen f xs i y
seen_back f [] i y e = absurd (cc)
seen_back f (None ∷ xs) zero y e = absurd (cc)
seen_back f (Some x ∷ xs) zero y e = record { from = x; there = refl; is = some_same (f x) y e }
seen_back f (o ∷ xs) (suc i) y e = let s = seen_back f xs i y e in record { from = s.from; there = s.there; is = s.is }

-- a list is what its places say
pub listed_by : {X : Type 0} (f : ℕ → X) (xs : List X) (n : ℕ) (d : X) → length xs ≡ n → ((j : ℕ) → j < n → f j ≡ get_or xs j d) → map f (range_with_len 0 n) ≡ xs
listed_by f xs n d long same =
    let many : length (map f (range_with_len 0 n)) ≡ n = length-map-range_with_len f 0 n in
    ext_get_or d (map f (range_with_len 0 n)) xs (many ∙ sym long)
    (λ i h. let below : i < n = omega (arith, h, many) in get_or-map-range_with_len f 0 n i i d below (omega arith) ∙ same i below)

-- the bytes of the catalog, where its file is found by its name
pub catalog_found : (files : Table) (cat : Option ℕ) → HasCatalogFile files cat → ((id : ℕ) → IsNamed files id catalog_file → bytes_named catalog_file files ≡ bytes_at files id)
    → catalog_bytes_in files ≡ bytes_of_catalog files cat
catalog_found files None h found = ap bytes_in_file (named_none files catalog_file h)
catalog_found files (Some cat) h found = found cat h.0

module _ (state : State) (tables : Tables) (held : Held) (opens : List (Option Open)) (r : IsRunning state tables held opens) (told : IsTrue state.tells) where
  none_asks : ℕ → ℕ → ℕ → ℕ → Type 0
  none_asks id w b n = ⊥

  pub named_bytes : (id : ℕ) (name : List ℕ) → IsNamed state.files id name → bytes_named name state.files ≡ bytes_at state.files id
  named_bytes id name named = bytes_by_name state tables held opens r none_asks id name named

  -- ---- the catalog

  pub catalog_seen : catalog_bytes_in state.files ≡ bytes_of_catalog state.files held.cat
  catalog_seen = catalog_found state.files held.cat r.catalog (λ id named. named_bytes id catalog_file named)

  abbrev pub slots_held : Slots
  slots_held = record { version = held.version; relations = map (option_map schema_in) held.relations; indexes = map (option_map index_known) held.indexes }

  pub catalog_is : catalog_in state.files ≡ slots_held
  catalog_is = ap catalog_of catalog_seen ∙ r.listed told

  -- ---- the database

  abbrev base_by : Slots → Database
  base_by c = record {
    version = c.version;
    relations = map (stored.relation_stored state.files c.relations) (range_with_len 0 8);
    indexes = c.indexes;
    cursors = replicate 4 None;
  }

  one_relation : (j : ℕ) (o : Option Tuples) → get_or held.relations j None ≡ o
      → option_map (λ (schema : Schema). record { schema = schema; rows = rows_of schema.attributes (bytes_named (rows_file j) state.files) }) (option_map schema_in o) ≡ option_map (relation_of_rows state.files) o
  one_relation j None e = refl
  one_relation j (Some t) e =
      ap (λ (bytes : List ℕ). Some (record { schema = t.schema; rows = rows_of t.schema.attributes bytes }))
      (named_bytes t.file (rows_file j) (relation_there state tables held opens r j t e).named)

  relations_are : map (stored.relation_stored state.files (map (option_map schema_in) held.relations)) (range_with_len 0 8) ≡ map (option_map (relation_of_rows state.files)) held.relations
  relations_are =
      listed_by (stored.relation_stored state.files (map (option_map schema_in) held.relations)) (map (option_map (relation_of_rows state.files)) held.relations) 8 None (long held.relations ∙ r.eight)
      (λ j below.
      let inside_it : j < length held.relations = omega (arith, below, r.eight) in
      ap (option_map (λ (schema : Schema). record { schema = schema; rows = rows_of schema.attributes (bytes_named (rows_file j) state.files) })) (get_or-map (option_map schema_in) held.relations j None None inside_it)
      ∙ one_relation j (get_or held.relations j None) refl
      ∙ sym (get_or-map (option_map (relation_of_rows state.files)) held.relations j None None inside_it))
    where
      long : (xs : List (Option Tuples)) → length (map (option_map (relation_of_rows state.files)) xs) ≡ length xs
      long [] = refl
      long (x ∷ xs) = ap suc (long xs)

  -- files stand for the database without its cursors
  pub base_is : base_of state.files ≡ bare (view state.files held opens)
  base_is = ap base_by catalog_is ∙ (λ i. record { version = held.version; relations = relations_are i; indexes = map (option_map index_known) held.indexes; cursors = replicate 4 None })

  -- ---- soundness

  module _ (s : IsSoundDatabase (view state.files held opens)) where
    abbrev bytes_held : List ℕ
    bytes_held = bytes_of_catalog state.files held.cat

    pub size_held : IsCatalogSize (length (bytes_of_catalog state.files held.cat))
    size_held = by_cat held.cat r.catalog
      where
        by_cat : (o : Option ℕ) → HasCatalogFile state.files o → IsCatalogSize (length (bytes_of_catalog state.files o))
        by_cat None h = inl refl
        by_cat (Some cat) h = h.1

    schema_of_slot : (k : ℕ) → k < 8 → relation_at bytes_held k ≡ get_or (map (option_map schema_in) held.relations) k None
    schema_of_slot k below = sym (get_or-map-range_with_len (relation_at bytes_held) 0 8 k k None below (omega arith)) ∙ ap (λ (c : Slots). get_or c.relations k None) (r.listed told)

    index_of_slot : (i : ℕ) → i < 8 → index_at bytes_held i ≡ get_or (map (option_map index_known) held.indexes) i None
    index_of_slot i below = sym (get_or-map-range_with_len (index_at bytes_held) 0 8 i i None below (omega arith)) ∙ ap (λ (c : Slots). get_or c.indexes i None) (r.listed told)

    same_tuples_slot : (j k : ℕ) (t u : Tuples) → get_or held.relations j None ≡ Some t → get_or held.relations k None ≡ Some u → t.schema.name ≡ u.schema.name → j ≡ k
    same_tuples_slot j k t u a b e =
        s.names j k (relation_of_rows state.files t) (relation_of_rows state.files u) (seen (relation_of_rows state.files) held.relations j t a) (seen (relation_of_rows state.files) held.relations k u b) e

    new_name : (k : ℕ) (t : Tuples) → get_or held.relations k None ≡ Some t → list_any (has_name t.schema.name) (take k (map (option_map schema_in) held.relations)) ≡ false
    new_name k t there =
        none_any (has_name t.schema.name) (map (option_map schema_in) held.relations) k refl
        (λ j q below at. false_by (bytes_eq q.name t.schema.name)
        (λ same.
        let from = seen_back schema_in held.relations j q at in
        let e : j ≡ k = same_tuples_slot j k from.from t from.there there (ap (λ (z : Schema). z.name) from.is ∙ (bytes_eq-Decides q.name t.schema.name).0 same) in
        omega (arith, below, e)))

    relation_fits : IsWritten bytes_held → (k : ℕ) → k < 8 → breaks_relation bytes_held k ≡ false
    unfolding breaks_relation
    relation_fits w k below =
        let slot : List ℕ = slice_range bytes_held (176 * k) (176 * k + 176) in
        let before : List (Option Schema) = take k (map (option_map schema_in) held.relations) in
        let now : (is_relation_slot held.version slot (relation_at bytes_held k) && not (is_named_among (relation_at bytes_held k) before)) ≡ true =
        relation_slot_true held.version slot before (relation_at bytes_held k) (w.relations k below)
        (λ schema is.
        let from = seen_back schema_in held.relations k schema (sym (schema_of_slot k below) ∙ is) in
        let sound = s.relations k (relation_of_rows state.files from.from) (seen (relation_of_rows state.files) held.relations k from.from from.there) in
        let P : Schema → Type 0 = λ z. (is_schema held.version z ≡ true) × (list_any (has_name z.name) before ≡ false) in
        subst P from.is (schema_true held.version from.from.schema sound.schema, new_name k from.from from.there)) in
        not_true (is_sound_relation (version_of bytes_held) slot (take k (catalog_of bytes_held).relations))
        (ap (λ (c : Slots). is_sound_relation c.version slot (take k c.relations)) (r.listed told) ∙ now)

    index_alone : (i : ℕ) (x : Indexed) → get_or held.indexes i None ≡ Some x → list_any (is_same_place (index_known x)) (take i (map (option_map index_known) held.indexes)) ≡ false
    index_alone i x there =
        none_any (is_same_place (index_known x)) (map (option_map index_known) held.indexes) i refl
        (λ j other below at. false_by (is_on x.relation x.attribute other)
        (λ same.
        let parts = both_parts (other.relation == x.relation) (other.attribute == x.attribute) same in
        let e : j ≡ i = s.places j i other (index_known x) at (seen index_known held.indexes i x there) (true_eq other.relation x.relation parts.0) (true_eq other.attribute x.attribute parts.1) in
        omega (arith, below, e)))

    stands_true : (x : Index) (schema : Schema) (a : Attribute) → slice_get schema.attributes x.attribute ≡ Some a → allows x.kind a.domain ≡ true → stands_on x (Some schema) ≡ true
    stands_true x schema a placed allowed =
        subst (λ (o : Option Attribute). elim o [ None ↦ false | Some b ↦ allows x.kind b.domain ] ≡ true) (sym placed) allowed

    index_fits : IsWritten bytes_held → (i : ℕ) → i < 8 → breaks_index bytes_held i ≡ false
    unfolding breaks_index
    index_fits w i below =
        let slot : List ℕ = slice_range bytes_held (1408 + 8 * i) (1408 + 8 * i + 8) in
        let relations : List (Option Schema) = map (option_map schema_in) held.relations in
        let before : List (Option Index) = take i (map (option_map index_known) held.indexes) in
        let now : (is_index_form slot (index_at bytes_held i) && is_behind relations before (index_at bytes_held i)) ≡ true =
        index_slot_true slot relations before (index_at bytes_held i) (w.indexes i below)
        (λ index is.
        let at = sym (index_of_slot i below) ∙ is in
        let from = seen_back index_known held.indexes i index at in
        let x = from.from in
        let sound = s.indexes i (index_known x) (seen index_known held.indexes i x from.there) in
        let t = seen_back (relation_of_rows state.files) held.relations x.relation sound.relation sound.stands in
        let stands : stands_on (index_known x) (get_or relations x.relation None) ≡ true =
        ap (stands_on (index_known x)) (seen schema_in held.relations x.relation t.from t.there)
        ∙ stands_true (index_known x) t.from.schema sound.suits.attribute
        (ap (λ (z : Relation). slice_get z.schema.attributes x.attribute) t.is ∙ sound.suits.placed) sound.suits.allowed in
        let P : Index → Type 0 = λ z. (z.relation < 8) × (stands_on z (get_or relations z.relation None) ≡ true) × (list_any (is_same_place z) before ≡ false) × (is_surplus_table before z ≡ false) in
        subst P from.is (
          omega (arith, some_inside held.relations x.relation t.from t.there, r.eight),
          stands,
          index_alone i x from.there,
          no_surplus_table (map (option_map index_known) held.indexes) i (index_known x) (seen index_known held.indexes i x from.there) s.few_tables,
        )) in
        not_true (is_sound_index slot (catalog_of bytes_held).relations (take i (catalog_of bytes_held).indexes))
        (ap (λ (c : Slots). is_sound_index slot c.relations (take i c.indexes)) (r.listed told) ∙ now)

    catalog_fits : broken_catalog bytes_held ≡ None
    catalog_fits =
        ⊎_elim
        (λ none. empty_breaks_none bytes_held none)
        (λ some.
        let more : 0 < length bytes_held = large some in
        let w = r.written told more in
        breaks_none bytes_held (formed bytes_held size_held w.mark) (λ none. absurd (omega (arith, more, none)))
        (first_nothing (breaks_relation bytes_held) 8 (relation_fits w)) (first_nothing (breaks_index bytes_held) 8 (index_fits w)))
        size_held
      where
        large : {n : ℕ} → (n ≡ 1472) ⊎ (n ≡ 1480) → 0 < n
        large (inl e) = omega (arith, e)
        large (inr e) = omega (arith, e)

    -- ---- which files there are

    there_named : (id : ℕ) (name : List ℕ) → IsNamed state.files id name → is_there name state.files ≡ true
    there_named id name named = ap is_some (by_name state tables held opens r none_asks id name named)

    not_there : (name : List ℕ) → IsUnnamed state.files name → is_there name state.files ≡ false
    not_there name none = ap is_some (named_none state.files name none)

    pub rows_there : (k : ℕ) → k < 8 → is_there (rows_file k) state.files ≡ is_some (get_or (map (option_map schema_in) held.relations) k None)
    rows_there k below =
        by_slot (get_or held.relations k None) (r.relations k below)
        ∙ ap is_some (sym (get_or-map (option_map schema_in) held.relations k None None (omega (arith, below, r.eight))))
      where
        by_slot : (o : Option Tuples) → IsRelationSlot state held.version k o → is_there (rows_file k) state.files ≡ is_some (option_map schema_in o)
        by_slot None h = not_there (rows_file k) h
        by_slot (Some t) h = there_named t.file (rows_file k) h.named

    tree_by : (i : ℕ) (x : Indexed) (access : Access) → x.access ≡ access → HasFile state.files i access → is_there (tree_file i) state.files ≡ is_tree (Some (record { kind = access_kind access; relation = x.relation; attribute = x.attribute }))
    tree_by i x Order e h = not_there (tree_file i) h
    tree_by i x (Tree g) e h = there_named g (tree_file i) h
    tree_by i x (InTable number) e h = not_there (tree_file i) h

    pub trees_there : (i : ℕ) → i < 8 → is_there (tree_file i) state.files ≡ is_tree (get_or (map (option_map index_known) held.indexes) i None)
    trees_there i below =
        by_slot (get_or held.indexes i None) refl (r.indexes i below)
        ∙ ap is_tree (sym (get_or-map (option_map index_known) held.indexes i None None (omega (arith, below, r.eight_indexes))))
      where
        by_slot : (o : Option Indexed) → get_or held.indexes i None ≡ o → IsIndexSlot state tables held i o → is_there (tree_file i) state.files ≡ is_tree (option_map index_known o)
        by_slot None e h = not_there (tree_file i) h
        by_slot (Some x) e h = tree_by i x x.access refl (index_there state tables held opens r i x e).indexed.file

    unbroken : first_broken state.files ≡ None
    unbroken =
        breaks_nothing state.files (sym (no_strangers state.files r.known)) (ap broken_catalog catalog_seen ∙ catalog_fits)
        (sym (ap (λ (c : Slots). first 16 (breaks_files state.files c.relations c.indexes)) catalog_is
        ∙ files_used state.files (map (option_map schema_in) held.relations) (map (option_map index_known) held.indexes) rows_there trees_there))

    -- ---- rows and indexes

    pub rows_kept : (k : ℕ) → k < 8 → KeepsRows state.files k
    rows_kept k below schema at =
        let from = seen_back schema_in held.relations k schema (sym (ap (λ (c : Slots). get_or c.relations k None) catalog_is) ∙ at) in
        let t = from.from in
        let here = relation_there state tables held opens r k t from.there in
        let bytes = named_bytes t.file (rows_file k) here.named in
        let sound = s.relations k (relation_of_rows state.files t) (seen (relation_of_rows state.files) held.relations k t from.there) in
        let P : List ℕ → Type 0 = λ bs. AreRows held.version t.schema.attributes bs in
        let Q : Schema → Type 0 = λ z. AreRows held.version z.attributes (bytes_named (rows_file k) state.files) in
        let R : ℕ → Type 0 = λ v. AreRows v schema.attributes (bytes_named (rows_file k) state.files) in
        subst R (ap (λ (c : Slots). c.version) (sym catalog_is))
        (subst Q from.is
        (subst P (sym bytes) (record {
          whole = here.holds.written told;
          few = here.few;
          some = λ none. no_items (bytes_at state.files t.file) (no_bytes state t here.holds (ap (λ (rs : List Row). length rs) (sound.filled none)));
        })))
      where
        no_items : (xs : List ℕ) → length xs ≡ 0 → xs ≡ []
        no_items [] e = refl
        no_items (x ∷ xs) e = absurd (omega (arith, e))

    kept_by : (i : ℕ) (x : Indexed) (access : Access) (ks : List ℤ) → HasFile state.files i access → IsKept state tables access ks → SuitKind (access_kind access) ks → IsIndexComplete (access_kind access) (bytes_named (tree_file i) state.files) ks
    kept_by i x Order ks file h suits = h
    kept_by i x (Tree g) ks file h suits = let P : List ℕ → Type 0 = λ bytes. IsTreeOf bytes ks in subst P (sym (named_bytes g (tree_file i) file)) h
    kept_by i x (InTable number) ks file h suits = suits

    pub index_kept : (i : ℕ) → i < 8 → KeepsIndex state.files i
    index_kept i below index at =
        let from = seen_back index_known held.indexes i index (sym (ap (λ (c : Slots). get_or c.indexes i None) catalog_is) ∙ at) in
        let x = from.from in
        let o = index_there state tables held opens r i x from.there in
        let sound = s.indexes i (index_known x) (seen index_known held.indexes i x from.there) in
        let is : sound.relation ≡ relation_of_rows state.files o.tuples =
        some_same sound.relation (relation_of_rows state.files o.tuples) (sym sound.stands ∙ seen (relation_of_rows state.files) held.relations x.relation o.tuples o.is) in
        let all : rows_in (base_of state.files) x.relation ≡ rows state.files o.tuples =
        ap (λ (db : Database). rows_in db x.relation) base_is
        ∙ ap (λ (q : Option Relation). option_map_or (λ (z : Relation). z.rows) q []) (seen (relation_of_rows state.files) held.relations x.relation o.tuples o.is) in
        let P : List Row → Type 0 = λ rs. IsIndexComplete (access_kind x.access) (bytes_named (tree_file i) state.files) (keys x.attribute rs) in
        let Q : Index → Type 0 = λ z. IsIndexComplete z.kind (bytes_named (tree_file i) state.files) (keys_stored state.files z) in
        let S : Relation → Type 0 = λ z. SuitKind (access_kind x.access) (keys x.attribute z.rows) in
        subst Q from.is (subst P (sym all)
        (kept_by i x x.access (keys x.attribute (rows state.files o.tuples)) o.indexed.file (o.indexed.complete told) (subst S is sound.suits.keys)))

    -- the files are sound
    pub files_sound : IsSoundTable state.files
    files_sound = record { catalog = unbroken; rows = rows_kept; indexes = index_kept }
