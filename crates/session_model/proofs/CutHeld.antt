-- The files of a session that runs over a sound database, and what of them a cut in the middle of a command leaves.
use Rattle.std.proofs.Common.{◌≡◌, ◌≢◌, ◌⊎◌, inl, inr, ⊎_elim, ℕ, ◌+◌, ◌*◌, ◌<◌, ◌≤◌, Bool, true, false, not, ◌&&◌, ◌==◌, List, [], ◌∷◌, if◌then◌else◌, length, map, get_or, Option, Some, None, refl, ap, sym, subst, ◌∙◌, arith, IsTrue}
use Rattle.std.specs.Prelude.{ℤ, is_some, option_map, slice_range}
use Rattle.std.specs.List.{list_any}
use Rattle.std.specs.Option.{option_map_or}
use Rattle.std.proofs.lemmas.Bool.{cases_eq}
use Rattle.std.proofs.lemmas.List.{nil_from_length}
use Rattle.std.proofs.lemmas.List.FromFn.{get_or-map-range_with_len}
use Rattle.afl_base.specs.declared.files.Files.{Ghosts as FilesOf}
use Rattle.afl_base.specs.Files.{IsNamed, State, Table, bytes_at, file_at}
use Rattle.afl_base.specs.Frames.{SparesOthers}
use Rattle.afl_base.proofs.FileLaws.{named_live, place_live}
use Rattle.catalog.specs.CatalogFile.{IsCatalogSize}
use Rattle.catalog.specs.Rules.{catalog_bytes_in, has_form, is_tree}
use Rattle.catalog.proofs.Named.{named_found, named_none}
use Rattle.db_model.specs.declared.commands.Command.{Command}
use Rattle.db_model.specs.declared.schemas.Attribute.{Attribute}
use Rattle.db_model.specs.declared.schemas.Schema.{Schema}
use Rattle.db_model.specs.Between.{AreAlike}
use Rattle.db_model.specs.Catalog.{Catalog as Slots, Index, catalog_of, index_at, index_slot_bytes, relation_at, relation_slot_bytes, version_of}
use Rattle.db_model.specs.Database.{Database, Relation, bare}
use Rattle.db_model.specs.Row.{Row, rows_of, slots_in_bytes}
use Rattle.db_model.specs.Sound.{IsSoundDatabase}
use Rattle.db_model.specs.Step.{keys, slots_limit}
use Rattle.index_set.specs.declared.info.Access.{Access}
use Rattle.index_set.specs.declared.info.Access.TheVariants.{Order, Tree, Table as InTable}
use Rattle.index_set.specs.Plans.{access_kind}
use Rattle.index_set.specs.Tables.{Tables}
use Rattle.padded.proofs.Facts.{none_some, seen_at, some_inside, some_same}
use Rattle.space_model.specs.Enough.{rows_in}
use Rattle.space_model.specs.FileNames.{bytes_in_file, bytes_named, catalog_file, file_named, is_there, rows_file, tree_file}
use Rattle.stored.specs.CutTables.{HasMark, HoldsRowsOr, IsCutTable, IsIndexWhile, index_read, relation, slot_bytes}
use Rattle.stored.specs.Mended.{has_time, mended_base, mended_catalog, mended_version, standing, whole_bytes, whole_catalog}
use Rattle.stored.specs.Sound.{IsIndexComplete, IsSoundTable}
use Rattle.stored.specs.declared.half.Half.{Half}
use Rattle.stored.specs.declared.half.Half.TheVariants.{Emptying, Growing, LoneRows, LoneTree, Treeless}
use Rattle.stored.proofs.MendedBase.{whole_sized}
use Rattle.stored.proofs.MendedTables.{ReadsIndex, ReadsRelation}
use Rattle.stored.proofs.SoundCut.{cut_of_sound, no_relation, sound_mark}
use Rattle.stored.proofs.SoundSlots.{slot_below}
use Rattle.tuple_file.specs.declared.tuples.Tuples.{Tuples}
use Rattle.tuple_file.specs.Tuples.{AreRows, rows}
use Rattle.session_model.specs.declared.base.Base.{Base}
use Rattle.session_model.specs.declared.held.Held.{Held}
use Rattle.session_model.specs.declared.held.Indexed.{Indexed}
use Rattle.session_model.specs.declared.held.Open.{Open}
use Rattle.session_model.specs.Carried.{MendsBetween, Runs, Tells, database}
use Rattle.session_model.specs.Frames.{LeavesOthers, StaysAt, schema_in}
use Rattle.session_model.specs.Indexed.{index_known, infos_of}
use Rattle.session_model.specs.ReadAs.{AreReadAs}
use Rattle.session_model.specs.Running.{HasCatalogFile, HasFile, IsIndexSlot, IsRelationSlot, IsRunning, IsWritten, bytes_of_catalog}
use Rattle.session_model.specs.View.{relation_of_rows, view}
use Rattle.session_model.proofs.Catalogs.{catalog_there}
use Rattle.session_model.proofs.CutCatalogs.{catalog_is as catalog_bytes, rows_kept as rows_bytes_kept, rows_there_kept, tree_bytes_kept, tree_kept}
use Rattle.session_model.proofs.CutSlots.{HoldsFiles, HoldsSlots, IsInPart, half_by, schema_of}
use Rattle.session_model.proofs.ReadAs.{catalog_here, catalog_stays, mapped_length as mapped, read_alike, read_spared, running_alike}
use Rattle.session_model.proofs.Rules.{stranger_none}
use Rattle.session_model.proofs.Running.{bytes_by, distinct_spared, index_there, known_spared, named_spared, relation_there, row_no_tree, rows_apart, rows_stay, tree_stays, trees_apart, unnamed_spared}
use Rattle.session_model.proofs.Sound.{base_is, catalog_is, catalog_seen, files_sound, index_kept, listed_by, named_bytes, rows_kept, rows_there, seen, seen_back, size_held, trees_there}

-- rows of one version are rows of a later one
pub rows_later : {v w : ℕ} {attributes : List Attribute} {bytes : List ℕ} → (v ≡ 1) ⊎ (w ≡ 2) → (v ≡ 1) ⊎ (v ≡ 2) → (w ≡ 1) ⊎ (w ≡ 2) → AreRows v attributes bytes → AreRows w attributes bytes
rows_later {v} {w} {attributes} {bytes} later one other rows = record { whole = rows.whole; few = fits rows.few; some = rows.some }
  where
    limit : (n : ℕ) → n ≤ slots_limit 1 → (w ≡ 1) ⊎ (w ≡ 2) → n ≤ slots_limit w
    limit n few (inl e) = subst (λ (m : ℕ). n ≤ slots_limit m) (sym e) few
    limit n few (inr e) = subst (λ (m : ℕ). n ≤ slots_limit m) (sym e) (omega (arith, few))

    fits : slots_in_bytes attributes bytes ≤ slots_limit v → slots_in_bytes attributes bytes ≤ slots_limit w
    fits few = ⊎_elim
        (λ (e : v ≡ 1). limit (slots_in_bytes attributes bytes) (subst (λ (m : ℕ). slots_in_bytes attributes bytes ≤ slots_limit m) e few) other)
        (λ (e : w ≡ 2). ⊎_elim
        (λ (f : v ≡ 1). limit (slots_in_bytes attributes bytes) (subst (λ (m : ℕ). slots_in_bytes attributes bytes ≤ slots_limit m) f few) other)
        (λ (f : v ≡ 2). subst (λ (m : ℕ). slots_in_bytes attributes bytes ≤ slots_limit m) (f ∙ sym e) few)
        one)
        later

-- the schemas of what is seen are those that are held
pub schemas_seen : (files : Table) (ts : List (Option Tuples)) → map (option_map schema_of) (map (option_map (relation_of_rows files)) ts) ≡ map (option_map schema_in) ts
schemas_seen files [] = refl
schemas_seen files (None ∷ ts) = ap (λ os. None ∷ os) (schemas_seen files ts)
schemas_seen files (Some t ∷ ts) = ap (λ os. Some t.schema ∷ os) (schemas_seen files ts)

-- the version of a table is 1 or 2
pub one_or_two : (files : Table) → ((mended_catalog files).version ≡ 1) ⊎ ((mended_catalog files).version ≡ 2)
unfolding mended_catalog
one_or_two files = by_tests (list_any has_time (catalog_of (whole_catalog files)).relations) (length (whole_catalog files) == 1472) _ refl
  where
    by_tests : (timed first : Bool) (n : ℕ) → n ≡ (if timed then 2 else (if first then 1 else 2)) → (n ≡ 1) ⊎ (n ≡ 2)
    by_tests true first n e = inr e
    by_tests false true n e = inl e
    by_tests false false n e = inr e

base_index : (files : Table) (i : ℕ) (x : Index) → get_or (mended_catalog files).indexes i None ≡ Some x → get_or (mended_base files).indexes i None ≡ Some x
unfolding mended_base
base_index files i x e = e

-- an index that stands is one that is read
pub mended_read : (files : Table) (i : ℕ) (x : Index) → get_or (mended_catalog files).indexes i None ≡ Some x → index_read files i ≡ Some x
unfolding mended_catalog
mended_read files i x e =
    let at = slot_below (λ (slot : ℕ). standing files slot (get_or (catalog_of (whole_catalog files)).indexes slot None)) 8 i x e in
    by_test (is_tree (index_read files i) && not (is_there (tree_file i) files)) (index_read files i) at.is
  where
    by_test : (b : Bool) (o : Option Index) → (if b then None else o) ≡ Some x → o ≡ Some x
    by_test true o e = cc
    by_test false o e = e

module _ (old : State) (tables : Tables) (held : Held) (opens : List (Option Open)) (r : IsRunning old tables held opens) (told : IsTrue old.tells) (s : IsSoundDatabase (view old.files held opens)) where
  abbrev db : Database
  db = view old.files held opens

  abbrev schemas : List (Option Schema)
  schemas = map (option_map schema_in) held.relations

  abbrev knowns : List (Option Index)
  knowns = map (option_map index_known) held.indexes

  -- its files are ones that a cut can have left
  pub cut_held : IsCutTable old.files
  cut_held = cut_of_sound old.files (files_sound old tables held opens r told s) (stranger_none old.files r.known)

  pub schemas_long : length schemas ≡ 8
  schemas_long = mapped (option_map schema_in) held.relations ∙ r.eight

  pub knowns_long : length knowns ≡ 8
  knowns_long = mapped (option_map index_known) held.indexes ∙ r.eight_indexes

  pub were_rows : (k : ℕ) (schema : Schema) → get_or schemas k None ≡ Some schema → AreRows held.version schema.attributes (bytes_named (rows_file k) old.files)
  were_rows k schema e =
      let below : k < 8 = let n = some_inside schemas k schema e in omega (arith, n, schemas_long) in
      let is = catalog_is old tables held opens r told in
      subst (λ (c : Slots). AreRows c.version schema.attributes (bytes_named (rows_file k) old.files)) is
      (rows_kept old tables held opens r told s k below schema (ap (λ (c : Slots). get_or c.relations k None) is ∙ e))

  pub were_keys : (i : ℕ) (x : Index) → get_or knowns i None ≡ Some x → IsIndexComplete x.kind (bytes_named (tree_file i) old.files) (keys x.attribute (rows_in db x.relation))
  were_keys i x e =
      let below : i < 8 = let n = some_inside knowns i x e in omega (arith, n, knowns_long) in
      let is = catalog_is old tables held opens r told in
      subst (λ (d : Database). IsIndexComplete x.kind (bytes_named (tree_file i) old.files) (keys x.attribute (rows_in d x.relation))) (base_is old tables held opens r told)
      (index_kept old tables held opens r told s i below x (ap (λ (c : Slots). get_or c.indexes i None) is ∙ e))

  -- ---- what a catalog that was changed is read as

  module _ (cat : ℕ) (has : held.cat ≡ Some cat) where
    there : HasCatalogFile old.files (Some cat)
    there = catalog_there old tables held opens cat r has

    listed : catalog_of (whole_bytes (bytes_at old.files cat)) ≡ record { version = held.version; relations = schemas; indexes = knowns }
    listed =
        ap catalog_of (whole_sized (bytes_at old.files cat) there.1) ∙ ap catalog_of (ap (bytes_of_catalog old.files) (sym has)) ∙ r.listed told

    pub was_relation : (k : ℕ) → k < 8 → relation_at (whole_bytes (bytes_at old.files cat)) k ≡ get_or schemas k None
    was_relation k below =
        sym (get_or-map-range_with_len (relation_at (whole_bytes (bytes_at old.files cat))) 0 8 k k None below (omega arith)) ∙ ap (λ (c : Slots). get_or c.relations k None) listed

    pub was_index : (i : ℕ) → i < 8 → index_at (whole_bytes (bytes_at old.files cat)) i ≡ get_or knowns i None
    was_index i below =
        sym (get_or-map-range_with_len (index_at (whole_bytes (bytes_at old.files cat))) 0 8 i i None below (omega arith)) ∙ ap (λ (c : Slots). get_or c.indexes i None) listed

    pub was_version : version_of (bytes_at old.files cat) ≡ held.version
    was_version = ap version_of (sym (whole_sized (bytes_at old.files cat) there.1)) ∙ ap (λ (c : Slots). c.version) listed

    module _ (after : State) (name : List ℕ) (l : LeavesOthers old after name) (named : IsNamed after.files cat catalog_file) where
      pub now_bytes : catalog_bytes_in after.files ≡ bytes_at after.files cat
      now_bytes = catalog_bytes after.files cat (l.distinct r.distinct) named

      whole_now : whole_catalog after.files ≡ whole_bytes (bytes_at after.files cat)
      whole_now = ap whole_bytes now_bytes

      -- a list that the slots are read as
      pub relations_by : (os : List (Option Schema)) → length os ≡ 8 → ((k : ℕ) → k < 8 → relation_at (whole_bytes (bytes_at after.files cat)) k ≡ get_or os k None)
          → (catalog_of (whole_catalog after.files)).relations ≡ os
      relations_by os long each =
          ap (λ (b : List ℕ). (catalog_of b).relations) whole_now ∙ listed_by (relation_at (whole_bytes (bytes_at after.files cat))) os 8 None long each

      pub indexes_by : (xs : List (Option Index)) → length xs ≡ 8 → ((i : ℕ) → i < 8 → index_at (whole_bytes (bytes_at after.files cat)) i ≡ get_or xs i None)
          → (catalog_of (whole_catalog after.files)).indexes ≡ xs
      indexes_by xs long each =
          ap (λ (b : List ℕ). (catalog_of b).indexes) whole_now ∙ listed_by (index_at (whole_bytes (bytes_at after.files cat))) xs 8 None long each

  -- ---- the slot of a relation

  -- the slot of a relation is read as another, and no file has changed but its rows and the catalog: what stands there
  -- is like a sound database
  pub record RelationCut (cat k : ℕ) (after : State) (half : Half) (now : Database) (o : Option Schema) : Type 0 where
    pub has : held.cat ≡ Some cat
    pub leaves : LeavesOthers old after (rows_file k)
    pub named : IsNamed after.files cat catalog_file
    pub below : k < 8
    pub read : ReadsRelation (bytes_at old.files cat) (bytes_at after.files cat) k o
    pub like : AreAlike (mended_base after.files) (bare now)
    pub sound : IsSoundDatabase now
    pub here : option_map schema_of (get_or now.relations k None) ≡ o
    pub others : (j : ℕ) → j ≢ k → get_or now.relations j None ≡ get_or (view old.files held opens).relations j None
    pub indexes : now.indexes ≡ map (option_map index_known) held.indexes
    pub same_keys : (i : ℕ) (x : Index) → get_or (map (option_map index_known) held.indexes) i None ≡ Some x → rows_in now x.relation ≡ rows_in (view old.files held opens) x.relation
    pub later : (j : ℕ) (schema : Schema) → get_or (map (option_map schema_in) held.relations) j None ≡ Some schema → (held.version ≡ 1) ⊎ ((mended_catalog after.files).version ≡ 2)
    pub whole : 1472 ≤ length (catalog_bytes_in after.files)
    pub mark : HasMark after.files half
    pub slots : (j : ℕ) → j < 8 → (slot_bytes after.files j ≡ relation_slot_bytes (relation after.files j)) ⊎ IsInPart half j (slot_bytes after.files j) (relation after.files j)
    pub index_slots : (i : ℕ) → i < 8 → slice_range (whole_catalog after.files) (1408 + 8 * i) (1408 + 8 * i + 8) ≡ index_slot_bytes (index_at (whole_catalog after.files) i)
    pub emptied : (j : ℕ) → half ≡ Emptying j → j ≡ k
    pub grown : (j : ℕ) → half ≡ Growing j → bytes_named (rows_file j) after.files ≡ []
    pub file_there : (is_some o ≡ true) ⊎ (half ≡ Emptying k) → is_there (rows_file k) after.files ≡ true
    pub file_lone : is_there (rows_file k) after.files ≡ true → (is_some o ≡ true) ⊎ ((half ≡ LoneRows k) ⊎ (half ≡ Emptying k))
    pub rows : (schema : Schema) → o ≡ Some schema → AreRows (mended_catalog after.files).version schema.attributes (bytes_named (rows_file k) after.files)

  module _ (cat k : ℕ) (after : State) (half : Half) (now : Database) (o : Option Schema) (c : RelationCut cat k after half now o) where
    abbrev os : List (Option Schema)
    os = map (option_map schema_of) now.relations

    os_long : length os ≡ 8
    os_long = mapped (option_map schema_of) now.relations ∙ c.sound.eight_relations

    was_in : (j : ℕ) → get_or schemas j None ≡ option_map schema_of (get_or db.relations j None)
    was_in j = ap (λ xs. get_or xs j None) (sym (schemas_seen old.files held.relations)) ∙ seen_at schema_of db.relations j

    each : (j : ℕ) → j < 8 → relation_at (whole_bytes (bytes_at after.files cat)) j ≡ get_or os j None
    each j inside = ⊎_elim
        (λ (same : j ≡ k). ap (relation_at (whole_bytes (bytes_at after.files cat))) same ∙ c.read.here ∙ sym c.here ∙ sym (seen_at schema_of now.relations k) ∙ ap (λ (m : ℕ). get_or os m None) (sym same))
        (λ (differs : j ≢ k). c.read.relations j inside differs ∙ was_relation cat c.has j inside ∙ was_in j ∙ ap (option_map schema_of) (sym (c.others j differs)) ∙ sym (seen_at schema_of now.relations j))
        (cases_eq j k)

    relations_read : (catalog_of (whole_catalog after.files)).relations ≡ os
    relations_read = relations_by cat c.has after (rows_file k) c.leaves c.named os os_long each

    indexes_read : (catalog_of (whole_catalog after.files)).indexes ≡ now.indexes
    indexes_read =
        indexes_by cat c.has after (rows_file k) c.leaves c.named now.indexes c.sound.eight_indexes
        (λ i inside. c.read.indexes i inside ∙ was_index cat c.has i inside ∙ ap (λ xs. get_or xs i None) (sym c.indexes))

    relation_read : (j : ℕ) → relation after.files j ≡ get_or os j None
    unfolding mended_catalog
    relation_read j = ap (λ xs. get_or xs j None) relations_read

    relation_here : relation after.files k ≡ o
    relation_here = relation_read k ∙ seen_at schema_of now.relations k ∙ c.here

    relation_other : (j : ℕ) → j ≢ k → relation after.files j ≡ get_or schemas j None
    relation_other j differs = relation_read j ∙ seen_at schema_of now.relations j ∙ ap (option_map schema_of) (c.others j differs) ∙ sym (was_in j)

    tree_read : (i : ℕ) → index_read after.files i ≡ get_or knowns i None
    tree_read i = ap (λ xs. get_or xs i None) (indexes_read ∙ c.indexes)

    tree_stands : (i : ℕ) → i < 8 → is_there (tree_file i) after.files ≡ is_tree (index_read after.files i)
    tree_stands i inside =
        tree_kept old after tables held opens r (rows_file k) c.leaves i inside (λ e. row_no_tree k i (sym e)) ∙ trees_there old tables held opens r told s i inside ∙ sym (ap is_tree (tree_read i))

    row_stands : (j : ℕ) → j < 8 → j ≢ k → is_there (rows_file j) after.files ≡ is_some (relation after.files j)
    row_stands j inside differs =
        rows_there_kept old after tables held opens r (rows_file k) c.leaves j inside (rows_apart j k differs) ∙ rows_there old tables held opens r told s j inside ∙ sym (ap is_some (relation_other j differs))

    -- the files of such a change
    files_hold : HoldsFiles after.files half
    files_hold = record {
      rows_there = λ j inside used. ⊎_elim
          (λ (same : j ≡ k). subst (λ (m : ℕ). is_there (rows_file m) after.files ≡ true) (sym same) (c.file_there (⊎_elim
          (λ (e : is_some (relation after.files j) ≡ true). inl (ap is_some (sym relation_here ∙ ap (relation after.files) (sym same)) ∙ e))
          (λ (e : half ≡ Emptying j). inr (e ∙ ap Emptying same))
          used)))
          (λ (differs : j ≢ k). ⊎_elim
          (λ (e : is_some (relation after.files j) ≡ true). row_stands j inside differs ∙ e)
          (λ (e : half ≡ Emptying j). absurd (differs (c.emptied j e)))
          used)
          (cases_eq j k);
      rows_lone = λ j inside there. ⊎_elim
          (λ (same : j ≡ k). ⊎_elim
          (λ (e : is_some o ≡ true). inl (ap is_some (ap (relation after.files) same ∙ relation_here) ∙ e))
          (λ (e : (half ≡ LoneRows k) ⊎ (half ≡ Emptying k)). inr (subst (λ (m : ℕ). (half ≡ LoneRows m) ⊎ (half ≡ Emptying m)) (sym same) e))
          (c.file_lone (subst (λ (m : ℕ). is_there (rows_file m) after.files ≡ true) same there)))
          (λ (differs : j ≢ k). inl (sym (row_stands j inside differs) ∙ there))
          (cases_eq j k);
      tree_there = λ i inside used. inl (tree_stands i inside ∙ used);
      tree_lone = λ i inside there. inl (sym (tree_stands i inside) ∙ there);
      grown = c.grown;
      rows = λ j schema e. inl (⊎_elim
          (λ (same : j ≡ k). subst (λ (m : ℕ). AreRows (mended_catalog after.files).version schema.attributes (bytes_named (rows_file m) after.files)) (sym same)
          (c.rows schema (sym relation_here ∙ ap (relation after.files) (sym same) ∙ e)))
          (λ (differs : j ≢ k).
          let was : get_or schemas j None ≡ Some schema = sym (relation_other j differs) ∙ e in
          let inside : j < 8 = let n = some_inside schemas j schema was in omega (arith, n, schemas_long) in
          subst (AreRows (mended_catalog after.files).version schema.attributes) (sym (rows_bytes_kept old after tables held opens r (rows_file k) c.leaves j inside (rows_apart j k differs)))
          (rows_later (c.later j schema was) r.version (one_or_two after.files) (were_rows j schema was)))
          (cases_eq j k));
      keys = λ i x e. inl (
          let at : get_or knowns i None ≡ Some x = sym (ap (λ (d : Database). get_or d.indexes i None) c.like ∙ ap (λ xs. get_or xs i None) c.indexes) ∙ base_index after.files i x e in
          let inside : i < 8 = let n = some_inside knowns i x at in omega (arith, n, knowns_long) in
          subst (λ (b : List ℕ). IsIndexComplete x.kind b (keys x.attribute (rows_in (mended_base after.files) x.relation))) (sym (tree_bytes_kept old after tables held opens r (rows_file k) c.leaves i inside (λ n. row_no_tree k i (sym n))))
          (subst (λ (rs : List Row). IsIndexComplete x.kind (bytes_named (tree_file i) old.files) (keys x.attribute rs)) (sym (ap (λ (d : Database). rows_in d x.relation) c.like ∙ c.same_keys i x at))
          (were_keys i x at)));
    }

    pub relation_cut : IsCutTable after.files
    relation_cut = record {
      known = stranger_none after.files (c.leaves.known r.known);
      done = inr (
        half,
        half_by after.files half now (record {
          sound = c.sound;
          whole = c.whole;
          mark = c.mark;
          relations = relations_read;
          indexes = indexes_read;
          slots = c.slots;
          index_slots = c.index_slots;
        }) files_hold,
      );
    }

  -- ---- the slot of an index

  -- the slot of an index is read as another, and no file has changed but its tree and the catalog
  pub record IndexCut (cat i : ℕ) (after : State) (half : Half) (now : Database) (o : Option Index) : Type 0 where
    pub has : held.cat ≡ Some cat
    pub leaves : LeavesOthers old after (tree_file i)
    pub named : IsNamed after.files cat catalog_file
    pub below : i < 8
    pub read : ReadsIndex (bytes_at old.files cat) (bytes_at after.files cat) i o
    pub sound : IsSoundDatabase now
    pub here : get_or now.indexes i None ≡ o
    pub others : (j : ℕ) → j ≢ i → get_or now.indexes j None ≡ get_or (map (option_map index_known) held.indexes) j None
    pub relations : now.relations ≡ (view old.files held opens).relations
    pub same_rows : (mended_base after.files).relations ≡ (view old.files held opens).relations
    pub later : (j : ℕ) (schema : Schema) → get_or (map (option_map schema_in) held.relations) j None ≡ Some schema → (held.version ≡ 1) ⊎ ((mended_catalog after.files).version ≡ 2)
    pub whole : 1472 ≤ length (catalog_bytes_in after.files)
    pub mark : HasMark after.files half
    pub slots : (j : ℕ) → j < 8 → slot_bytes after.files j ≡ relation_slot_bytes (relation after.files j)
    pub index_slots : (j : ℕ) → j < 8 → slice_range (whole_catalog after.files) (1408 + 8 * j) (1408 + 8 * j + 8) ≡ index_slot_bytes (index_at (whole_catalog after.files) j)
    pub not_emptied : (j : ℕ) → half ≡ Emptying j → ⊥
    pub not_grown : (j : ℕ) → half ≡ Growing j → ⊥
    pub tree_there : is_tree o ≡ true → (is_there (tree_file i) after.files ≡ true) ⊎ (half ≡ Treeless i)
    pub tree_lone : is_there (tree_file i) after.files ≡ true → (is_tree o ≡ true) ⊎ ((half ≡ LoneTree i) × (o ≡ None))
    pub key : (x : Index) → o ≡ Some x → get_or (mended_catalog after.files).indexes i None ≡ Some x
        → IsIndexComplete x.kind (bytes_named (tree_file i) after.files) (keys x.attribute (rows_in (view old.files held opens) x.relation))

  module _ (cat i : ℕ) (after : State) (half : Half) (now : Database) (o : Option Index) (c : IndexCut cat i after half now o) where
    each_index : (j : ℕ) → j < 8 → index_at (whole_bytes (bytes_at after.files cat)) j ≡ get_or now.indexes j None
    each_index j inside = ⊎_elim
        (λ (same : j ≡ i). ap (index_at (whole_bytes (bytes_at after.files cat))) same ∙ c.read.here ∙ sym c.here ∙ ap (λ (m : ℕ). get_or now.indexes m None) (sym same))
        (λ (differs : j ≢ i). c.read.indexes j inside differs ∙ was_index cat c.has j inside ∙ sym (c.others j differs))
        (cases_eq j i)

    x_relations : (catalog_of (whole_catalog after.files)).relations ≡ schemas
    x_relations =
        relations_by cat c.has after (tree_file i) c.leaves c.named schemas schemas_long (λ k inside. c.read.relations k inside ∙ was_relation cat c.has k inside)

    x_indexes : (catalog_of (whole_catalog after.files)).indexes ≡ now.indexes
    x_indexes = indexes_by cat c.has after (tree_file i) c.leaves c.named now.indexes c.sound.eight_indexes each_index

    x_relation : (k : ℕ) → relation after.files k ≡ get_or schemas k None
    unfolding mended_catalog
    x_relation k = ap (λ xs. get_or xs k None) x_relations

    x_read : (j : ℕ) → index_read after.files j ≡ get_or now.indexes j None
    x_read j = ap (λ xs. get_or xs j None) x_indexes

    x_here : index_read after.files i ≡ o
    x_here = x_read i ∙ c.here

    x_other : (j : ℕ) → j ≢ i → index_read after.files j ≡ get_or knowns j None
    x_other j differs = x_read j ∙ c.others j differs

    x_tree : (j : ℕ) → j < 8 → j ≢ i → is_there (tree_file j) after.files ≡ is_tree (index_read after.files j)
    x_tree j inside differs =
        tree_kept old after tables held opens r (tree_file i) c.leaves j inside (trees_apart j i differs) ∙ trees_there old tables held opens r told s j inside ∙ sym (ap is_tree (x_other j differs))

    x_rows : (k : ℕ) → k < 8 → is_there (rows_file k) after.files ≡ is_some (relation after.files k)
    x_rows k inside =
        rows_there_kept old after tables held opens r (tree_file i) c.leaves k inside (row_no_tree k i) ∙ rows_there old tables held opens r told s k inside ∙ sym (ap is_some (x_relation k))

    x_files : HoldsFiles after.files half
    x_files = record {
      rows_there = λ k inside used. ⊎_elim (λ (e : is_some (relation after.files k) ≡ true). x_rows k inside ∙ e) (λ e. absurd (c.not_emptied k e)) used;
      rows_lone = λ k inside there. inl (sym (x_rows k inside) ∙ there);
      tree_there = λ j inside used. ⊎_elim
          (λ (same : j ≡ i). subst (λ (m : ℕ). (is_there (tree_file m) after.files ≡ true) ⊎ (half ≡ Treeless m)) (sym same)
          (c.tree_there (ap is_tree (sym x_here ∙ ap (index_read after.files) (sym same)) ∙ used)))
          (λ (differs : j ≢ i). inl (x_tree j inside differs ∙ used))
          (cases_eq j i);
      tree_lone = λ j inside there. ⊎_elim
          (λ (same : j ≡ i). ⊎_elim
          (λ (e : is_tree o ≡ true). inl (ap is_tree (ap (index_read after.files) same ∙ x_here) ∙ e))
          (λ e. inr (e.0 ∙ ap LoneTree (sym same), ap (index_read after.files) same ∙ x_here ∙ e.1))
          (c.tree_lone (subst (λ (m : ℕ). is_there (tree_file m) after.files ≡ true) same there)))
          (λ (differs : j ≢ i). inl (sym (x_tree j inside differs) ∙ there))
          (cases_eq j i);
      grown = λ k e. absurd (c.not_grown k e);
      rows = λ k schema e.
          let was : get_or schemas k None ≡ Some schema = sym (x_relation k) ∙ e in
          let inside : k < 8 = let n = some_inside schemas k schema was in omega (arith, n, schemas_long) in
          inl (subst (AreRows (mended_catalog after.files).version schema.attributes) (sym (rows_bytes_kept old after tables held opens r (tree_file i) c.leaves k inside (row_no_tree k i)))
          (rows_later (c.later k schema was) r.version (one_or_two after.files) (were_rows k schema was)));
      keys = λ j x e.
          let at : index_read after.files j ≡ Some x = mended_read after.files j x e in
          inl (subst (λ (rs : List Row). IsIndexComplete x.kind (bytes_named (tree_file j) after.files) (keys x.attribute rs)) (sym (ap (λ (xs : List (Option Relation)). option_map_or (λ (z : Relation). z.rows) (get_or xs x.relation None) []) c.same_rows))
          (⊎_elim
          (λ (same : j ≡ i).
          subst (λ (m : ℕ). IsIndexComplete x.kind (bytes_named (tree_file m) after.files) (keys x.attribute (rows_in db x.relation))) (sym same)
          (c.key x (sym x_here ∙ ap (index_read after.files) (sym same) ∙ at) (ap (λ (m : ℕ). get_or (mended_catalog after.files).indexes m None) (sym same) ∙ e)))
          (λ (differs : j ≢ i).
          let was : get_or knowns j None ≡ Some x = sym (x_other j differs) ∙ at in
          let inside : j < 8 = let n = some_inside knowns j x was in omega (arith, n, knowns_long) in
          subst (λ (b : List ℕ). IsIndexComplete x.kind b (keys x.attribute (rows_in db x.relation))) (sym (tree_bytes_kept old after tables held opens r (tree_file i) c.leaves j inside (trees_apart j i differs)))
          (were_keys j x was))
          (cases_eq j i)));
    }

    pub index_cut : IsCutTable after.files
    index_cut = record {
      known = stranger_none after.files (c.leaves.known r.known);
      done = inr (
        half,
        half_by after.files half now (record {
          sound = c.sound;
          whole = c.whole;
          mark = c.mark;
          relations = x_relations ∙ sym (schemas_seen old.files held.relations) ∙ ap (λ xs. map (option_map schema_of) xs) (sym c.relations);
          indexes = x_indexes;
          slots = λ j inside. inl (c.slots j inside);
          index_slots = c.index_slots;
        }) x_files,
      );
    }

  -- ---- the rows of one relation, and its trees

  -- the catalog and all other files are as they were; the relation's file has other bytes, and its trees hold others
  pub record RowsCut (k : ℕ) (t : Tuples) (after : State) (half : Half) : Type 0 where
    pub there : get_or held.relations k None ≡ Some t
    pub spared : SparesOthers old after (StaysAt t.file (infos_of k t held.indexes))
    pub not_emptied : (j : ℕ) → half ≡ Emptying j → ⊥
    pub not_grown : (j : ℕ) → half ≡ Growing j → ⊥
    pub rows : HoldsRowsOr half held.version k t.schema.attributes (bytes_at after.files t.file)
    pub key : (i : ℕ) (x : Indexed) → get_or held.indexes i None ≡ Some x → x.relation ≡ k
        → IsIndexWhile half (index_known x) (bytes_named (tree_file i) after.files) (keys x.attribute (rows_of t.schema.attributes (bytes_at after.files t.file)))

  module _ (k : ℕ) (t : Tuples) (after : State) (half : Half) (c : RowsCut k t after half) where
    fs : IsSoundTable old.files
    fs = files_sound old tables held opens r told s

    as_read : AreReadAs after.files held
    as_read = read_spared old after tables held opens r told k t c.there c.spared

    was_bytes : List ℕ
    was_bytes = bytes_of_catalog old.files held.cat

    bytes_kept : catalog_bytes_in after.files ≡ catalog_bytes_in old.files
    bytes_kept =
        catalog_here old after tables held opens r told c.spared.named (catalog_stays old after tables held opens r told k t c.there c.spared held.cat r.catalog)
        ∙ sym (catalog_seen old tables held opens r told)

    -- a relation is there, so the catalog is not empty
    r_long : 1472 ≤ length (catalog_bytes_in old.files)
    r_long = by_size (size_held old tables held opens r told s)
      where
        seen_bytes : length (catalog_bytes_in old.files) ≡ length (bytes_of_catalog old.files held.cat)
        seen_bytes = ap length (catalog_seen old tables held opens r told)

        nothing : length (bytes_of_catalog old.files held.cat) ≡ 0 → ⊥
        nothing none =
            let empty : catalog_bytes_in old.files ≡ [] = nil_from_length (catalog_bytes_in old.files) (seen_bytes ∙ none) in
            let no : get_or schemas k None ≡ None = sym (ap (λ (z : Slots). get_or z.relations k None) (catalog_is old tables held opens r told)) ∙ no_relation old.files fs empty k in
            let some : get_or schemas k None ≡ Some t.schema = seen_at schema_in held.relations k ∙ ap (option_map schema_in) c.there in
            none_some t.schema (sym no ∙ some)

        by_size : IsCatalogSize (length (bytes_of_catalog old.files held.cat)) → 1472 ≤ length (catalog_bytes_in old.files)
        by_size (inl none) = absurd (nothing none)
        by_size (inr (inl e)) = omega (arith, e, seen_bytes)
        by_size (inr (inr e)) = omega (arith, e, seen_bytes)

    before_mark : (has_form (catalog_bytes_in old.files) ≡ true) × (version_of (catalog_bytes_in old.files) ≡ (mended_catalog old.files).version)
    before_mark = sound_mark old.files fs r_long

    version_kept : (mended_catalog after.files).version ≡ (mended_catalog old.files).version
    unfolding mended_catalog
    version_kept = ap (λ (b : List ℕ). mended_version (whole_bytes b)) bytes_kept

    version_held : (mended_catalog after.files).version ≡ held.version
    version_held = version_kept ∙ sym before_mark.1 ∙ ap (λ (z : Slots). z.version) (catalog_is old tables held opens r told)

    r_whole : whole_catalog after.files ≡ was_bytes
    unfolding was_bytes
    r_whole = ap whole_bytes (bytes_kept ∙ catalog_seen old tables held opens r told) ∙ whole_sized (bytes_of_catalog old.files held.cat) (size_held old tables held opens r told s)

    r_written : IsWritten (whole_catalog after.files)
    unfolding was_bytes
    r_written =
        let some : 0 < length (bytes_of_catalog old.files held.cat) = let e = ap length (catalog_seen old tables held opens r told) in omega (arith, e, r_long) in
        subst IsWritten (sym r_whole) (r.written told some)

    r_relation : (j : ℕ) → relation after.files j ≡ get_or schemas j None
    unfolding mended_catalog
    r_relation j = ap (λ xs. get_or xs j None) as_read.relations

    r_index : (i : ℕ) → index_read after.files i ≡ get_or knowns i None
    r_index i = ap (λ xs. get_or xs i None) as_read.indexes

    r_slots : HoldsSlots after.files half db
    unfolding mended_catalog
    r_slots = record {
      sound = s;
      whole = subst (λ (b : List ℕ). 1472 ≤ length b) (sym bytes_kept) r_long;
      mark = inl (ap has_form bytes_kept ∙ before_mark.0, ap version_of bytes_kept ∙ before_mark.1 ∙ sym version_kept);
      relations = as_read.relations ∙ sym (schemas_seen old.files held.relations);
      indexes = as_read.indexes;
      slots = λ j inside. inl (r_written.relations j inside ∙ ap relation_slot_bytes (sym (get_or-map-range_with_len (relation_at (whole_catalog after.files)) 0 8 j j None inside (omega arith))));
      index_slots = r_written.indexes;
    }

    at_name : (id : ℕ) (name : List ℕ) → IsNamed after.files id name → file_named name after.files ≡ Some (file_at after.files id)
    at_name id name n =
        named_found after.files id name n (λ j also. distinct_spared old after _ c.spared r.distinct j id name also n) ∙ place_live after.files id (named_live after.files id name n)

    r_row : (j : ℕ) → j < 8 → is_there (rows_file j) after.files ≡ is_some (get_or schemas j None)
    r_row j inside = by_slot (get_or held.relations j None) (r.relations j inside) ∙ ap is_some (sym (seen_at schema_in held.relations j))
      where
        by_slot : (o : Option Tuples) → IsRelationSlot old held.version j o → is_there (rows_file j) after.files ≡ is_some (option_map schema_in o)
        by_slot None h = ap is_some (named_none after.files (rows_file j) (unnamed_spared old after _ (rows_file j) c.spared h))
        by_slot (Some u) h = ap is_some (at_name u.file (rows_file j) (named_spared old after _ u.file (rows_file j) c.spared h.named))

    r_tree : (i : ℕ) → i < 8 → is_there (tree_file i) after.files ≡ is_tree (get_or knowns i None)
    r_tree i inside = by_slot (get_or held.indexes i None) refl (r.indexes i inside) ∙ ap is_tree (sym (seen_at index_known held.indexes i))
      where
        by_access : (x : Indexed) (access : Access) → HasFile old.files i access → is_there (tree_file i) after.files ≡ is_tree (Some (record { kind = access_kind access; relation = x.relation; attribute = x.attribute }))
        by_access x Order h = ap is_some (named_none after.files (tree_file i) (unnamed_spared old after _ (tree_file i) c.spared h))
        by_access x (Tree g) h = ap is_some (at_name g (tree_file i) (named_spared old after _ g (tree_file i) c.spared h))
        by_access x (InTable number) h = ap is_some (named_none after.files (tree_file i) (unnamed_spared old after _ (tree_file i) c.spared h))

        by_slot : (o : Option Indexed) → get_or held.indexes i None ≡ o → IsIndexSlot old tables held i o → is_there (tree_file i) after.files ≡ is_tree (option_map index_known o)
        by_slot None e h = ap is_some (named_none after.files (tree_file i) (unnamed_spared old after _ (tree_file i) c.spared h))
        by_slot (Some x) e h = by_access x x.access (index_there old tables held opens r i x e).indexed.file

    -- rows of a relation, by what is held
    rows_seen : (files : Table) (j : ℕ) (u : Tuples) → get_or held.relations j None ≡ Some u → rows_in (view files held opens) j ≡ rows files u
    rows_seen files j u e = ap (λ (q : Option Relation). option_map_or (λ (z : Relation). z.rows) q []) (seen (relation_of_rows files) held.relations j u e)

    rows_mended : (j : ℕ) (u : Tuples) → get_or held.relations j None ≡ Some u → rows_in (mended_base after.files) j ≡ rows after.files u
    rows_mended j u e = ap (λ (d : Database). rows_in d j) (read_alike after.files held as_read opens) ∙ rows_seen after.files j u e

    other_bytes : (j : ℕ) (u : Tuples) → j ≢ k → get_or held.relations j None ≡ Some u → bytes_at after.files u.file ≡ bytes_at old.files u.file
    other_bytes j u differs e = bytes_by old.files after.files u.file (c.spared.others u.file (rows_stay old tables held opens r j k u t differs e c.there))

    other_tree : (i : ℕ) (y : Indexed) (access : Access) (ks : List ℤ) → get_or held.indexes i None ≡ Some y → y.relation ≢ k → HasFile old.files i access
        → IsIndexComplete (access_kind access) (bytes_named (tree_file i) old.files) ks → IsIndexComplete (access_kind access) (bytes_named (tree_file i) after.files) ks
    other_tree i y Order ks e differs h complete = complete
    other_tree i y (Tree g) ks e differs h complete =
        let now : bytes_named (tree_file i) after.files ≡ bytes_at after.files g = ap bytes_in_file (at_name g (tree_file i) (named_spared old after _ g (tree_file i) c.spared h)) in
        let same : bytes_at after.files g ≡ bytes_at old.files g = bytes_by old.files after.files g (c.spared.others g (tree_stays old tables held opens r k i g t y e differs c.there h)) in
        let was : bytes_named (tree_file i) old.files ≡ bytes_at old.files g = named_bytes old tables held opens r told g (tree_file i) h in
        let P : List ℕ → Type 0 = λ b. IsIndexComplete (access_kind (Tree g)) b ks in
        subst P (was ∙ sym same ∙ sym now) complete
    other_tree i y (InTable number) ks e differs h complete = complete

    r_files : HoldsFiles after.files half
    r_files = record {
      rows_there = λ j inside used. ⊎_elim (λ (e : is_some (relation after.files j) ≡ true). r_row j inside ∙ sym (ap is_some (r_relation j)) ∙ e) (λ e. absurd (c.not_emptied j e)) used;
      rows_lone = λ j inside there. inl (ap is_some (r_relation j) ∙ sym (r_row j inside) ∙ there);
      tree_there = λ i inside used. inl (r_tree i inside ∙ sym (ap is_tree (r_index i)) ∙ used);
      tree_lone = λ i inside there. inl (ap is_tree (r_index i) ∙ sym (r_tree i inside) ∙ there);
      grown = λ j e. absurd (c.not_grown j e);
      rows = λ j schema e.
          let from = seen_back schema_in held.relations j schema (sym (r_relation j) ∙ e) in
          let u = from.from in
          let P : Schema → Type 0 = λ z. HoldsRowsOr half (mended_catalog after.files).version j z.attributes (bytes_named (rows_file j) after.files) in
          subst P from.is (subst (λ (v : ℕ). HoldsRowsOr half v j u.schema.attributes (bytes_named (rows_file j) after.files)) (sym version_held)
          (subst (λ (b : List ℕ). HoldsRowsOr half held.version j u.schema.attributes b) (sym (as_read.rows j u from.there))
          (⊎_elim
          (λ (same : j ≡ k).
          let is : u ≡ t = some_same u t (sym from.there ∙ ap (λ (m : ℕ). get_or held.relations m None) same ∙ c.there) in
          subst (λ (m : ℕ). HoldsRowsOr half held.version m u.schema.attributes (bytes_at after.files u.file)) (sym same)
          (subst (λ (z : Tuples). HoldsRowsOr half held.version k z.schema.attributes (bytes_at after.files z.file)) (sym is) c.rows))
          (λ (differs : j ≢ k).
          let seen_rows : AreRows held.version u.schema.attributes (bytes_named (rows_file j) old.files) = were_rows j u.schema (seen schema_in held.relations j u from.there) in
          let was : bytes_named (rows_file j) old.files ≡ bytes_at old.files u.file = named_bytes old tables held opens r told u.file (rows_file j) (relation_there old tables held opens r j u from.there).named in
          inl (subst (AreRows held.version u.schema.attributes) (was ∙ sym (other_bytes j u differs from.there)) seen_rows))
          (cases_eq j k))));
      keys = λ i x e.
          let at : get_or knowns i None ≡ Some x = sym (r_index i) ∙ mended_read after.files i x e in
          let from = seen_back index_known held.indexes i x at in
          let y = from.from in
          let on = index_there old tables held opens r i y from.there in
          let Q : Index → Type 0 = λ z. IsIndexWhile half z (bytes_named (tree_file i) after.files) (keys z.attribute (rows_in (mended_base after.files) z.relation)) in
          subst Q from.is (⊎_elim
          (λ (same : y.relation ≡ k).
          let now : rows_in (mended_base after.files) y.relation ≡ rows after.files t = ap (rows_in (mended_base after.files)) same ∙ rows_mended k t c.there in
          subst (λ (rs : List Row). IsIndexWhile half (index_known y) (bytes_named (tree_file i) after.files) (keys y.attribute rs)) (sym now) (c.key i y from.there same))
          (λ (differs : y.relation ≢ k).
          let u = on.tuples in
          let now : rows_in (mended_base after.files) y.relation ≡ rows_in db y.relation =
          rows_mended y.relation u on.is ∙ ap (rows_of u.schema.attributes) (other_bytes y.relation u differs on.is) ∙ sym (rows_seen old.files y.relation u on.is) in
          subst (λ (rs : List Row). IsIndexWhile half (index_known y) (bytes_named (tree_file i) after.files) (keys y.attribute rs)) (sym now)
          (inl (other_tree i y y.access (keys y.attribute (rows_in db y.relation)) from.there differs on.indexed.file (were_keys i (index_known y) (seen index_known held.indexes i y from.there)))))
          (cases_eq y.relation k));
    }

    pub rows_cut : IsCutTable after.files
    rows_cut = record {
      known = stranger_none after.files (known_spared old after _ c.spared r.known);
      done = inr (half, half_by after.files half db r_slots r_files);
    }

-- a command that failed has left its files as they were
pub same_between : {V : Type 0} (v : FilesOf V) (command : Command) (base : Base V) (files : V) → Runs v base → IsTrue v.cuts → Tells v base → IsSoundDatabase (database v base)
    → v.state files ≡ v.state base.files → MendsBetween v files (database v base) command
same_between v command base files r cuts told sound same = record {
  files = (v.state base.files).files;
  mends_to = subst (λ (s : State). v.mends s.store (v.state base.files).files) (sym same) (v.mended base.files cuts told);
  cut = cut_held (v.state base.files) base.tables base.held base.opens r told sound;
  is = inl (running_alike (v.state base.files) base.tables base.held base.opens r told);
}
