-- The catalog of a session changes, and at most one other file comes, changes or goes.
use Rattle.std.proofs.Common.{◌≡◌, ◌≢◌, ℕ, ◌/◌, ◌<◌, ◌≤◌, ◌⊎◌, List, [], ◌∷◌, length, map, set, get_or, Option, Some, None, unwrap_or, refl, ap, sym, ◌∙◌, subst, arith, inl, inr, IsTrue, is_some, ℤ}
use Rattle.std.specs.Prelude.{option_map}
use Rattle.std.specs.List.{AllByRecursion}
use Rattle.std.proofs.Math.Logic.{⊎_elim}
use Rattle.std.proofs.lemmas.Bool.{cases_eq}
use Rattle.std.proofs.lemmas.Bool.Decides.{nat_tests}
use Rattle.std.proofs.lemmas.List.{get_or-set_other, get_or-set_same, length-set, map-set}
use Rattle.afl_base.specs.Files.{Creates, File, IsNamed, IsUnnamed, KeepsBytes, State, Table, bytes_at, new_file, no_file, place}
use Rattle.afl_base.specs.declared.kind.Kind.TheVariants.{Fixed}
use Rattle.afl_base.proofs.FileLaws.{file_here, named_here, named_live}
use Rattle.afl_base.proofs.FrameLaws.{becomes_spares}
use Rattle.catalog.specs.CatalogFile.{IsCatalogSize}
use Rattle.catalog.specs.Catalogs.{index_replaced, relation_replaced}
use Rattle.catalog.proofs.Replaced.{IsReadBack, index_changed, relation_changed}
use Rattle.db_model.specs.declared.schemas.Schema.{Schema}
use Rattle.db_model.specs.Catalog.{Catalog as Slots, Index, catalog_of, with_index_slot, with_relation_slot}
use Rattle.db_model.specs.Database.{with_index, with_relation}
use Rattle.db_model.specs.Row.{Row, no_row, row_length, rows_of}
use Rattle.db_model.specs.Step.{keys, slots_limit}
use Rattle.index_set.specs.declared.candidates.Search.{Search}
use Rattle.index_set.specs.declared.candidates.Search.TheVariants as by
use Rattle.index_set.specs.declared.info.Access.{Access}
use Rattle.index_set.specs.declared.info.Access.TheVariants.{Order, Tree, Table as InTable}
use Rattle.index_set.specs.declared.info.IndexInfo.{IndexInfo}
use Rattle.index_set.specs.declared.info.TableId.{TableId}
use Rattle.index_set.specs.declared.info.TableId.TheVariants.{First, Second}
use Rattle.index_set.specs.Complete.{IsComplete, IsHeld}
use Rattle.index_set.specs.Inserts.{IsElsewhere}
use Rattle.index_set.specs.Tables.{Tables, entries}
use Rattle.index_set.specs.Walks.{RowsGrow, Waits}
use Rattle.index_tree.specs.Trees.{IsTreeOf}
use Rattle.space_model.specs.FileNames.{catalog_file, rows_file, tree_file}
use Rattle.tuple_file.specs.declared.tuples.Tuples.{Tuples}
use Rattle.tuple_file.specs.Tuples.{rows, slots}
use Rattle.session_model.specs.declared.held.Held.{Held}
use Rattle.session_model.specs.declared.held.Indexed.{Indexed}
use Rattle.session_model.specs.declared.held.Open.{Open}
use Rattle.session_model.specs.declared.held.Open.TheVariants.{Select, Join}
use Rattle.session_model.specs.Frames.{HasBytes, LeavesOthers, schema_in, with_indexed, with_tuples}
use Rattle.session_model.specs.Indexed.{index_known}
use Rattle.session_model.specs.Running.{HasCatalogFile, HasFile, IndexStands, IsCursorSlot, IsIndexedOn, IsIndexSlot, IsRelationSlot, IsRunning, IsSide, IsWritten, IsWrittenOrEmpty, ReadsRows, StandsAs, bytes_of_catalog}
use Rattle.session_model.specs.View.{cursor_in, relation_of_file, relation_of_rows, view}
use Rattle.session_model.proofs.Cursors.{cursor_kept}
use Rattle.session_model.proofs.Leaves.{leaves_becomes, leaves_catalog}
use Rattle.session_model.proofs.Running.{bytes_by, catalog_no_rows, catalog_no_tree, differ, index_there, relation_there, row_no_tree, rows_apart, trees_apart}
use Rattle.session_model.proofs.Views.{mapped_put, mapped_same}
use Rattle.session_model.proofs.Written.{index_written, relation_written}
use Rattle.tuple_file.proofs.Holding.{holds_by}
use Rattle.padded.proofs.Facts.{some_inside}

-- ---- files that stay

pub named_at : (a b : Table) (id : ℕ) (n : List ℕ) → place b id ≡ place a id → IsNamed a id n → IsNamed b id n
named_at a b id n e is = ap (λ (o : Option File). name_of o) e ∙ is
  where
    name_of : Option File → Option (List ℕ)
    name_of None = None
    name_of (Some f) = Some f.name

pub limit_grows : (v : ℕ) → slots_limit v ≤ slots_limit 2
limit_grows v = grind (arith, nat_tests)

-- what a cursor may count on: each relation of which it reads rows is held as before, and so are its indexes
pub record StaysFor (name : List ℕ) (held now : Held) (o : Open) : Type 0 where
  pub relation : (j : ℕ) (s : Tuples) → ReadsRows o s → get_or held.relations j None ≡ Some s → (rows_file j ≢ name) × (get_or now.relations j None ≡ Some s)
  pub index : (j : ℕ) (s : Tuples) → ReadsRows o s → get_or held.relations j None ≡ Some s
      → (m : ℕ) (x : Indexed) → get_or held.indexes m None ≡ Some x → x.relation ≡ j → get_or now.indexes m None ≡ Some x

module _ (old new : State) (before after : Tables) (held : Held) (opens : List (Option Open)) (r : IsRunning old before held opens) (name : List ℕ) (l : LeavesOthers old new name) where
  pub rows_place : (j : ℕ) (s : Tuples) → get_or held.relations j None ≡ Some s → rows_file j ≢ name → place new.files s.file ≡ place old.files s.file
  rows_place j s e other = l.others s.file (rows_file j) (relation_there old before held opens r j s e).named (λ same. catalog_no_rows j (sym same)) other

  pub tree_place : (i g : ℕ) → IsNamed old.files g (tree_file i) → tree_file i ≢ name → place new.files g ≡ place old.files g
  tree_place i g named other = l.others g (tree_file i) named (λ same. catalog_no_tree i (sym same)) other

  pub rows_same : (j : ℕ) (s : Tuples) → get_or held.relations j None ≡ Some s → rows_file j ≢ name → rows new.files s ≡ rows old.files s
  rows_same j s e other = ap (rows_of s.schema.attributes) (bytes_by old.files new.files s.file (rows_place j s e other))

  pub slots_same : (j : ℕ) (s : Tuples) → get_or held.relations j None ≡ Some s → rows_file j ≢ name → slots new.files s ≡ slots old.files s
  slots_same j s e other = ap (λ (xs : List ℕ). length xs / row_length s.schema.attributes) (bytes_by old.files new.files s.file (rows_place j s e other))

  pub kept_relation : (v : ℕ) → slots_limit held.version ≤ slots_limit v → (j : ℕ) (o : Option Tuples) → get_or held.relations j None ≡ o → rows_file j ≢ name
      → IsRelationSlot old held.version j o → IsRelationSlot new v j o
  kept_relation v limit j None e other h = l.unnamed (rows_file j) (λ same. catalog_no_rows j (sym same)) other h
  kept_relation v limit j (Some s) e other h = record {
    holds = holds_by old new s (rows_place j s e other) l.tells h.holds;
    named = named_at old.files new.files s.file (rows_file j) (rows_place j s e other) h.named;
    few = omega (arith, h.few, limit, slots_same j s e other);
  }

  pub kept_held : (i n m : ℕ) (access : Access) → tree_file i ≢ name → ((number : TableId) → access ≡ InTable number → entries after number ≡ entries before number)
      → HasFile old.files i access → n ≡ m → IsHeld old before n access → IsHeld new after m access
  kept_held i n m Order other table file same h = tt
  kept_held i n m (Tree g) other table file same h =
      let P : Option File → Type 0 = λ o. IsTrue (is_some o) in
      (subst P (sym (tree_place i g file other)) h.0, ap (λ (o : Option File). (unwrap_or o no_file).kind) (tree_place i g file other) ∙ h.1)
  kept_held i n m (InTable number) other table file same h = (h.0, ap (λ (zs : List ℤ). length zs) (table number refl) ∙ h.1 ∙ same)

  pub kept_file : (i : ℕ) (access : Access) → tree_file i ≢ name → HasFile old.files i access → HasFile new.files i access
  kept_file i Order other h = l.unnamed (tree_file i) (λ same. catalog_no_tree i (sym same)) other h
  kept_file i (Tree g) other h = named_at old.files new.files g (tree_file i) (tree_place i g h other) h
  kept_file i (InTable number) other h = l.unnamed (tree_file i) (λ same. catalog_no_tree i (sym same)) other h

  pub kept_complete : (i : ℕ) (ks : List ℤ) (access : Access) → tree_file i ≢ name → ((number : TableId) → access ≡ InTable number → entries after number ≡ entries before number)
      → HasFile old.files i access → IsComplete old before access ks → IsComplete new after access ks
  kept_complete i ks Order other table file h = h
  kept_complete i ks (Tree g) other table file h = let P : List ℕ → Type 0 = λ bytes. IsTreeOf bytes ks in subst P (sym (bytes_by old.files new.files g (tree_place i g file other))) h
  kept_complete i ks (InTable number) other table file h = table number refl ∙ h

  pub kept_index : (i : ℕ) (x : Indexed) → get_or held.indexes i None ≡ Some x → tree_file i ≢ name → rows_file x.relation ≢ name
      → ((number : TableId) → x.access ≡ InTable number → entries after number ≡ entries before number) → IsIndexedOn new after i x (get_or held.relations x.relation None)
  kept_index i x e other away table =
      let o = index_there old before held opens r i x e in
      let s = o.tuples in
      let d = o.indexed in
      let P : Option Tuples → Type 0 = λ z. IsIndexedOn new after i x z in
      let R : List Row → Type 0 = λ all. IsComplete new after x.access (keys x.attribute all) in
      subst P (sym o.is) (record {
        allowed = d.allowed;
        place = d.place;
        held = kept_held i (slots old.files s) (slots new.files s) x.access other table d.file (sym (slots_same x.relation s o.is away)) d.held;
        file = kept_file i x.access other d.file;
        complete = λ t. subst R (sym (rows_same x.relation s o.is away)) (kept_complete i (keys x.attribute (rows old.files s)) x.access other table d.file (d.complete (sym l.tells ∙ t)));
      })

  -- ---- cursors

  kept_stands : (now : Held) → (k : ℕ) → ((m : ℕ) (x : Indexed) → get_or held.indexes m None ≡ Some x → x.relation ≡ k → get_or now.indexes m None ≡ Some x)
      → (s : Search) → IndexStands held k s → IndexStands now k s
  kept_stands now k there (by.Tree attribute file key) h = record {
    slot = h.slot;
    index = h.index;
    there = there h.slot h.index h.there h.relation;
    relation = h.relation;
    place = h.place;
    access_is = h.access_is;
  }
  kept_stands now k there (by.Table attribute number key) h = record {
    slot = h.slot;
    index = h.index;
    there = there h.slot h.index h.there h.relation;
    relation = h.relation;
    place = h.place;
    access_is = h.access_is;
  }
  kept_stands now k there by.Nothing h = tt
  kept_stands now k there by.Scan h = tt
  kept_stands now k there (by.Order attribute range) h = tt

  kept_side : (now : Held) (o : Open) (t : Tuples) (n : ℕ) → StaysFor name held now o → ReadsRows o t → IsSide old held t n → IsSide new now t n
  kept_side now o t n stays reads is = record {
    slot = is.slot;
    there = (stays.relation is.slot t reads is.there).1;
    few = omega (arith, is.few, slots_same is.slot t is.there (stays.relation is.slot t reads is.there).0);
  }

  kept_infos : (now : Held) (k : ℕ) (t : Tuples) → ((m : ℕ) (x : Indexed) → get_or held.indexes m None ≡ Some x → x.relation ≡ k → get_or now.indexes m None ≡ Some x)
      → (infos : List IndexInfo) → AllByRecursion (StandsAs held k t) infos → AllByRecursion (StandsAs now k t) infos
  kept_infos now k t there [] h = tt
  kept_infos now k t there (info ∷ infos) h =
      let s = h.0 in
      (record { slot = s.slot; index = s.index; there = there s.slot s.index s.there s.relation; relation = s.relation; is = s.is }, kept_infos now k t there infos h.1)

  pub kept_cursor : (now : Held) (o : Option Open) → ((p : Open) → o ≡ Some p → StaysFor name held now p) → IsCursorSlot old held o → IsCursorSlot new now o
  unfolding kept_side
  kept_cursor now None stays h = h
  kept_cursor now (Some (Select c)) stays h =
      let st = stays (Select c) refl in
      record {
        rests = h.rests;
        goes_on = λ some. let is = h.goes_on some in
            let still = st.relation is.slot c.cursor.tuples (some, refl) is.there in
            record {
              slot = is.slot;
              there = still.1;
              few = omega (arith, is.few, slots_same is.slot c.cursor.tuples is.there still.0);
              waits = λ t. subst (λ (all : List Row). Waits c.cursor.candidates all) (sym (rows_same is.slot c.cursor.tuples is.there still.0)) (is.waits (sym l.tells ∙ t));
              index = kept_stands now is.slot (st.index is.slot c.cursor.tuples (some, refl) is.there) c.cursor.candidates.search is.index;
            };
      }
  kept_cursor now (Some (Join c)) stays h =
      let st = stays (Join c) refl in
      record {
        rests = h.rests;
        within = h.within;
        left = λ some. kept_side now (Join c) c.cursor.left c.cursor.left_slots st (inl (some, refl)) (h.left some);
        right = λ some. let is = h.right some in
            record {
              side = kept_side now (Join c) c.cursor.right c.cursor.right_slots st (inr (some, refl)) is.side;
              indexes = kept_infos now is.side.slot c.cursor.right (st.index is.side.slot c.cursor.right (inr (some, refl)) is.side.there) c.cursor.right_indexes is.indexes;
            };
      }

  -- ---- what is seen

  pub same_relation : (j : ℕ) (s : Tuples) → rows_file j ≢ name → get_or held.relations j None ≡ Some s → relation_of_rows new.files s ≡ relation_of_rows old.files s
  same_relation j s other e = ap (λ (o : Option File). relation_of_file o s.schema) (rows_place j s e other)

  pub same_rows_grow : (j : ℕ) (s : Tuples) → get_or held.relations j None ≡ Some s → rows_file j ≢ name → RowsGrow (rows old.files s) (rows new.files s)
  same_rows_grow j s e other =
      let same = rows_same j s e other in
      record { more = omega (arith, ap (λ (rs : List Row). length rs) same); same = λ i below. ap (λ (rs : List Row). get_or rs i no_row) same }

  pub same_cursor : (now : Held) → IsTrue old.tells → (n : ℕ) (o : Open) → get_or opens n None ≡ Some o → StaysFor name held now o → cursor_in new.files o ≡ cursor_in old.files o
  same_cursor now t n o e stays =
      let P : Option Open → Type 0 = λ z. IsCursorSlot old held z in
      cursor_kept old new held o t (subst P e (r.cursors n (omega (arith, some_inside opens n o e, r.four))))
      (λ k s reads there. same_rows_grow k s there (stays.relation k s reads there).0)

-- ---- the catalog's file changes, and what it says does not

cat_there : (files : Table) (o : Option ℕ) (cat : ℕ) → o ≡ Some cat → HasCatalogFile files o → HasCatalogFile files (Some cat)
cat_there files o cat has h = let P : Option ℕ → Type 0 = λ z. HasCatalogFile files z in subst P has h

-- what the catalog's file is
pub catalog_there : (state : State) (tables : Tables) (held : Held) (opens : List (Option Open)) (cat : ℕ) → IsRunning state tables held opens → held.cat ≡ Some cat → HasCatalogFile state.files (Some cat)
catalog_there state tables held opens cat r has = cat_there state.files held.cat cat has r.catalog

pub bytes_there : (files : Table) (o : Option ℕ) (cat : ℕ) → o ≡ Some cat → bytes_of_catalog files o ≡ bytes_at files cat
bytes_there files o cat has = ap (bytes_of_catalog files) has

module _ (old new : State) (tables : Tables) (held now : Held) (opens : List (Option Open)) (r : IsRunning old tables held opens) (l : LeavesOthers old new catalog_file) (idle : new.draft ≡ None)
    (version : now.version ≡ held.version) (relations : now.relations ≡ held.relations) (indexes : now.indexes ≡ held.indexes)
    (has : HasCatalogFile new.files now.cat) (same : IsTrue old.tells → bytes_of_catalog new.files now.cat ≡ bytes_of_catalog old.files held.cat) where
  pub no_rows : (j : ℕ) → rows_file j ≢ catalog_file
  no_rows j e = catalog_no_rows j (sym e)

  pub no_tree : (i : ℕ) → tree_file i ≢ catalog_file
  no_tree i e = catalog_no_tree i (sym e)

  pub stays : (o : Open) → StaysFor catalog_file held now o
  stays o = record {
    relation = λ j s reads there. (no_rows j, ap (λ (rs : List (Option Tuples)). get_or rs j None) relations ∙ there);
    index = λ j s reads there m x e rel. ap (λ (xs : List (Option Indexed)). get_or xs m None) indexes ∙ e;
  }

  relation_slot : (j : ℕ) → j < 8 → IsRelationSlot new now.version j (get_or now.relations j None)
  relation_slot j below =
      let P : List (Option Tuples) → Type 0 = λ rs. IsRelationSlot new now.version j (get_or rs j None) in
      subst P (sym relations)
      (kept_relation old new tables tables held opens r catalog_file l now.version (subst (λ (v : ℕ). slots_limit held.version ≤ slots_limit v) (sym version) (omega arith)) j
      (get_or held.relations j None) refl (no_rows j) (r.relations j below))

  index_kept : (i : ℕ) (o : Option Indexed) → get_or held.indexes i None ≡ o → IsIndexSlot old tables held i o → IsIndexSlot new tables held i o
  index_kept i None e h = l.unnamed (tree_file i) (no_tree i) (no_tree i) h
  index_kept i (Some x) e h = kept_index old new tables tables held opens r catalog_file l i x e (no_tree i) (no_rows x.relation) (λ number is. refl)

  index_now : (i : ℕ) (o : Option Indexed) → IsIndexSlot new tables held i o → IsIndexSlot new tables now i o
  index_now i None h = h
  index_now i (Some x) h =
      let P : List (Option Tuples) → Type 0 = λ rs. IsIndexedOn new tables i x (get_or rs x.relation None) in
      subst P (sym relations) h

  pub catalog_kept : IsRunning new tables now opens
  catalog_kept = record {
    idle = idle;
    distinct = l.distinct r.distinct;
    known = l.known r.known;
    version = subst (λ (v : ℕ). (v ≡ 1) ⊎ (v ≡ 2)) (sym version) r.version;
    eight = ap (λ (rs : List (Option Tuples)). length rs) relations ∙ r.eight;
    eight_indexes = ap (λ (xs : List (Option Indexed)). length xs) indexes ∙ r.eight_indexes;
    four = r.four;
    relations = relation_slot;
    indexes = λ i below. let P : List (Option Indexed) → Type 0 = λ xs. IsIndexSlot new tables now i (get_or xs i None) in
        subst P (sym indexes) (index_now i (get_or held.indexes i None) (index_kept i (get_or held.indexes i None) refl (r.indexes i below)));
    apart = λ i j x y other a b. r.apart i j x y other (ap (λ (xs : List (Option Indexed)). get_or xs i None) (sym indexes) ∙ a) (ap (λ (xs : List (Option Indexed)). get_or xs j None) (sym indexes) ∙ b);
    cursors = λ n below. kept_cursor old new tables tables held opens r catalog_file l now (get_or opens n None) (λ p e. stays p) (r.cursors n below);
    catalog = has;
    listed = λ told. let before = sym l.tells ∙ told in
        ap catalog_of (same before) ∙ r.listed before
        ∙ sym (λ p. record { version = version p; relations = map (option_map schema_in) (relations p); indexes = map (option_map index_known) (indexes p) });
    written = λ told. let before = sym l.tells ∙ told in subst IsWrittenOrEmpty (sym (same before)) (r.written before);
  }

  pub catalog_view : IsTrue old.tells → view new.files now opens ≡ view old.files held opens
  catalog_view told =
      let rs : map (option_map (relation_of_rows new.files)) now.relations ≡ map (option_map (relation_of_rows old.files)) held.relations =
      ap (map (option_map (relation_of_rows new.files))) relations
      ∙ mapped_same (relation_of_rows new.files) (relation_of_rows old.files) held.relations (λ j s e. same_relation old new tables tables held opens r catalog_file l j s (no_rows j) e) in
      let cs : map (option_map (cursor_in new.files)) opens ≡ map (option_map (cursor_in old.files)) opens =
      mapped_same (cursor_in new.files) (cursor_in old.files) opens (λ n o e. same_cursor old new tables tables held opens r catalog_file l now told n o e (stays o)) in
      λ p. record { version = version p; relations = rs p; indexes = map (option_map index_known) (indexes p); cursors = cs p }

-- room was made in the catalog
module _ (old new : State) (tables : Tables) (held : Held) (opens : List (Option Open)) (r : IsRunning old tables held opens) (cat : ℕ) (has : held.cat ≡ Some cat) (u : KeepsBytes old new cat) where
  room_leaves : LeavesOthers old new catalog_file
  room_leaves = leaves_becomes old new cat _ _ catalog_file ((catalog_there old tables held opens cat r has).0) u

  room_catalog : HasCatalogFile new.files held.cat
  room_catalog =
      let h = catalog_there old tables held opens cat r has in
      let P : Option ℕ → Type 0 = λ o. HasCatalogFile new.files o in
      subst P (sym has)
      ((becomes_spares old new cat _ _ (named_live old.files cat catalog_file h.0) u).named cat ∙ h.0, subst IsCatalogSize (sym u.size) h.1, u.kind ∙ h.2)

  room_bytes : IsTrue old.tells → bytes_of_catalog new.files held.cat ≡ bytes_of_catalog old.files held.cat
  room_bytes told = bytes_there new.files held.cat cat has ∙ u.bytes told ∙ sym (bytes_there old.files held.cat cat has)

  pub room_running : IsRunning new tables held opens
  room_running = catalog_kept old new tables held held opens r room_leaves (u.draft ∙ r.idle) refl refl refl room_catalog room_bytes

  pub room_view : IsTrue old.tells → view new.files held opens ≡ view old.files held opens
  room_view told = catalog_view old new tables held held opens r room_leaves (u.draft ∙ r.idle) refl refl refl room_catalog room_bytes told

-- an empty catalog was made where there was none
abbrev pub with_catalog : Held → ℕ → Held
with_catalog held id = record { version = held.version; cat = Some id; relations = held.relations; indexes = held.indexes }

module _ (old new : State) (tables : Tables) (held : Held) (opens : List (Option Open)) (r : IsRunning old tables held opens) (none : held.cat ≡ None) (id : ℕ) (u : Creates old new id catalog_file (Fixed 6)) where
  unnamed_catalog : IsUnnamed old.files catalog_file
  unnamed_catalog = let P : Option ℕ → Type 0 = λ o. HasCatalogFile old.files o in subst P none r.catalog

  made_leaves : LeavesOthers old new catalog_file
  made_leaves = leaves_catalog old new id catalog_file unnamed_catalog u

  made_empty : bytes_at new.files id ≡ []
  made_empty = ap (λ (f : File). f.bytes) (file_here new.files id (new_file catalog_file (Fixed 6)) u.file)

  made_catalog : HasCatalogFile new.files (Some id)
  made_catalog = (
    named_here new.files id (new_file catalog_file (Fixed 6)) u.file,
    inl (ap (λ (xs : List ℕ). length xs) made_empty),
    ap (λ (f : File). f.kind) (file_here new.files id (new_file catalog_file (Fixed 6)) u.file),
  )

  made_bytes : IsTrue old.tells → bytes_of_catalog new.files (Some id) ≡ bytes_of_catalog old.files held.cat
  made_bytes told = made_empty ∙ sym (ap (bytes_of_catalog old.files) none)

  pub made_running : IsRunning new tables (with_catalog held id) opens
  made_running = catalog_kept old new tables held (with_catalog held id) opens r made_leaves (u.draft ∙ r.idle) refl refl refl made_catalog made_bytes

  pub made_view : IsTrue old.tells → view new.files (with_catalog held id) opens ≡ view old.files held opens
  made_view told = catalog_view old new tables held (with_catalog held id) opens r made_leaves (u.draft ∙ r.idle) refl refl refl made_catalog made_bytes told

-- ---- an index has come or gone

elsewhere_back : (a b : Access) → IsElsewhere a b → IsElsewhere b a
elsewhere_back Order Order h = tt
elsewhere_back Order (Tree g) h = tt
elsewhere_back Order (InTable First) h = tt
elsewhere_back Order (InTable Second) h = tt
elsewhere_back (Tree f) Order h = tt
elsewhere_back (Tree f) (Tree g) h = λ e. h (sym e)
elsewhere_back (Tree f) (InTable First) h = tt
elsewhere_back (Tree f) (InTable Second) h = tt
elsewhere_back (InTable number) Order h = tt
elsewhere_back (InTable number) (Tree g) h = tt
elsewhere_back (InTable First) (InTable First) h = absurd h
elsewhere_back (InTable First) (InTable Second) h = tt
elsewhere_back (InTable Second) (InTable First) h = tt
elsewhere_back (InTable Second) (InTable Second) h = absurd h

-- an index with a file of another name is elsewhere
apart_by_name : (files : Table) (i j : ℕ) (a b : Access) → i ≢ j → HasFile files i a → HasFile files j b → ((number : TableId) → a ≡ InTable number → IsElsewhere a b) → IsElsewhere a b
apart_by_name files i j Order b other x y table = tt
apart_by_name files i j (Tree f) Order other x y table = tt
apart_by_name files i j (Tree f) (Tree g) other x y table = differ files f g (tree_file i) (tree_file j) x y (trees_apart i j other)
apart_by_name files i j (Tree f) (InTable number) other x y table = tt
apart_by_name files i j (InTable number) b other x y table = table number refl

-- the slot i has an index now, or none. Where it had one, no open cursor reads its relation; the tables of the others are
-- the same, and a new one is no other's
pub record IndexChanges (old new : State) (before after : Tables) (held : Held) (opens : List (Option Open)) (i : ℕ) (x : Option Indexed) (cat : ℕ) : Type 0 where
  pub below : i < 8
  pub has : held.cat ≡ Some cat
  pub leaves : LeavesOthers old new (tree_file i)
  pub bytes : HasBytes old new cat (with_index_slot (bytes_at old.files cat) i (option_map index_known x))
  pub idle : new.draft ≡ None
  pub slot : IsIndexSlot new after held i x
  pub tables : (j : ℕ) (y : Indexed) (number : TableId) → j ≢ i → get_or held.indexes j None ≡ Some y → y.access ≡ InTable number → entries after number ≡ entries before number
  pub own : (z : Indexed) (number : TableId) → x ≡ Some z → z.access ≡ InTable number → (j : ℕ) (y : Indexed) → j ≢ i → get_or held.indexes j None ≡ Some y → IsElsewhere z.access y.access
  pub unread : (y : Indexed) (t : Tuples) → get_or held.indexes i None ≡ Some y → get_or held.relations y.relation None ≡ Some t → (n : ℕ) (o : Open) → get_or opens n None ≡ Some o → ReadsRows o t → ⊥

-- the file of an index
index_file : (state : State) (tables : Tables) (i : ℕ) (x : Indexed) (o : Option Tuples) → IsIndexedOn state tables i x o → HasFile state.files i x.access
index_file state tables i x None h = absurd h
index_file state tables i x (Some t) h = h.file

module _ (old new : State) (before after : Tables) (held : Held) (opens : List (Option Open)) (i : ℕ) (x : Option Indexed) (cat : ℕ) (r : IsRunning old before held opens)
    (u : IndexChanges old new before after held opens i x cat) where
  other_slot : (j : ℕ) → j ≢ i → get_or (set held.indexes i x) j None ≡ get_or held.indexes j None
  other_slot j other = get_or-set_other held.indexes i j x None other

  this_slot : (j : ℕ) → j ≡ i → get_or (set held.indexes i x) j None ≡ x
  this_slot j same = ap (λ (n : ℕ). get_or (set held.indexes i x) n None) same ∙ get_or-set_same held.indexes i x None (omega (arith, r.eight_indexes, u.below))

  index_slot : (j : ℕ) → j ≢ i → (o : Option Indexed) → get_or held.indexes j None ≡ o → IsIndexSlot old before held j o → IsIndexSlot new after held j o
  index_slot j other None e h = u.leaves.unnamed (tree_file j) (λ same. catalog_no_tree j (sym same)) (trees_apart j i other) h
  index_slot j other (Some y) e h = kept_index old new before after held opens r (tree_file i) u.leaves j y e (trees_apart j i other) (row_no_tree y.relation i) (λ number is. u.tables j y number other e is)

  index_with : (j : ℕ) (o : Option Indexed) → IsIndexSlot new after held j o → IsIndexSlot new after (with_indexed held i x) j o
  index_with j None h = h
  index_with j (Some y) h = h

  pub index_stays : (n : ℕ) (o : Open) → get_or opens n None ≡ Some o → StaysFor (tree_file i) held (with_indexed held i x) o
  index_stays n o open_here = record {
    relation = λ j s reads there. (row_no_tree j i, there);
    index = λ j s reads there m y e rel.
        other_slot m (λ same. u.unread y s (ap (λ (k : ℕ). get_or held.indexes k None) (sym same) ∙ e) (ap (λ (k : ℕ). get_or held.relations k None) rel ∙ there) n o open_here reads) ∙ e;
  }

  cursor_slot : (n : ℕ) → n < 4 → (o : Option Open) → get_or opens n None ≡ o → IsCursorSlot old held o → IsCursorSlot new (with_indexed held i x) o
  cursor_slot n below o e h = kept_cursor old new before after held opens r (tree_file i) u.leaves (with_indexed held i x) o (λ p is. index_stays n p (e ∙ is)) h

  file_of : (j : ℕ) → j < 8 → (y : Indexed) → j ≢ i → get_or held.indexes j None ≡ Some y → HasFile new.files j y.access
  file_of j below y other e =
      index_file new after j y (get_or held.relations y.relation None)
      (let P : Option Indexed → Type 0 = λ o. IsIndexSlot new after held j o in subst P e (index_slot j other (get_or held.indexes j None) refl (r.indexes j below)))

  own_file : (z : Indexed) → x ≡ Some z → HasFile new.files i z.access
  own_file z e =
      index_file new after i z (get_or held.relations z.relation None)
      (let P : Option Indexed → Type 0 = λ o. IsIndexSlot new after held i o in subst P e u.slot)

  new_apart : (z : Indexed) → x ≡ Some z → (j : ℕ) (y : Indexed) → j ≢ i → get_or held.indexes j None ≡ Some y → IsElsewhere z.access y.access
  new_apart z is j y other e =
      apart_by_name new.files i j z.access y.access (λ same. other (sym same)) (own_file z is) (file_of j (omega (arith, some_inside held.indexes j y e, r.eight_indexes)) y other e)
      (λ number at. u.own z number is at j y other e)

  index_apart : (a b : ℕ) (y z : Indexed) → a ≢ b → get_or (set held.indexes i x) a None ≡ Some y → get_or (set held.indexes i x) b None ≡ Some z → IsElsewhere y.access z.access
  index_apart a b y z other ey ez =
      ⊎_elim
      (λ sa. ⊎_elim
      (λ sb. absurd (other (sa ∙ sym sb)))
      (λ ob. new_apart y (sym (this_slot a sa) ∙ ey) b z ob (sym (other_slot b ob) ∙ ez))
      (cases_eq b i))
      (λ oa. ⊎_elim
      (λ sb. elsewhere_back z.access y.access (new_apart z (sym (this_slot b sb) ∙ ez) a y oa (sym (other_slot a oa) ∙ ey)))
      (λ ob. r.apart a b y z other (sym (other_slot a oa) ∙ ey) (sym (other_slot b ob) ∙ ez))
      (cases_eq b i))
      (cases_eq a i)

  cat_bytes : IsTrue old.tells → bytes_of_catalog new.files held.cat ≡ with_index_slot (bytes_at old.files cat) i (option_map index_known x)
  cat_bytes told = bytes_there new.files held.cat cat u.has ∙ u.bytes.bytes told

  old_size : IsCatalogSize (length (bytes_at old.files cat))
  old_size = (catalog_there old before held opens cat r u.has).1

  pub index_running : IsRunning new after (with_indexed held i x) opens
  index_running = record {
    idle = u.idle;
    distinct = u.leaves.distinct r.distinct;
    known = u.leaves.known r.known;
    version = inr refl;
    eight = r.eight;
    eight_indexes = length-set held.indexes i x ∙ r.eight_indexes;
    four = r.four;
    relations = λ j below. kept_relation old new before after held opens r (tree_file i) u.leaves 2 (limit_grows held.version) j (get_or held.relations j None) refl (row_no_tree j i) (r.relations j below);
    indexes = λ j below. let P : Option Indexed → Type 0 = λ o. IsIndexSlot new after (with_indexed held i x) j o in
        ⊎_elim
        (λ same. subst P (sym (this_slot j same)) (index_with j x (subst (λ (k : ℕ). IsIndexSlot new after held k x) (sym same) u.slot)))
        (λ other. subst P (sym (other_slot j other)) (index_with j (get_or held.indexes j None) (index_slot j other (get_or held.indexes j None) refl (r.indexes j below))))
        (cases_eq j i);
    apart = index_apart;
    cursors = λ n below. cursor_slot n below (get_or opens n None) refl (r.cursors n below);
    catalog = let P : Option ℕ → Type 0 = λ o. HasCatalogFile new.files o in subst P (sym u.has) (u.bytes.named, inr (inr u.bytes.size), u.bytes.kind);
    listed = λ told. let past = sym u.leaves.tells ∙ told in
        ap catalog_of (cat_bytes past)
        ∙ index_changed (bytes_at old.files cat) i (option_map index_known x) old_size u.below
        ∙ ap (λ (c : Slots). index_replaced c i (option_map index_known x)) (ap catalog_of (sym (bytes_there old.files held.cat cat u.has)) ∙ r.listed past)
        ∙ ap (λ (xs : List (Option Index)). record { version = 2; relations = map (option_map schema_in) held.relations; indexes = xs }) (sym (map-set (option_map index_known) held.indexes i x));
    written = λ told some. let past = sym u.leaves.tells ∙ told in
        subst IsWritten (sym (cat_bytes past))
        (index_written (bytes_at old.files cat) i (option_map index_known x) old_size u.below (subst IsWrittenOrEmpty (bytes_there old.files held.cat cat u.has) (r.written past)));
  }

  pub index_view : IsTrue old.tells → view new.files (with_indexed held i x) opens ≡ record (with_index (view old.files held opens) i (option_map index_known x)) { version = 2 }
  index_view told =
      let rs : map (option_map (relation_of_rows new.files)) held.relations ≡ map (option_map (relation_of_rows old.files)) held.relations =
      mapped_same (relation_of_rows new.files) (relation_of_rows old.files) held.relations (λ j s e. same_relation old new before after held opens r (tree_file i) u.leaves j s (row_no_tree j i) e) in
      let cs : map (option_map (cursor_in new.files)) opens ≡ map (option_map (cursor_in old.files)) opens =
      mapped_same (cursor_in new.files) (cursor_in old.files) opens (λ n o e. same_cursor old new before after held opens r (tree_file i) u.leaves (with_indexed held i x) told n o e (index_stays n o e)) in
      λ p. record { version = 2; relations = rs p; indexes = map-set (option_map index_known) held.indexes i x p; cursors = cs p }

-- ---- a relation has come, grown by an attribute, or gone

-- the slot k has a relation now that is read back as it was written, or none. No open cursor reads rows of the one that it
-- had, and the indexes of the new one are complete for it
pub record RelationChanges (old new : State) (tables : Tables) (held : Held) (opens : List (Option Open)) (k : ℕ) (t : Option Tuples) (cat : ℕ) : Type 0 where
  pub below : k < 8
  pub has : held.cat ≡ Some cat
  pub leaves : LeavesOthers old new (rows_file k)
  pub bytes : HasBytes old new cat (with_relation_slot (bytes_at old.files cat) k (option_map schema_in t))
  pub idle : new.draft ≡ None
  pub back : IsTrue old.tells → IsReadBack (option_map schema_in t)
  pub slot : IsRelationSlot new 2 k t
  pub indexes : (j : ℕ) (y : Indexed) → get_or held.indexes j None ≡ Some y → y.relation ≡ k → IsIndexedOn new tables j y t
  pub unread : (s : Tuples) → get_or held.relations k None ≡ Some s → (n : ℕ) (o : Open) → get_or opens n None ≡ Some o → ReadsRows o s → ⊥

module _ (old new : State) (tables : Tables) (held : Held) (opens : List (Option Open)) (k : ℕ) (t : Option Tuples) (cat : ℕ) (r : IsRunning old tables held opens)
    (u : RelationChanges old new tables held opens k t cat) where
  other_relation : (j : ℕ) → j ≢ k → get_or (set held.relations k t) j None ≡ get_or held.relations j None
  other_relation j other = get_or-set_other held.relations k j t None other

  this_relation : (j : ℕ) → j ≡ k → get_or (set held.relations k t) j None ≡ t
  this_relation j same = ap (λ (n : ℕ). get_or (set held.relations k t) n None) same ∙ get_or-set_same held.relations k t None (omega (arith, r.eight, u.below))

  tree_no_row : (i : ℕ) → tree_file i ≢ rows_file k
  tree_no_row i e = row_no_tree k i (sym e)

  relation_index : (j : ℕ) (o : Option Indexed) → get_or held.indexes j None ≡ o → IsIndexSlot old tables held j o → IsIndexSlot new tables (with_tuples held k t) j o
  relation_index j None e h = u.leaves.unnamed (tree_file j) (λ same. catalog_no_tree j (sym same)) (tree_no_row j) h
  relation_index j (Some y) e h =
      let P : Option Tuples → Type 0 = λ o. IsIndexedOn new tables j y o in
      ⊎_elim
      (λ same. subst P (sym (this_relation y.relation same)) (u.indexes j y e same))
      (λ other. subst P (sym (other_relation y.relation other))
      (kept_index old new tables tables held opens r (rows_file k) u.leaves j y e (tree_no_row j) (rows_apart y.relation k other) (λ number is. refl)))
      (cases_eq y.relation k)

  pub relation_stays : (n : ℕ) (o : Open) → get_or opens n None ≡ Some o → StaysFor (rows_file k) held (with_tuples held k t) o
  relation_stays n o open_here = record {
    relation = λ j s reads there.
        let other : j ≢ k = λ same. u.unread s (ap (λ (m : ℕ). get_or held.relations m None) (sym same) ∙ there) n o open_here reads in
        (rows_apart j k other, other_relation j other ∙ there);
    index = λ j s reads there m y e rel. e;
  }

  new_bytes : IsTrue old.tells → bytes_of_catalog new.files held.cat ≡ with_relation_slot (bytes_at old.files cat) k (option_map schema_in t)
  new_bytes told = bytes_there new.files held.cat cat u.has ∙ u.bytes.bytes told

  was_size : IsCatalogSize (length (bytes_at old.files cat))
  was_size = (catalog_there old tables held opens cat r u.has).1

  pub relation_running : IsRunning new tables (with_tuples held k t) opens
  relation_running = record {
    idle = u.idle;
    distinct = u.leaves.distinct r.distinct;
    known = u.leaves.known r.known;
    version = inr refl;
    eight = length-set held.relations k t ∙ r.eight;
    eight_indexes = r.eight_indexes;
    four = r.four;
    relations = λ j below. let P : Option Tuples → Type 0 = λ o. IsRelationSlot new 2 j o in
        ⊎_elim
        (λ same. subst P (sym (this_relation j same)) (subst (λ (m : ℕ). IsRelationSlot new 2 m t) (sym same) u.slot))
        (λ other. subst P (sym (other_relation j other))
        (kept_relation old new tables tables held opens r (rows_file k) u.leaves 2 (limit_grows held.version) j (get_or held.relations j None) refl (rows_apart j k other) (r.relations j below)))
        (cases_eq j k);
    indexes = λ j below. relation_index j (get_or held.indexes j None) refl (r.indexes j below);
    apart = r.apart;
    cursors = λ n below. kept_cursor old new tables tables held opens r (rows_file k) u.leaves (with_tuples held k t) (get_or opens n None) (λ p is. relation_stays n p is) (r.cursors n below);
    catalog = let P : Option ℕ → Type 0 = λ o. HasCatalogFile new.files o in subst P (sym u.has) (u.bytes.named, inr (inr u.bytes.size), u.bytes.kind);
    listed = λ told. let past = sym u.leaves.tells ∙ told in
        ap catalog_of (new_bytes past)
        ∙ relation_changed (bytes_at old.files cat) k (option_map schema_in t) was_size u.below (u.back past)
        ∙ ap (λ (c : Slots). relation_replaced c k (option_map schema_in t)) (ap catalog_of (sym (bytes_there old.files held.cat cat u.has)) ∙ r.listed past)
        ∙ ap (λ (rs : List (Option Schema)). record { version = 2; relations = rs; indexes = map (option_map index_known) held.indexes }) (sym (map-set (option_map schema_in) held.relations k t));
    written = λ told some. let past = sym u.leaves.tells ∙ told in
        subst IsWritten (sym (new_bytes past))
        (relation_written (bytes_at old.files cat) k (option_map schema_in t) was_size u.below (u.back past) (subst IsWrittenOrEmpty (bytes_there old.files held.cat cat u.has) (r.written past)));
  }

  pub relation_view : IsTrue old.tells → view new.files (with_tuples held k t) opens ≡ record (with_relation (view old.files held opens) k (option_map (relation_of_rows new.files) t)) { version = 2 }
  relation_view told =
      let rs : map (option_map (relation_of_rows new.files)) (set held.relations k t) ≡ set (map (option_map (relation_of_rows old.files)) held.relations) k (option_map (relation_of_rows new.files) t) =
      mapped_put (relation_of_rows new.files) (relation_of_rows old.files) held.relations k t (λ j s other e. same_relation old new tables tables held opens r (rows_file k) u.leaves j s (rows_apart j k other) e) in
      let cs : map (option_map (cursor_in new.files)) opens ≡ map (option_map (cursor_in old.files)) opens =
      mapped_same (cursor_in new.files) (cursor_in old.files) opens (λ n o e. same_cursor old new tables tables held opens r (rows_file k) u.leaves (with_tuples held k t) told n o e (relation_stays n o e)) in
      λ p. record { version = 2; relations = rs p; indexes = map (option_map index_known) held.indexes; cursors = cs p }
