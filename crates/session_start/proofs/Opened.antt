-- What is held, when all rules are kept: a session that runs, over files that are sound and stand for what is seen.
use Rattle.std.proofs.Common.{◌≡◌, ℕ, ◌<◌, inl, inr, List, [], length, map, get_or, replicate, Option, Some, None, refl, ap, sym, ◌∙◌, subst, arith, IsTrue, ℤ}
use Rattle.std.specs.Prelude.{option_map}
use Rattle.std.specs.List.{range_with_len}
use Rattle.std.specs.Option.{option_map_or}
use Rattle.std.proofs.lemmas.List.{ext_get_or, length-map}
use Rattle.std.proofs.lemmas.List.FromFn.{get_or-map-range_with_len, length-map-range_with_len}
use Rattle.afl_base.specs.Files.{IsNamed, State, bytes_at}
use Rattle.catalog.specs.Rules.{catalog_bytes_in, catalog_in, first_broken}
use Rattle.db_model.specs.declared.schemas.Schema.{Schema}
use Rattle.db_model.specs.Catalog.{Catalog as Slots, Index, catalog_of}
use Rattle.db_model.specs.Database.{Database, Relation}
use Rattle.db_model.specs.Row.{Row, rows_of}
use Rattle.db_model.specs.Step.{keys}
use Rattle.index_set.specs.declared.info.Access.{Access}
use Rattle.index_set.specs.declared.info.Access.TheVariants.{Order, Tree, Table as InTable}
use Rattle.index_set.specs.Plans.{access_kind}
use Rattle.index_set.specs.Tables.{Tables}
use Rattle.padded.proofs.Facts.{none_there, seen_at, some_same, none_some}
use Rattle.space_model.specs.Enough.{rows_in}
use Rattle.space_model.specs.FileNames.{bytes_named, bytes_in_file, catalog_file, rows_file, tree_file}
use Rattle.space_model.proofs.NamedFiles.{named_found}
use Rattle.stored.specs.Base as stored
use Rattle.stored.specs.Base.{base_of}
use Rattle.stored.specs.Sound.{BreaksFirst, IsIndexComplete, IsSoundTable, KeepsIndex, KeepsRows}
use Rattle.tuple_file.specs.declared.tuples.Tuples.{Tuples}
use Rattle.tuple_file.specs.Tuples.{AreRows, rows}
use Rattle.session_model.specs.declared.held.Held.{Held}
use Rattle.session_model.specs.declared.held.Indexed.{Indexed}
use Rattle.session_model.specs.declared.held.Open.{Open}
use Rattle.session_model.specs.Frames.{schema_in}
use Rattle.session_model.specs.Indexed.{index_known}
use Rattle.session_model.specs.Running.{HasFile, IsCursorSlot, IsIndexSlot, IsIndexedOn, IsListed, IsRelationSlot, IsRunning, IsWrittenOrEmpty, bytes_of_catalog}
use Rattle.session_model.specs.View.{relation_of_rows, view}
use Rattle.session_model.proofs.Sound.{catalog_found}
use Rattle.session_start.specs.Found.{HasRowFile, AreFilesFound, IsPlacedOn, IsPlacedSlot, slots_held}
use Rattle.session_start.specs.Judged.{AllEight, BreaksHeld, HasRows, HoldsFew, HoldsSlot, IsKept, IsReadyOf, IsReadyOn, IsReadySlot, KeepsSlot, AreRowsOf, IsKeptOf, IsKeptOn}
use Rattle.session_start.proofs.Slots.{first_as}
use Rattle.session_start.proofs.Written.{written_of}

-- ---- bytes by name

module _ (state : State) (held : Held) (f : AreFilesFound state held) where
  named_bytes : (id : ℕ) (name : List ℕ) → IsNamed state.files id name → bytes_named name state.files ≡ bytes_at state.files id
  named_bytes id name named = ap bytes_in_file (named_found state.files id name f.distinct named)

  catalog_seen : catalog_bytes_in state.files ≡ bytes_of_catalog state.files held.cat
  catalog_seen = catalog_found state.files held.cat f.catalog (λ id named. named_bytes id catalog_file named)

  relation_bytes : (k : ℕ) (t : Tuples) → k < 8 → get_or held.relations k None ≡ Some t → bytes_named (rows_file k) state.files ≡ bytes_at state.files t.file
  relation_bytes k t below e = let P : Option Tuples → Type 0 = λ o. HasRowFile state.files k o in named_bytes t.file (rows_file k) (subst P e (f.relations k below)).1

  -- ---- the database that files stand for

  module _ (same : slots_held held ≡ catalog_in state.files) where
    pub listed : IsListed state.files held
    listed = sym (ap catalog_of catalog_seen) ∙ sym same

    abbrev base_by : Slots → Database
    base_by c = record {
      version = c.version;
      relations = map (stored.relation_stored state.files c.relations) (range_with_len 0 8);
      indexes = c.indexes;
      cursors = replicate 4 None;
    }

    abbrev with_rows : ℕ → Schema → Relation
    with_rows k schema = record { schema = schema; rows = rows_of schema.attributes (bytes_named (rows_file k) state.files) }

    one_relation : (k : ℕ) (o : Option Tuples) → k < 8 → get_or held.relations k None ≡ o → option_map (with_rows k) (option_map schema_in o) ≡ option_map (relation_of_rows state.files) o
    one_relation k None below e = refl
    one_relation k (Some t) below e = ap (λ (bytes : List ℕ). Some (record { schema = t.schema; rows = rows_of t.schema.attributes bytes })) (relation_bytes k t below e)

    relations_are : map (stored.relation_stored state.files (map (option_map schema_in) held.relations)) (range_with_len 0 8) ≡ map (option_map (relation_of_rows state.files)) held.relations
    relations_are =
        let g : ℕ → Option Relation = stored.relation_stored state.files (map (option_map schema_in) held.relations) in
        let many : length (map g (range_with_len 0 8)) ≡ 8 = length-map-range_with_len g 0 8 in
        let long = length-map held.relations (option_map (relation_of_rows state.files)) in
        ext_get_or None (map g (range_with_len 0 8)) (map (option_map (relation_of_rows state.files)) held.relations) (many ∙ sym (long ∙ f.eight))
        (λ k h.
        let below : k < 8 = omega (arith, h, many) in
        get_or-map-range_with_len g 0 8 k k None below (omega arith)
        ∙ ap (option_map (with_rows k)) (seen_at schema_in held.relations k)
        ∙ one_relation k (get_or held.relations k None) below refl
        ∙ sym (seen_at (relation_of_rows state.files) held.relations k))

    pub base_is : base_of state.files ≡ view state.files held (replicate 4 None)
    base_is = ap base_by (sym same) ∙ (λ i. record { version = held.version; relations = relations_are i; indexes = map (option_map index_known) held.indexes; cursors = replicate 4 None })

    -- ---- the rule on rows

    -- the rule, over the slots of a catalog
    abbrev KeepsIn : ℕ → Slots → Type 0
    KeepsIn k c = (schema : Schema) → get_or c.relations k None ≡ Some schema → AreRows c.version schema.attributes (bytes_named (rows_file k) state.files)

    pub to_rows : (k : ℕ) → k < 8 → HasRows state.files held k → KeepsRows state.files k
    to_rows k below h = subst (KeepsIn k) same (λ schema e. by_slot (get_or held.relations k None) refl h schema (sym (seen_at schema_in held.relations k) ∙ e))
      where
        by_slot : (o : Option Tuples) → get_or held.relations k None ≡ o → AreRowsOf state.files held.version o → (schema : Schema) → option_map schema_in o ≡ Some schema
            → AreRows held.version schema.attributes (bytes_named (rows_file k) state.files)
        by_slot None e h schema s = absurd (none_some schema s)
        by_slot (Some t) e h schema s =
            let P : List ℕ → Type 0 = λ bytes. AreRows held.version t.schema.attributes bytes in
            let Q : Schema → Type 0 = λ z. AreRows held.version z.attributes (bytes_named (rows_file k) state.files) in
            subst Q (some_same t.schema schema s) (subst P (sym (relation_bytes k t below e)) h)

    pub from_rows : (k : ℕ) → k < 8 → KeepsRows state.files k → HasRows state.files held k
    from_rows k below h = by_slot (get_or held.relations k None) refl
      where
        by_slot : (o : Option Tuples) → get_or held.relations k None ≡ o → AreRowsOf state.files held.version o
        by_slot None e = tt
        by_slot (Some t) e =
            let P : List ℕ → Type 0 = λ bytes. AreRows held.version t.schema.attributes bytes in
            subst P (relation_bytes k t below e) (subst (KeepsIn k) (sym same) h t.schema (seen_at schema_in held.relations k ∙ ap (option_map schema_in) e))

    -- ---- the rule on indexes

    -- the rule, over some indexes and the rows of relations
    abbrev KeepsBy : ℕ → Slots → Database → Type 0
    KeepsBy i c db = (index : Index) → get_or c.indexes i None ≡ Some index → IsIndexComplete index.kind (bytes_named (tree_file i) state.files) (keys index.attribute (rows_in db index.relation))

    rows_seen : (k : ℕ) (t : Tuples) → get_or held.relations k None ≡ Some t → rows_in (view state.files held (replicate 4 None)) k ≡ rows state.files t
    rows_seen k t e = ap (λ (o : Option Relation). option_map_or (λ (r : Relation). r.rows) o []) (seen_at (relation_of_rows state.files) held.relations k ∙ ap (option_map (relation_of_rows state.files)) e)

    to_complete : (i : ℕ) (access : Access) (ks : List ℤ) → HasFile state.files i access → IsKept state.files access ks → IsIndexComplete (access_kind access) (bytes_named (tree_file i) state.files) ks
    to_complete i Order ks file h = h
    to_complete i (Tree file) ks named h = subst (λ (bytes : List ℕ). IsIndexComplete (access_kind (Tree file)) bytes ks) (sym (named_bytes file (tree_file i) named)) h
    to_complete i (InTable number) ks file h = h

    from_complete : (i : ℕ) (access : Access) (ks : List ℤ) → HasFile state.files i access → IsIndexComplete (access_kind access) (bytes_named (tree_file i) state.files) ks → IsKept state.files access ks
    from_complete i Order ks file h = h
    from_complete i (Tree file) ks named h = subst (λ (bytes : List ℕ). IsIndexComplete (access_kind (Tree file)) bytes ks) (named_bytes file (tree_file i) named) h
    from_complete i (InTable number) ks file h = h

    to_on : (i : ℕ) (x : Indexed) (o : Option Tuples) → get_or held.relations x.relation None ≡ o → IsPlacedOn state i x o → IsKeptOn state.files x o
        → IsIndexComplete (access_kind x.access) (bytes_named (tree_file i) state.files) (keys x.attribute (rows_in (view state.files held (replicate 4 None)) x.relation))
    to_on i x None e p h = absurd p
    to_on i x (Some t) e p h =
        subst (λ (all : List Row). IsIndexComplete (access_kind x.access) (bytes_named (tree_file i) state.files) (keys x.attribute all)) (sym (rows_seen x.relation t e))
        (to_complete i x.access (keys x.attribute (rows state.files t)) p.file h)

    from_on : (i : ℕ) (x : Indexed) (o : Option Tuples) → get_or held.relations x.relation None ≡ o → IsPlacedOn state i x o
        → IsIndexComplete (access_kind x.access) (bytes_named (tree_file i) state.files) (keys x.attribute (rows_in (view state.files held (replicate 4 None)) x.relation)) → IsKeptOn state.files x o
    from_on i x None e p h = tt
    from_on i x (Some t) e p h =
        from_complete i x.access (keys x.attribute (rows state.files t)) p.file
        (subst (λ (all : List Row). IsIndexComplete (access_kind x.access) (bytes_named (tree_file i) state.files) (keys x.attribute all)) (rows_seen x.relation t e) h)

    pub to_index : (i : ℕ) → i < 8 → KeepsSlot state.files held i → KeepsIndex state.files i
    to_index i below h =
        let now : KeepsBy i (slots_held held) (view state.files held (replicate 4 None)) = λ index e.
        by_slot (get_or held.indexes i None) (f.indexes i below) h index (sym (seen_at index_known held.indexes i) ∙ e) in
        subst (KeepsBy i (catalog_in state.files)) (sym base_is) (subst (λ (c : Slots). KeepsBy i c (view state.files held (replicate 4 None))) same now)
      where
        by_slot : (o : Option Indexed) → IsPlacedSlot state held.relations i o → IsKeptOf state.files held.relations o → (index : Index) → option_map index_known o ≡ Some index
            → IsIndexComplete index.kind (bytes_named (tree_file i) state.files) (keys index.attribute (rows_in (view state.files held (replicate 4 None)) index.relation))
        by_slot None p h index e = absurd (none_some index e)
        by_slot (Some x) p h index e =
            let P : Index → Type 0 = λ z. IsIndexComplete z.kind (bytes_named (tree_file i) state.files) (keys z.attribute (rows_in (view state.files held (replicate 4 None)) z.relation)) in
            subst P (some_same (index_known x) index e) (to_on i x (get_or held.relations x.relation None) refl p h)

    pub from_index : (i : ℕ) → i < 8 → KeepsIndex state.files i → KeepsSlot state.files held i
    from_index i below h = by_slot (get_or held.indexes i None) refl (f.indexes i below)
      where
        now : KeepsBy i (slots_held held) (view state.files held (replicate 4 None))
        now = subst (λ (c : Slots). KeepsBy i c (view state.files held (replicate 4 None))) (sym same) (subst (KeepsBy i (catalog_in state.files)) base_is h)

        by_slot : (o : Option Indexed) → get_or held.indexes i None ≡ o → IsPlacedSlot state held.relations i o → IsKeptOf state.files held.relations o
        by_slot None e p = tt
        by_slot (Some x) e p = from_on i x (get_or held.relations x.relation None) refl p (now (index_known x) (seen_at index_known held.indexes i ∙ ap (option_map index_known) e))

    -- ---- what is answered

    module _ (unbroken : first_broken state.files ≡ None) where
      pub breaks_of : (rule place : ℕ) → BreaksHeld state.files held rule place → BreaksFirst state.files rule place
      breaks_of rule place (inl b) = inr (inl (record { catalog = unbroken; rule_is = b.0; first = first_as (HasRows state.files held) (KeepsRows state.files) place to_rows from_rows b.1 }))
      breaks_of rule place (inr b) = inr (inr (record {
        catalog = unbroken;
        rows = λ k below. to_rows k below (b.1 k below);
        rule_is = b.0;
        first = first_as (KeepsSlot state.files held) (KeepsIndex state.files) place to_index from_index b.2;
      }))

      pub sound_of : AllEight (HasRows state.files held) → AllEight (KeepsSlot state.files held) → IsSoundTable state.files
      sound_of rows indexes = record { catalog = unbroken; rows = λ k below. to_rows k below (rows k below); indexes = λ i below. to_index i below (indexes i below) }

  -- ---- the session runs

  relation_slot : (k : ℕ) (o : Option Tuples) → HasRowFile state.files k o → HoldsFew state held.version o → IsRelationSlot state held.version k o
  relation_slot k None file h = file
  relation_slot k (Some t) file h = record { holds = h.0; named = file.1; few = h.1 }

  index_on : (tables : Tables) (i : ℕ) (x : Indexed) (o : Option Tuples) → IsPlacedOn state i x o → IsReadyOn state tables x o → IsIndexedOn state tables i x o
  index_on tables i x None p h = absurd p
  index_on tables i x (Some t) p h = record { place = p.place; allowed = p.allowed; held = h.held; file = p.file; complete = h.complete }

  index_slot : (tables : Tables) (i : ℕ) (o : Option Indexed) → IsPlacedSlot state held.relations i o → IsReadyOf state tables held.relations o → IsIndexSlot state tables held i o
  index_slot tables i None p h = p
  index_slot tables i (Some x) p h = index_on tables i x (get_or held.relations x.relation None) p h

  written_held : slots_held held ≡ catalog_in state.files → first_broken state.files ≡ None → IsWrittenOrEmpty (bytes_of_catalog state.files held.cat)
  written_held same unbroken = subst IsWrittenOrEmpty catalog_seen (written_of state.files unbroken)

  pub running_of : (tables : Tables) → state.draft ≡ None → AllEight (HoldsSlot state held) → AllEight (IsReadySlot state tables held) → (IsTrue state.tells → slots_held held ≡ catalog_in state.files)
      → (IsTrue state.tells → first_broken state.files ≡ None) → IsRunning state tables held (replicate 4 None)
  running_of tables idle holds ready same unbroken = record {
    idle = idle;
    distinct = f.distinct;
    known = f.known;
    version = f.version;
    eight = f.eight;
    eight_indexes = f.eight_indexes;
    four = refl;
    relations = λ k below. relation_slot k (get_or held.relations k None) (f.relations k below) (holds k below);
    indexes = λ i below. index_slot tables i (get_or held.indexes i None) (f.indexes i below) (ready i below);
    apart = f.apart;
    cursors = λ n below. let P : Option Open → Type 0 = λ o. IsCursorSlot state held o in subst P (sym (none_there 4 n)) tt;
    catalog = f.catalog;
    listed = λ told. listed (same told);
    written = λ told. written_held (same told) (unbroken told);
  }
